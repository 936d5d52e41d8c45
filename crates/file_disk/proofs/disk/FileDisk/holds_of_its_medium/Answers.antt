use Rattle.file_disk.proofs.Followed.{holds_of_the_medium}
use Rattle.file_disk.proofs.disk.FileDisk.holds_of_its_medium.Goals as goal

pub returns : goal.returns
returns g c honest = holds_of_the_medium c.args.self.now honest g.P.Property.holds
