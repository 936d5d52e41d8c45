use Rattle.file_disk.proofs.Followed.{follows}
use Rattle.file_disk.proofs.disk.FileDisk.follows_its_file.Goals as goal

pub returns : goal.returns
returns g c honest = follows c.args.self.now honest
