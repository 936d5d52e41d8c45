use Rattle.commands.proofs.Asking.{made_told}
use Rattle.commands.proofs.on_disk.format.Goals as goal

pub returns-in-Ok-clause-ends : goal.returns-in-Ok-clause-ends
returns-in-Ok-clause-ends g c =
    let made = c.in-Ok.ensures.ok in
    made_told _ _ c.args.sectors made.0 made.1 _ made.2 c.write_disk_answer.ensures
