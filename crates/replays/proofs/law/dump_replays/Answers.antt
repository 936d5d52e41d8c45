use Rattle.replays.proofs.Answers.{answered}
use Rattle.replays.proofs.Copies.{copied_over}
use Rattle.replays.proofs.Disks.{of_bytes}
use Rattle.replays.proofs.Programs.{cut_refused, program_copies}
use Rattle.replays.proofs.Scripts.{is_script}
use Rattle.replays.proofs.States.{lacks_room, last_lacks_room, leads}
use Rattle.replays.proofs.law.dump_replays.Goals as goal

pub returns-clause-lines : goal.returns-clause-lines
returns-clause-lines g c s h = is_script s h

pub returns-clause-room : goal.returns-clause-room
returns-clause-room g c s h front rest request p is now = lacks_room s h.state p front rest request is now

pub returns-clause-least : goal.returns-clause-least
returns-clause-least g c s h libraries last p all now small = last_lacks_room s h.state p libraries last all now small

pub returns-clause-answers : goal.returns-clause-answers
returns-clause-answers g c s h front rest request p p' answer is now room step = answered s h.state front rest request p p' answer is now room step

pub returns-clause-end : goal.returns-clause-end
returns-clause-end g c s h = leads s h.state.libraries

pub returns-clause-registry : goal.returns-clause-registry
returns-clause-registry g c s h old new answers at run all = copied_over g.D.Disk.facts s h.state.libraries old new at answers run all

pub returns-clause-program : goal.returns-clause-program
returns-clause-program g c s h disk left io honest empty unread ends = program_copies g.D.Disk.facts s h g.met.D.Disk.holds_now disk left io honest empty unread ends

pub returns-clause-cut : goal.returns-clause-cut
returns-clause-cut g c s k disk left io unread ends = cut_refused g.D.Disk.facts s k disk left io unread ends

pub returns-clause-states : goal.returns-clause-states
returns-clause-states g c opened s at libraries = of_bytes g.D.Disk.facts g.met.D.Disk.holds_now g.met.D.Disk.whole_sectors opened s at libraries
