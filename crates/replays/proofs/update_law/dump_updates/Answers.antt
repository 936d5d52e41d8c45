use Rattle.replays.proofs.Drafts.{answered, lacks_room, last_lacks_room, renews}
use Rattle.replays.proofs.Scripts.{is_update_text}
use Rattle.replays.proofs.Updates.{cut_changes_nothing, program_leaves, program_renews}
use Rattle.replays.proofs.update_law.dump_updates.Goals as goal

pub returns-clause-lines : goal.returns-clause-lines
returns-clause-lines g c s h = is_update_text s h

pub returns-clause-room : goal.returns-clause-room
returns-clause-room g c s h front rest request p is now = lacks_room s h.state p front rest request is now

pub returns-clause-least : goal.returns-clause-least
returns-clause-least g c s h libraries last p all now small = last_lacks_room s h.state p libraries last all now small

pub returns-clause-answers : goal.returns-clause-answers
returns-clause-answers g c s h front rest request p p' answer is now room step = answered s h.state front rest request p p' answer is now room step

pub returns-clause-end : goal.returns-clause-end
returns-clause-end g c s h = renews s h.state.libraries

pub returns-clause-program : goal.returns-clause-program
returns-clause-program g c s h disk left io ends honest empty unread it =
    program_renews g.D.Disk.facts g.O.Write.contents g.met.D.Disk.holds_now s h disk left io ends honest empty.stored unread it

pub returns-clause-any_moment : goal.returns-clause-any_moment
returns-clause-any_moment g c s h disk left io ends honest empty unread it =
    program_leaves g.D.Disk.facts g.O.Write.contents g.met.D.Disk.holds_now s h disk left io ends honest empty.stored unread it

pub returns-clause-cut : goal.returns-clause-cut
returns-clause-cut g c s k disk left io ends unread it = cut_changes_nothing g.D.Disk.facts g.O.Write.contents s k disk left io ends unread it
