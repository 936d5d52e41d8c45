use Rattle.std.proofs.Common.{rules}
use Rattle.executable.proofs.place.place_of.Goals as goal

pub returns-then-room-page : goal.returns-then-room-page
returns-then-room-page c = search rules
