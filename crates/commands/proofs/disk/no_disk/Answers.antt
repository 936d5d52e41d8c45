use Rattle.std.proofs.Common.{refl}
use Rattle.std.proofs.lemmas.Bool.{false≢true}
use Rattle.commands.proofs.disk.no_disk.Goals as goal

-- a disk without sectors has no valid geometry
pub returns-in-BadLength : goal.returns-in-BadLength
returns-in-BadLength c = record { «open» = (0, λ h. false≢true h); format = (0, λ h. false≢true h); upgrade = (0, λ h. false≢true h) }

pub returns-in-OutOfMemory : goal.returns-in-OutOfMemory
returns-in-OutOfMemory c = record { «open» = (8, refl); format = (8, refl); upgrade = (8, refl) }
