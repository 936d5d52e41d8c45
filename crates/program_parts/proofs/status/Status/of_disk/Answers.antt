use Rattle.std.proofs.Common.{ap, sym, inl, inr}
use Rattle.program_parts.specs.Status.{disk_status}
use Rattle.program_parts.proofs.status.Status.of_disk.Goals as goal

pub returns-in-Device : goal.returns-in-Device
returns-in-Device c = elim c.in-Device.is [ inl e ↦ ap disk_status (sym e) | inr e ↦ ap disk_status (sym e) ]
