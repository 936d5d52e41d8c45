use Rattle.std.proofs.Common.{ap, ◌∙◌}
use Rattle.hash_check.specs.FileRefusal.{first_file_refusal}
use Rattle.requests.proofs.Sonames.{file_taken}
use Rattle.registry.proofs.library_file.LibraryFile.admitted.Goals as goal

pub of_accepted-requires : goal.of_accepted-requires
of_accepted-requires c = ap first_file_refusal c.deref.ensures.value ∙ file_taken c.self.inside.bytes.items c.self.invariant.accepted
