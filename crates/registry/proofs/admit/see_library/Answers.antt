use Rattle.std.proofs.Common.{◌≡◌, Some, None, inl, inr, refl, sym, ◌∙◌}
use Rattle.hash_check.specs.FileRefusal.{first_file_refusal}
use Rattle.requests.proofs.Sonames.{file_taken}
use Rattle.registry.proofs.admit.see_library.Goals as goal

pub returns-in-Err-File-clause-damaged : goal.returns-in-Err-File-clause-damaged
returns-in-Err-File-clause-damaged c e is =
    let refused : first_file_refusal c.args.bytes.now ≡ Some c.in-Err-File.field-0-0 = rw c.in-Err-File.field-0-is at c.in-Err-File.ensures.refused in
    let none : None ≡ Some c.in-Err-File.field-0-0 = sym (file_taken c.args.bytes.now is.accepted) ∙ refused in
    cc

pub returns-then-is_library-clause-damaged : goal.returns-then-is_library-clause-damaged
returns-then-is_library-clause-damaged c = tt

pub returns-in-Err-OutOfMemory-clause-refusals : goal.returns-in-Err-OutOfMemory-clause-refusals
returns-in-Err-OutOfMemory-clause-refusals c = inr refl

pub returns-in-Err-File-clause-refusals : goal.returns-in-Err-File-clause-refusals
returns-in-Err-File-clause-refusals c = inl refl
