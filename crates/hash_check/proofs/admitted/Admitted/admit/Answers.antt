use Rattle.std.proofs.Common.{[], ◌∷◌, ◌∙◌, ap, sym}
use Rattle.elf_file.specs.FirstOf.{◌when◌, first_of}
use Rattle.hash_check.specs.Admission.{has_bad_hash_table, admission_refusal}
use Rattle.hash_check.specs.declared.refusal.AdmitRefusal.TheVariants.{DuplicateDefinition, BadHashTable}
use Rattle.hash_check.proofs.Deciding.{not_good, shared_names, unique_names}
use Rattle.hash_check.proofs.admitted.Admitted.admit.Goals as goal

pub returns-in_default-clause-refused : goal.returns-in_default-clause-refused
unfolding admission_refusal
returns-in_default-clause-refused c =
    ap (λ b. first_of ((DuplicateDefinition when b) ∷ (BadHashTable when has_bad_hash_table c.args.object) ∷ []))
    (rw c.in_default.is at c.in_ok-exports.ensures.ok)

pub returns-in_default-clause-says : goal.returns-in_default-clause-says
returns-in_default-clause-says c = shared_names c.args.object (sym (rw c.in_default.is at c.in_ok-exports.ensures.ok))

pub returns-then-branch-clause-says : goal.returns-then-branch-clause-says
returns-then-branch-clause-says c = (
  unique_names c.args.object (sym (rw c.in-Some.is at c.in_ok-exports.ensures.ok).0),
  not_good c.args.object (sym c.if-branch.true ∙ c.in_ok-has_bad_hash_table.ensures.ok),
)
