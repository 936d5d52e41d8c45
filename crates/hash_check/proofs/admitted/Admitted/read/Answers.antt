use Rattle.std.proofs.Common.{◌≡◌, ◌∙◌, Some, None, subst}
use Rattle.hash_check.specs.Admission.{admission_refusal, NeedsMemory, IsRefusedBy}
use Rattle.hash_check.specs.declared.refusal.AdmitRefusal.TheVariants.{DuplicateDefinition, BadHashTable}
use Rattle.hash_check.proofs.Reading.{taken, of_names, of_table}
use Rattle.hash_check.proofs.admitted.Admitted.read.Goals as goal

pub returns-in-Ok-clause-ok : goal.returns-in-Ok-clause-ok
returns-in-Ok-clause-ok c = taken c.args.file.now c.in_ok-read.ensures.0 (subst (λ f. admission_refusal f ≡ None) c.in_ok-read.ensures.1 c.in-Ok.ensures.ok)

pub returns-in-Ok-clause-same : goal.returns-in-Ok-clause-same
returns-in-Ok-clause-same c = c.in-Ok.ensures.same ∙ c.in_ok-read.ensures.1

pub returns-in-Err-DuplicateDefinition-clause-refused : goal.returns-in-Err-DuplicateDefinition-clause-refused
returns-in-Err-DuplicateDefinition-clause-refused c =
    let refused : admission_refusal c.in_ok-read.field-0 ≡ Some DuplicateDefinition =
    subst (IsRefusedBy c.in_ok-read.field-0) c.in-Err-DuplicateDefinition.field-0-is c.in-Err-DuplicateDefinition.ensures.refused in
    of_names c.args.file.now c.in_ok-read.ensures.0 (subst (λ f. admission_refusal f ≡ Some DuplicateDefinition) c.in_ok-read.ensures.1 refused)

pub returns-in-Err-BadHashTable-clause-refused : goal.returns-in-Err-BadHashTable-clause-refused
returns-in-Err-BadHashTable-clause-refused c =
    let refused : admission_refusal c.in_ok-read.field-0 ≡ Some BadHashTable =
    subst (IsRefusedBy c.in_ok-read.field-0) c.in-Err-BadHashTable.field-0-is c.in-Err-BadHashTable.ensures.refused in
    of_table c.args.file.now c.in_ok-read.ensures.0 (subst (λ f. admission_refusal f ≡ Some BadHashTable) c.in_ok-read.ensures.1 refused)

pub returns-in-Err-OutOfMemory-clause-refused : goal.returns-in-Err-OutOfMemory-clause-refused
returns-in-Err-OutOfMemory-clause-refused c =
    let needs : NeedsMemory c.in_ok-read.field-0 = subst (IsRefusedBy c.in_ok-read.field-0) c.in-Err-OutOfMemory.field-0-is c.in-Err-OutOfMemory.ensures.refused in
    (c.in_ok-read.ensures.0, subst NeedsMemory c.in_ok-read.ensures.1 needs)
