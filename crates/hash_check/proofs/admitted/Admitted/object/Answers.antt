use Rattle.std.proofs.Common.{◌≡◌, subst, None}
use Rattle.hash_check.specs.Admission.{admission_refusal}
use Rattle.hash_check.proofs.Deciding.{admitted_table}
use Rattle.hash_check.proofs.admitted.Admitted.object.Goals as goal

pub returns-clause-table : goal.returns-clause-table
returns-clause-table c = admitted_table c.args.self.now (subst (λ f. admission_refusal f ≡ None) c.self.view_is c.self.invariant.1)
