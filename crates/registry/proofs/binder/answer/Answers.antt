use Rattle.std.proofs.Common.{List, ℕ, ap, subst, ◌∙◌}
use Rattle.image.specs.Placement.{is_good_base}
use Rattle.image.proofs.Answering.{program-based}
use Rattle.registry.specs.inside.Walked.{IsBoundBy}
use Rattle.registry.proofs.binder.answer.Goals as goal

pub bind_walked-requires : goal.bind_walked-requires
bind_walked-requires c = ap (λ p. is_good_base p c.args.base) c.in_ok-program.ensures.same ∙ program-based c.args.program.now c.args.base c.requires

pub returns : goal.returns
returns c =
    subst (λ (p : List ℕ). IsBoundBy p c.args.base c.args.walk.now.needs.missing c.args.walk.now.files.items c.bind_walked.result) c.in_ok-program.ensures.same c.bind_walked.ensures
