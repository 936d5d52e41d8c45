use Rattle.std.specs.Str.{bytes_eq}
use Rattle.scope.specs.Objects.{Named}
use Rattle.plain_registry.proofs.Distinct.{distinct_by}
use Rattle.plain_registry.proofs.libraries.have_distinct_names.Goals as goal

pub returns : goal.returns
returns c = λ e. distinct_by (λ (o : Named). o.name) bytes_eq c.args.libraries.now (c.differ.ensures e)
