use Rattle.std.proofs.Common.{◌≡◌, ◌+◌, length}
use Rattle.image.specs.inside.Bound.{IsFilled}
use Rattle.registry.specs.inside.Walked.{walked_objects}
use Rattle.registry.proofs.bound.bind_owned.Given as goal

abbrev pub invariant-loop-file : goal.invariant-loop-file
invariant-loop-file l = record {
  place : l.place ≡ length l.yielded + 1;
  filled : IsFilled (walked_objects l.program l.base l.fn.files.items) l.place l.image;
}
