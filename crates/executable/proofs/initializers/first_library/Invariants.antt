use Rattle.std.proofs.Common.{◌≡◌, drop}
use Rattle.executable.specs.Initializers.{has_functions, first_among, first_library}
use Rattle.executable.proofs.initializers.first_library.Given as goal

abbrev pub invariant-loop-library : goal.invariant-loop-library
invariant-loop-library l =
    let has = has_functions l.fn.tags.function l.fn.tags.array l.fn.tags.size in
    first_among has (drop l.library-index l.libraries) l.segments ≡ first_library has l.fn.image
