use Rattle.std.proofs.Common.{arith}
use Rattle.c_answers.proofs.put.put.Goals as goal

pub slice_bounds-copy_from_slice-end : goal.slice_bounds-copy_from_slice-end
slice_bounds-copy_from_slice-end c = omega arith
