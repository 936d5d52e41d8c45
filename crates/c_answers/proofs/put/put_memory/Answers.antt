use Rattle.std.proofs.Common.{arith}
use Rattle.c_answers.proofs.put.put_memory.Goals as goal

pub slice_bounds-put_all-end : goal.slice_bounds-put_all-end
slice_bounds-put_all-end c = omega arith
