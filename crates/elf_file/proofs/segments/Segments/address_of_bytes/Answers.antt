use Rattle.std.proofs.Common.{arith}
use Rattle.elf_file.proofs.Spans.{found_bytes}
use Rattle.elf_file.proofs.segments.Segments.address_of_bytes.Goals as goal

pub overflow_sub-result : goal.overflow_sub-result
overflow_sub-result c =
    (found_bytes c.args.self.now c.headers.result.now c.args.offset c.args.size c.find_file_bytes.result
    c.in-Some.h c.headers.ensures.same c.find_file_bytes.ensures c.in-Some.is c.headers.ensures.loads c.headers.ensures.large).from

pub overflow_add-result : goal.overflow_add-result
overflow_add-result c =
    let has = found_bytes c.args.self.now c.headers.result.now c.args.offset c.args.size c.find_file_bytes.result
    c.in-Some.h c.headers.ensures.same c.find_file_bytes.ensures c.in-Some.is c.headers.ensures.loads c.headers.ensures.large in
    omega (arith, has.within)
