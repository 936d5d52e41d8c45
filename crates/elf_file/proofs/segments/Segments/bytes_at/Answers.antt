use Rattle.std.proofs.Common.{arith, length, ap}
use Rattle.elf_file.proofs.Spans.{found_fits, short}
use Rattle.elf_file.proofs.segments.Segments.bytes_at.Goals as goal

pub overflow_sub-start : goal.overflow_sub-start
overflow_sub-start c =
    (found_fits c.args.self.now c.headers.result.now c.args.address c.args.size c.find_file_part.result
    c.in-Some.h c.headers.ensures.same c.find_file_part.ensures c.in-Some.is c.if-size-eq0.false c.headers.ensures.loads).from

pub overflow_add-start : goal.overflow_add-start
overflow_add-start c =
    let fits = found_fits c.args.self.now c.headers.result.now c.args.address c.args.size c.find_file_part.result
    c.in-Some.h c.headers.ensures.same c.find_file_part.ensures c.in-Some.is c.if-size-eq0.false c.headers.ensures.loads in
    omega (arith, fits.from, fits.to, fits.within, short c.args.self.now c.headers.ensures.large)

pub part-requires : goal.part-requires
part-requires c =
    let fits = found_fits c.args.self.now c.headers.result.now c.args.address c.args.size c.find_file_part.result
    c.in-Some.h c.headers.ensures.same c.find_file_part.ensures c.in-Some.is c.if-size-eq0.false c.headers.ensures.loads in
    omega (arith, fits.from, fits.to, fits.within, ap length c.file.ensures, ap length c.headers-in-Some.ensures.same)
