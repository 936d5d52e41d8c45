use Rattle.elf_file.proofs.Blocks.{block_later}
use Rattle.elf_file.proofs.indexed_segments.IndexedSegments.later.Goals as goal

pub returns-then-begins_by : goal.returns-then-begins_by
returns-then-begins_by c =
    block_later c.args.self.now c.args.address c.args.first c.args.second c.begins_by.ensures.order c.requires.block c.requires.order (c.begins_by.ensures.begins c.if-begins_by.true)
