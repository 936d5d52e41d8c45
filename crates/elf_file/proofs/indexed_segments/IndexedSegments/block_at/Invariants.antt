use Rattle.std.proofs.Common.{◌≤◌, ◌<◌, ◌-◌}
use Rattle.elf_file.proofs.Blocks.{block_address}
use Rattle.elf_file.proofs.indexed_segments.IndexedSegments.block_at.Given as goal

abbrev pub invariant-loop-low : goal.invariant-loop-low
invariant-loop-low l = record {
  order : l.low ≤ l.high;
  most : l.high ≤ l.index.blocks;
  below : 0 < l.low → block_address l.self l.index (l.low - 1) ≤ l.address;
  above : l.high < l.index.blocks → l.address < block_address l.self l.index l.high;
}

abbrev pub decreases-loop-low : goal.decreases-loop-low
decreases-loop-low l = l.high - l.low
