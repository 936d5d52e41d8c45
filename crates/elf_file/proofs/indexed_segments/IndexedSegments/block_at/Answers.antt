use Rattle.std.proofs.Common.{arith, ◌-◌, ◌/◌, ◌≡◌, ◌+◌, ◌<◌, ◌≤◌, ℕ, subst, sym, ap, ◌∙◌}
use Rattle.elf_file.specs.Segment.{program_header}
use Rattle.elf_file.specs.inside.Index.{IsBlockAt}
use Rattle.elf_file.proofs.Blocks.{all_above, block_at_by, block_address}
use Rattle.elf_file.proofs.indexed_segments.IndexedSegments.block_at.Goals as goal

pub loop-low-init : goal.loop-low-init
loop-low-init c = record {
  order = omega arith;
  most = omega arith;
  below = λ some. absurd (omega (arith, some));
  above = λ more. absurd (omega (arith, more));
}

pub loop-low-preserved : goal.loop-low-preserved
loop-low-preserved c =
    let tested = ap (λ h. h.address) (c.header.ensures ∙ ap (program_header c.args.self.now) c.from.ensures) in
    record {
      order = omega arith;
      most = omega arith;
      below = c.loop-low.invariant.below;
      above = λ _. subst (λ (address : ℕ). c.args.address < address) tested c.if-header-address.false;
    }

pub loop-low-preserved-then-header-address : goal.loop-low-preserved-then-header-address
loop-low-preserved-then-header-address c =
    let tested = ap (λ h. h.address) (c.header.ensures ∙ ap (program_header c.args.self.now) c.from.ensures) in
    let middle : ℕ = c.loop-low.low + (c.loop-low.high - c.loop-low.low) / 2 in
    let e : middle ≡ middle + 1 - 1 = omega arith in
    record {
      order = omega arith;
      most = c.loop-low.invariant.most;
      below = λ _. subst (λ (address : ℕ). address ≤ c.args.address) (tested ∙ ap (block_address c.args.self.now c.index-index.result.now) e) c.if-header-address.true;
      above = c.loop-low.invariant.above;
    }

pub returns-then-low-eq0 : goal.returns-then-low-eq0
returns-then-low-eq0 c =
    let index = c.index-index.result.now in
    let e : c.loop-low.high ≡ 0 = omega arith in
    all_above c.args.self.now index c.args.address c.index-index.ensures.order c.index-index.ensures.indexes
    (λ some. subst (λ (k : ℕ). c.args.address < block_address c.args.self.now index k) e (c.loop-low.invariant.above (omega (arith, some))))

pub returns : goal.returns
returns c =
    let file = c.args.self.now in
    let index = c.index-index.result.now in
    let k : ℕ = c.loop-low.low - 1 in
    let e : c.loop-low.high ≡ k + 1 = omega arith in
    subst (λ (first : ℕ). IsBlockAt file c.args.address first) (sym c.from-2.ensures)
    (block_at_by file index c.args.address k c.index-index.ensures.order c.index-index.ensures.indexes (omega arith) (c.loop-low.invariant.below (omega arith))
    (λ more. subst (λ (n : ℕ). c.args.address < block_address file index n) e (c.loop-low.invariant.above (omega (arith, more)))))
