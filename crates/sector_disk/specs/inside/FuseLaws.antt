-- Laws about a disk under a fuse, which hold at any moment.
use Rattle.std.specs.Prelude.{◌≡◌, ◌-◌, ℕ, List, length}
use Rattle.std.proofs.Common.{sym, subst, ap, ◌∙◌, arith}
use Rattle.std.proofs.lemmas.List.{drop_all}
use Rattle.sector_disk.specs.declared.fuse.Plan.{Plan}
use Rattle.sector_disk.specs.declared.fuse.PastCall.{PastCall}
use Rattle.sector_disk.specs.Disk.{sector, DiskFacts, HoldsNow, HasWholeSectors}
use Rattle.sector_disk.specs.Fuse.{reached, inner_moment, fused}

-- at the present moment of the fuse, the inner disk is at its own present moment
pub inner_now : (time : ℕ) (past : List PastCall) → inner_moment time past (length past) ≡ time
inner_now time past = ap (λ steps. time - reached steps) (drop_all (length past) past (omega arith)) ∙ omega arith

-- The contents that reads of a fuse return are one of the mixtures.
pub fused_holds : (plan : Plan) (inner : DiskFacts) (past : List PastCall) → HoldsNow inner → HoldsNow (fused plan inner past)
fused_holds plan inner past holds = record {
  size = holds.size;
  each = λ k lt. subst (λ u. inner.may_leave u k (sector inner.now k)) (sym (inner_now inner.time past)) (holds.each k lt);
}

-- The sectors of a fuse are whole.
pub fused_whole : (plan : Plan) (inner : DiskFacts) (past : List PastCall) → HasWholeSectors inner → HasWholeSectors (fused plan inner past)
fused_whole plan inner past whole = record {
  now = whole.now;
  left = λ u k c le lt left. whole.left (inner_moment inner.time past u) k c (omega arith) lt left;
}
