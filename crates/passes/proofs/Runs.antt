-- The progress of a run of writes, and the effect of one more write.
use Rattle.std.proofs.Common.{◌≡◌, ◌≢◌, ⊎_elim, ℕ, suc, ◌+◌, ◌*◌, ◌<◌, ◌≤◌, List, [], ◌∷◌, ◌++◌, length, set, take, drop, refl, sym, ap, ◌∙◌, arith, IsTrue}
use Rattle.std.specs.List.{range_with_len, Contains}
use Rattle.std.specs.Prelude.{◌-◌, min, Result}
use Rattle.std.proofs.lemmas.List.{append-nil, get_or-set_same, get_or-set_other, map-id, drop-drop, take_all, drop_all}
use Rattle.std.proofs.lemmas.List.FromFn.{map-range_with_len_more, length-range_with_len, get_or-range_with_len}
use Rattle.std.proofs.lemmas.Bool.{cases_lt}
use Rattle.std.proofs.lemmas.Grind.{flat_map-append}
use Rattle.sector_disk.specs.Disk.{Sector, sector, DiskFacts, HoldsNow, IsCall, IsWrite, LeavesOnly, SameBut, IsMixtureBut}
use Rattle.sector_disk.proofs.Writes.{write_leaves, write_others}
use Rattle.extents.specs.declared.extent.Extent.{Extent}
use Rattle.extents.specs.Extent.{Has}
use Rattle.passes.specs.Bytes.{bytes_at, padded}
use Rattle.passes.proofs.Padding.{padded-add}
use Rattle.passes.proofs.Rows.{CallsSoFar}

pub range_more : (start n : ℕ) → range_with_len start (n + 1) ≡ range_with_len start n ++ (start + n) ∷ []
range_more start n =
    sym (map-id (range_with_len start (n + 1))) ∙ map-range_with_len_more (λ k. k) start n (start + n) refl ∙ ap (λ l. l ++ (start + n) ∷ []) (map-id (range_with_len start n))

-- if two lists of sectors are the same at some places, the bytes at these places are the same
pub bytes_at_same : (m m' : List Sector) (ks : List ℕ) → ((k : ℕ) → Contains ks k → sector m' k ≡ sector m k) → bytes_at m' ks ≡ bytes_at m ks
bytes_at_same m m' [] same = refl
bytes_at_same m m' (k ∷ ks) same = λ i. same k (0, omega arith, refl) i ++ bytes_at_same m m' ks (λ j found. same j (suc found.0, omega (arith, found.1), found.2)) i

-- the progress of a run of writes: `done` sectors of the extent hold the bytes
pub record Progress (first current : DiskFacts) (extent : Extent) (done : ℕ) (bytes rest : List ℕ) : Type 0 where
  pub calls : CallsSoFar done first current
  pub rest_is : rest ≡ drop (512 * done) bytes
  pub leaves : IsTrue first.honest → LeavesOnly first current (IsMixtureBut (Has extent) first)
  pub others : IsTrue first.honest → SameBut (Has extent) first.now current.now
  pub holds : IsTrue first.honest → bytes_at current.now (range_with_len extent.start done) ≡ padded (512 * done) bytes

-- a number of the range is at least its start, and below its end
pub in_range : (start n k : ℕ) → Contains (range_with_len start n) k → (start ≤ k) × (k < start + n)
in_range start n k found =
    let lt : found.0 < n = omega (arith, found.1, length-range_with_len start n) in
    let is : start + found.0 ≡ k = sym (get_or-range_with_len start n found.0 k lt) ∙ found.2 in
    (omega (arith, is), omega (arith, is, lt))

pub from_range : (start n k : ℕ) → start ≤ k → k < start + n → Contains (range_with_len start n) k
from_range start n k low high =
    let lt : k - start < n = omega (arith, low, high) in
    let at : start + (k - start) ≡ k = omega (arith, low) in
    (k - start, omega (arith, length-range_with_len start n, lt), get_or-range_with_len start n (k - start) k lt ∙ at)

-- the first n elements, or all if there are fewer
pub take-min : (n : ℕ) (l : List ℕ) → take (min (length l) n) l ≡ take n l
take-min n l = ⊎_elim
    (λ lt. ap (λ k. take k l) (let e : min (length l) n ≡ n = omega (arith, lt) in e))
    (λ le. ap (λ k. take k l) (let e : min (length l) n ≡ length l = omega (arith, le) in e) ∙ take_all (length l) l (omega arith) ∙ sym (take_all n l (omega (arith, le))))
    (cases_lt n (length l))

pub drop-min : (n : ℕ) (l : List ℕ) → drop (min (length l) n) l ≡ drop n l
drop-min n l = ⊎_elim
    (λ lt. ap (λ k. drop k l) (let e : min (length l) n ≡ n = omega (arith, lt) in e))
    (λ le. ap (λ k. drop k l) (let e : min (length l) n ≡ length l = omega (arith, le) in e) ∙ drop_all (length l) l (omega arith) ∙ sym (drop_all n l (omega (arith, le))))
    (cases_lt n (length l))

module _ {first old new : DiskFacts} {extent : Extent} {done : ℕ} {bytes rest content : List ℕ} {T E : Type 0} {result : Result T E}
    (so_far : Progress first old extent done bytes rest) (lt : done < extent.count) (call : IsCall old new result) where
  -- one more write changes only sectors of the extent
  pub run_leaves : IsTrue first.honest → HoldsNow old → IsWrite old new (extent.start + done) content result → LeavesOnly first new (IsMixtureBut (Has extent) first)
  run_leaves honest holds write = write_leaves call (Has extent) (omega arith, omega (arith, lt)) holds write (so_far.leaves honest)

  module _ (content_is : content ≡ padded 512 rest) (in_first : extent.start + extent.count ≤ first.sectors) where
    -- the sectors before the written one still hold their bytes
    more_holds : HoldsNow old → new.now ≡ set old.now (extent.start + done) content
        → bytes_at old.now (range_with_len extent.start done) ≡ padded (512 * done) bytes
        → bytes_at new.now (range_with_len extent.start (done + 1)) ≡ padded (512 * (done + 1)) bytes
    more_holds holds is before =
        ap (bytes_at new.now) (range_more extent.start done)
        ∙ flat_map-append (sector new.now) (range_with_len extent.start done) ((extent.start + done) ∷ [])
        ∙ (λ i. earlier i ++ this i)
        ∙ sym (padded-add (512 * done) 512 bytes)
        ∙ ap (λ n. padded n bytes) (let e : 512 * done + 512 ≡ 512 * (done + 1) = omega arith in e)
      where
        in_old : extent.start + done < length old.now
        in_old = omega (arith, lt, in_first, so_far.calls.sectors, holds.size)

        earlier : bytes_at new.now (range_with_len extent.start done) ≡ padded (512 * done) bytes
        earlier = bytes_at_same old.now new.now (range_with_len extent.start done)
            (λ k found. let other : k ≢ extent.start + done = (let low = in_range extent.start done k found in λ same. omega (arith, low, same)) in
            ap (λ l. sector l k) is ∙ get_or-set_other old.now (extent.start + done) k content [] other)
            ∙ before

        this : sector new.now (extent.start + done) ++ [] ≡ padded 512 (drop (512 * done) bytes)
        this = append-nil _ ∙ ap (λ l. sector l (extent.start + done)) is ∙ get_or-set_same old.now (extent.start + done) content [] in_old ∙ content_is ∙ ap (padded 512) so_far.rest_is

    -- if one more sector is written, the progress is one sector further
    pub more : (IsTrue first.honest → HoldsNow old) → (IsTrue first.honest → IsWrite old new (extent.start + done) content result)
        → CallsSoFar (done + 1) first new → (IsTrue first.honest → new.now ≡ set old.now (extent.start + done) content)
        → Progress first new extent (done + 1) bytes (drop 512 rest)
    more holds write calls ok = record {
      calls = calls;
      rest_is = ap (drop 512) so_far.rest_is ∙ drop-drop 512 (512 * done) bytes ∙ ap (λ n. drop n bytes) (let e : 512 * done + 512 ≡ 512 * (done + 1) = omega arith in e);
      leaves = λ honest. run_leaves honest (holds honest) (write honest);
      others = λ honest. write_others (Has extent) (extent.start + done) content (omega arith, omega (arith, lt)) (so_far.others honest) (ok honest);
      holds = λ honest. more_holds (holds honest) (ok honest) (so_far.holds honest);
    }
