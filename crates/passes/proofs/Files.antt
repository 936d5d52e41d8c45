-- The progress of the writes over several extents, and the effect of one more extent.
use Rattle.std.proofs.Common.{◌≡◌, ℕ, ◌+◌, ◌*◌, ◌<◌, List, ◌++◌, length, get_or, take, drop, AllPairs, sym, ap, ◌∙◌, arith, IsTrue}
use Rattle.std.specs.List.{range_with_len, Contains}
use Rattle.std.proofs.lemmas.List.{drop-drop}
use Rattle.std.proofs.lemmas.Grind.{flat_map-append}
use Rattle.sector_disk.specs.Disk.{Sector, sector, DiskFacts, LeavesOnly, SameBut, IsMixtureBut}
use Rattle.sector_disk.proofs.Moments.{goes_on, weaken, left_now}
use Rattle.sector_disk.proofs.Mixtures.{mixture_but, same_more}
use Rattle.extents.specs.declared.extent.Extent.{Extent}
use Rattle.extents.specs.Extent.{Has, IsApart, sector_count, places}
use Rattle.passes.specs.Bytes.{bytes_at, padded}
use Rattle.passes.proofs.Rows.{CallsSoFar}
use Rattle.passes.proofs.Padding.{padded-add}
use Rattle.passes.proofs.Runs.{bytes_at_same}
use Rattle.passes.proofs.Extents.{places_more, count_more, run_in_places, earlier_apart}

-- more writes into some of the sectors `more` leave mixtures that differ only in the sectors `more`
pub more_leaves : {first old new : DiskFacts} (some more : ℕ → Type 0) → ((k : ℕ) → some k → more k) → LeavesOnly first old (IsMixtureBut more first)
    → LeavesOnly old new (IsMixtureBut some old) → LeavesOnly first new (IsMixtureBut more first)
more_leaves {first = first} {old = old} some more among so_far leaves =
    goes_on (IsMixtureBut more first) so_far
    (weaken (IsMixtureBut some old) (IsMixtureBut more first) (mixture_but some more among (left_now (IsMixtureBut more first) so_far)) leaves)

-- the progress of the writes: the first `done` extents hold the bytes
pub record Progress (first current : DiskFacts) (extents : List Extent) (done : ℕ) (bytes rest : List ℕ) : Type 0 where
  pub calls : CallsSoFar (sector_count (take done extents)) first current
  pub rest_is : rest ≡ drop (512 * sector_count (take done extents)) bytes
  pub leaves : IsTrue first.honest → LeavesOnly first current (IsMixtureBut (Contains (places extents)) first)
  pub others : IsTrue first.honest → SameBut (Contains (places extents)) first.now current.now
  pub holds : IsTrue first.honest → bytes_at current.now (places (take done extents)) ≡ padded (512 * sector_count (take done extents)) bytes

module _ {first old : DiskFacts} {extents : List Extent} {done : ℕ} {bytes rest : List ℕ} (so_far : Progress first old extents done bytes rest) (d : Extent) (lt : done < length extents) where
  -- writing one more extent changes only sectors of the extents
  pub more_extent_leaves : {new : DiskFacts} → IsTrue first.honest → LeavesOnly old new (IsMixtureBut (Has (get_or extents done d)) old)
      → LeavesOnly first new (IsMixtureBut (Contains (places extents)) first)
  more_extent_leaves honest leaves = more_leaves (Has (get_or extents done d)) (Contains (places extents)) (run_in_places extents done d lt) (so_far.leaves honest) leaves

  pub more_extent_others : {now : List Sector} → IsTrue first.honest → SameBut (Has (get_or extents done d)) old.now now → SameBut (Contains (places extents)) first.now now
  more_extent_others honest same = same_more (run_in_places extents done d lt) (so_far.others honest) same

  pub more_extent_rest : drop (512 * (get_or extents done d).count) rest ≡ drop (512 * sector_count (take (done + 1) extents)) bytes
  more_extent_rest =
      let e = get_or extents done d in
      let n = sector_count (take done extents) in
      let sum : 512 * n + 512 * e.count ≡ 512 * sector_count (take (done + 1) extents) = omega (arith, count_more extents done d lt) in
      ap (drop (512 * e.count)) so_far.rest_is ∙ drop-drop (512 * e.count) (512 * n) bytes ∙ ap (λ k. drop k bytes) sum

  pub more_extent_holds : {now : List Sector} → AllPairs IsApart extents → IsTrue first.honest → SameBut (Has (get_or extents done d)) old.now now
      → bytes_at now (range_with_len (get_or extents done d).start (get_or extents done d).count) ≡ padded (512 * (get_or extents done d).count) rest
      → bytes_at now (places (take (done + 1) extents)) ≡ padded (512 * sector_count (take (done + 1) extents)) bytes
  more_extent_holds {now = now} apart honest same written =
      let e = get_or extents done d in
      let n = sector_count (take done extents) in
      let sum : 512 * n + 512 * e.count ≡ 512 * sector_count (take (done + 1) extents) = omega (arith, count_more extents done d lt) in
      let earlier = bytes_at_same old.now now (places (take done extents)) (λ k found. same.others k (earlier_apart extents done d lt apart k found)) ∙ so_far.holds honest in
      let this = written ∙ ap (padded (512 * e.count)) so_far.rest_is in
      ap (bytes_at now) (places_more extents done d lt)
      ∙ flat_map-append (sector now) (places (take done extents)) (range_with_len e.start e.count)
      ∙ (λ i. earlier i ++ this i)
      ∙ sym (padded-add (512 * n) (512 * e.count) bytes)
      ∙ ap (λ k. padded k bytes) sum
