-- What a change stages: the places of its single sectors beside those of its bytes.
use Rattle.std.proofs.Common.{◌≡◌, ℕ, ◌+◌, ◌*◌, ◌<◌, ◌≤◌, List, [], ◌∷◌, ◌++◌, get_or, set, All, sym, ap, subst, ◌∙◌, arith}
use Rattle.std.specs.Prelude.{Contains}
use Rattle.std.specs.List.{flat_map}
use Rattle.std.proofs.lemmas.List.{append-nil}
use Rattle.std.proofs.lemmas.List.Elements.{All-contains, Contains-append_left, Contains-append_right, Contains-get_or}
use Rattle.std.proofs.lemmas.List.Sums.{sum_by-cons}
use Rattle.extents.specs.declared.extent.Extent.{Extent}
use Rattle.extents.specs.Limits.{root_sectors}
use Rattle.extents.specs.Extent.{AreDistinct, places, sector_count}
use Rattle.sector_disk.specs.Disk.{Sector, sector, sector_bytes, DiskFacts, Mixture, IsMixtureBut, IsSynced, LeavesOnly, SameBut}
use Rattle.passes.specs.Bytes.{padded}
use Rattle.passes.specs.Singles.{single_places}
use Rattle.passes.proofs.Commits.{wider, wider_leaves}
use Rattle.passes.specs.declared.single.SingleSector.{SingleSector}
use Rattle.store.specs.declared.placed_entry.PlacedEntry.{PlacedEntry}
use Rattle.store.specs.declared.change.Staged.{Staged}
use Rattle.store.specs.declared.change.Staged.TheVariants.{Nothing, Catalogues, Put}
use Rattle.store.specs.Stands.{extents_of, sectors_of}
use Rattle.store.specs.inside.Change.{AreWritten, CanBeStaged, HasBytes, IsStaged, staged_sectors}
use Rattle.store.specs.inside.Claimed.{IsUsable}
use Rattle.store.specs.inside.Room.{HavePlaces, HasPlace}
use Rattle.store.proofs.CataloguedEntries.{all_singles}
use Rattle.store.proofs.Counts.{one, occurs, occurs-append, contains_occurs, occurs_contains, distinct_occurs, occurs_distinct}
use Rattle.store.proofs.Written.{written_stays}

-- Staging bytes, their entry and catalogues.
module _ {sectors : ℕ} {put : PlacedEntry} {catalogues : List ℕ} (singles : List SingleSector) (extents : List Extent)
    (place : HasPlace sectors put catalogues) (is : single_places singles ≡ put.at ∷ catalogues) (its : extents ≡ extents_of put.entry) where
  -- all staged sectors
  abbrev all : List ℕ
  all = sectors_of put ++ catalogues

  own : (k : ℕ) → occurs k (single_places singles) ≡ occurs k (put.at ∷ catalogues)
  own k = ap (occurs k) is

  bytes : (k : ℕ) → occurs k (places extents) ≡ occurs k (places (extents_of put.entry))
  bytes k = ap (λ l. occurs k (places l)) its

  parts : (k : ℕ) → occurs k (single_places singles) + occurs k (places extents) ≡ occurs k all
  parts k = omega (
    arith,
    own k,
    bytes k,
    sum_by-cons (one k) put.at catalogues,
    sum_by-cons (one k) put.at (places (extents_of put.entry) ++ catalogues),
    occurs-append k (places (extents_of put.entry)) catalogues,
  )

  usable : (k : ℕ) → 1 ≤ occurs k (single_places singles) + occurs k (places extents) → IsUsable sectors k
  usable k some = All-contains (IsUsable sectors) all k place.inside (occurs_contains k all (omega (arith, some, parts k)))

  pub put_inside : All (λ single. single.at < sectors) singles
  put_inside = all_singles (λ k. k < sectors) singles (λ i d lt.
      let k = get_or (single_places singles) i d in
      let some = contains_occurs k (single_places singles) (Contains-get_or (single_places singles) i d lt) in
      (usable k (omega (arith, some))).1)

  pub put_once : AreDistinct (single_places singles)
  put_once = occurs_distinct (single_places singles) (λ k. omega (arith, parts k, distinct_occurs k all place.once))

  pub put_elsewhere : (k : ℕ) → Contains (single_places singles) k → Contains (places extents) k → ⊥
  put_elsewhere k here there = omega (arith, contains_occurs k (single_places singles) here, contains_occurs k (places extents) there, parts k, distinct_occurs k all place.once)

  staged_among : (k : ℕ) → Contains (single_places singles ++ places extents) k → Contains all k
  staged_among k found = occurs_contains k all (omega (arith, parts k, occurs-append k (single_places singles) (places extents), contains_occurs k (single_places singles ++ places extents) found))

  pub put_now : {old now : List Sector} → SameBut (Contains (single_places singles ++ places extents)) old now → SameBut (Contains (sectors_of put ++ catalogues)) old now
  put_now = wider staged_among

  -- a stop during the staging changes only the sectors of the bytes, of the entry and of the catalogues
  pub put_moment : {old new : DiskFacts} → LeavesOnly old new (IsMixtureBut (Contains (single_places singles ++ places extents)) old)
      → LeavesOnly old new (IsMixtureBut (Contains (sectors_of put ++ catalogues)) old)
  put_moment = wider_leaves (Contains (single_places singles ++ places extents)) (Contains (sectors_of put ++ catalogues)) staged_among

-- Staging only catalogues.
module _ {sectors : ℕ} {catalogues : List ℕ} (singles : List SingleSector) (have : HavePlaces sectors catalogues) (is : single_places singles ≡ catalogues) where
  pub list_inside : All (λ single. single.at < sectors) singles
  list_inside = all_singles (λ k. k < sectors) singles (subst (All (λ k. k < sectors)) (sym is) (λ i d lt. (have.inside i d lt).1))

  alone : (k : ℕ) → Contains (single_places singles ++ []) k → Contains catalogues k
  alone k found = subst (λ l. Contains l k) (append-nil (single_places singles) ∙ is) found

  pub list_now : {old now : List Sector} → SameBut (Contains (single_places singles ++ [])) old now → SameBut (Contains catalogues) old now
  list_now = wider alone

  pub list_moment : {old new : DiskFacts} → LeavesOnly old new (IsMixtureBut (Contains (single_places singles ++ [])) old) → LeavesOnly old new (IsMixtureBut (Contains catalogues) old)
  list_moment = wider_leaves (Contains (single_places singles ++ [])) (Contains catalogues) alone

-- Earlier writes to other sectors stay if a sync follows.
pub still_written : (old new : DiskFacts) (staged : List ℕ) (written : List PlacedEntry) → SameBut (Contains staged) old.now new.now → IsSynced new
    → ((k : ℕ) → Contains staged k → Contains (flat_map sectors_of written) k → ⊥) → (m : List Sector) → Mixture new m → AreWritten old.now written m
still_written old new staged written same is_synced apart m mixture = record { each = λ k found. ap (λ l. sector l k) (is_synced.each m mixture) ∙ same.others k (λ here. apart k here found) }

-- What is staged lies after the roots.
pub staged_behind : (sectors : ℕ) (staged : Staged) (listed : List ℕ) → CanBeStaged sectors staged listed → (k : ℕ) → Contains (staged_sectors staged) k → root_sectors ≤ k
staged_behind sectors Nothing listed room k found = omega (arith, found.1)
staged_behind sectors (Catalogues catalogues) listed room k found = (All-contains (IsUsable sectors) catalogues k room.0.inside found).0
staged_behind sectors (Put put catalogues) listed room k found = (All-contains (IsUsable sectors) (sectors_of put ++ catalogues) k room.0.inside found).0

-- The staged bytes stay once the root is written and synced.
pub bytes_stay : (sectors : ℕ) (staged : Staged) (listed : List ℕ) → CanBeStaged sectors staged listed → (mid new : DiskFacts) (contents : List ℕ) (at : ℕ) (content : Sector)
    → at < root_sectors → IsStaged mid.now staged contents listed → IsSynced new → new.now ≡ set mid.now at content → (m : List Sector) → Mixture new m → HasBytes m staged contents
bytes_stay sectors Nothing listed room mid new contents at content low is synced now m mixture = tt
bytes_stay sectors (Catalogues catalogues) listed room mid new contents at content low is synced now m mixture = tt
bytes_stay sectors (Put put catalogues) listed room mid new contents at content low is synced now m mixture =
    let ks = places (extents_of put.entry) in
    written_stays mid.now new ks (padded (sector_bytes * sector_count (extents_of put.entry)) contents) at content low
    (λ k found. staged_behind sectors (Put put catalogues) listed room k (Contains-append_left (sectors_of put) catalogues k (Contains-append_right (put.at ∷ []) ks k found)))
    is.0 synced now m mixture
