-- Bytes that got room beside a draft, and an entry that leaves the draft: which sectors are claimed, and what room is
-- left.
use Rattle.std.proofs.Common.{◌≡◌, ◌≢◌, ℕ, ◌+◌, ◌*◌, ◌<◌, ◌≤◌, Bool, false, List, [], ◌∷◌, ◌++◌, length, get_or, set, All, IsFalse, IsTrue, Result, Ok, Err, refl, sym, ap, subst, ◌∙◌, arith}
use Rattle.std.specs.Prelude.{Contains}
use Rattle.std.specs.Int.{div_ceil}
use Rattle.std.specs.List.{flat_map, remove}
use Rattle.std.proofs.lemmas.Grind.{div_ceil_times}
use Rattle.std.proofs.lemmas.List.{append-nil, length-append, length-set}
use Rattle.std.proofs.lemmas.List.Edits.{length-remove}
use Rattle.std.proofs.lemmas.List.Elements.{Contains-append_left}
use Rattle.sector_disk.specs.Disk.{DiskFacts, IsMixtureBut, LeavesOnly, SameBut, Sector, sector, sector_bytes}
use Rattle.extents.specs.Extent.{places, sector_count}
use Rattle.passes.specs.Bytes.{bytes_at, padded}
use Rattle.passes.specs.Calls.{AreCallsInRow}
use Rattle.states.specs.Cost.{catalogue_cost, catalogues_for, cost}
use Rattle.states.specs.State.{State}
use Rattle.store.specs.declared.draft.Draft.{Draft}
use Rattle.store.specs.declared.kept.Kept.{Kept}
use Rattle.store.specs.declared.placed_entry.PlacedEntry.{PlacedEntry}
use Rattle.store.specs.declared.refusal.StoreRefusal.{StoreRefusal}
use Rattle.store.specs.declared.refusal.StoreRefusal.TheVariants.{Device}
use Rattle.store.specs.Draft.{Drafted, IsLine, IsSameDraft, lists}
use Rattle.store.specs.Holds.{in_use, lone_sectors}
use Rattle.store.specs.Opened.{IsAt}
use Rattle.store.specs.Stands.{catalogues_of, extents_of, library_of, sectors_of, used}
use Rattle.store.specs.inside.Claimed.{IsClaimedBeside, IsUsable}
use Rattle.store.specs.inside.Draft.{IsDrafting, IsStagedIn, KeepsList, drafting, own_in, own_sectors_in, spare_of}
use Rattle.store.specs.inside.Room.{AreClaimedOnce, HasPlace, IsPutTaken, IsReleased}
use Rattle.store.specs.inside.Stored.{opened}
use Rattle.store.proofs.Anew.{released_nothing}
use Rattle.store.proofs.Claims.{claims_none}
use Rattle.store.proofs.Counts.{occurs, occurs-append}
use Rattle.store.proofs.DraftLists.{unlisted}
use Rattle.store.proofs.DraftRooms.{IsRestaged, own_more, own_removed, own_set, restaged, restaged_held}
use Rattle.store.proofs.DraftStates.{of_entry}
use Rattle.store.proofs.DraftWrites.{beside_apart, beside_free, beside_now, drafted_sectors, line_failed, line_wrote, stands_beside}
use Rattle.store.proofs.Drafts.{own_unlisted}
use Rattle.store.proofs.Rooms.{cost_is}
use Rattle.store.proofs.UsedAlone.{no_entry}
use Rattle.store.proofs.Written.{written_bytes}
use Rattle.passes.proofs.Parts.{distinct-last}

-- An entry leaves a draft.
module _ {kept : Kept} {entries : List PlacedEntry} (staged : IsStagedIn kept entries) (gone : ℕ) (placed : PlacedEntry) (lt : gone < length entries) (its : placed ≡ get_or entries gone placed) where
  leaving : IsRestaged kept entries kept.layout [] (own_in kept.entries.items placed) (remove entries gone)
  leaving = record {
    staged = staged;
    claimed = claims_none kept.layout;
    parts = λ k. omega (
      arith,
      own_removed (occurs k) refl (occurs-append k) kept.entries.items entries gone placed lt,
      ap (λ p. occurs k (own_in kept.entries.items p)) its,
    );
    count = omega (
      arith,
      own_removed length refl length-append kept.entries.items entries gone placed lt,
      ap (λ p. length (own_in kept.entries.items p)) its,
    );
  }

  -- Those sectors of the entry that the current list doesn't use are claimed.
  pub left_held : AreClaimedOnce kept.layout (own_in kept.entries.items placed)
  left_held = restaged_held leaving

  -- Once the entry's sectors are freed, the remaining entries are staged, and there is as much room as before.
  pub left_staged : {after : Kept} → KeepsList kept after → IsReleased kept.layout after.layout (own_in kept.entries.items placed) → IsStagedIn after (remove entries gone)
  left_staged same released = restaged leaving released same refl (
      let fewer = length-remove entries gone lt in
      let now = div_ceil_times (length (remove entries gone)) 64 (omega arith) in
      let before = div_ceil_times (length entries) 64 (omega arith) in
      let less : catalogues_for (length (remove entries gone)) ≤ catalogues_for (length entries) = omega (arith, fewer, now.0, now.1, before.0, before.1) in
      omega (arith, less, staged.room))

-- Room was taken for bytes beside the draft.
module _ {sectors : ℕ} {kept : Kept} {draft : Draft} {mid : List Bool} {name bytes : List ℕ} {spare : ℕ} {put : PlacedEntry}
    (is : IsDrafting sectors kept draft) (taken : IsPutTaken kept.layout mid name bytes 0 spare put []) where
  abbrev entries : List PlacedEntry
  entries = draft.entries.items

  pub put_claimed : IsClaimedBeside kept.layout mid (sectors_of put)
  put_claimed = subst (IsClaimedBeside kept.layout mid) (append-nil (sectors_of put)) taken.claimed

  -- the current list doesn't have the entry, and no other entry of the draft is in its sector
  pub put_unlisted : lists kept.entries.items put ≡ false
  put_unlisted = unlisted kept.root kept.entries.items put (λ found. beside_free is.staged.stands is.staged.claimed put_claimed put.at (0, omega arith, refl)
      (Contains-append_left (used kept.root kept.entries.items) (lone_sectors kept.held) put.at found))

  pub put_apart : All (λ p. p.at ≢ put.at) entries
  put_apart i d lt same = beside_apart is.staged.stands is.staged.claimed put_claimed put.at
      (drafted_sectors kept.root kept.entries.items kept.held entries is.list.each i d lt put.at (0, omega arith, same)) (0, omega arith, refl)

  its_own : own_in kept.entries.items put ≡ sectors_of put
  its_own = own_unlisted kept.entries.items put put_unlisted

  its_cost : length (sectors_of put) ≡ cost (length bytes)
  its_cost = cost_is put taken.fits ∙ ap cost taken.its_length

  taking_back : IsRestaged kept entries mid (sectors_of put) (sectors_of put) entries
  taking_back = record { staged = is.staged; claimed = put_claimed; parts = λ k. refl; count = refl }

  pub put_held : AreClaimedOnce mid (sectors_of put)
  put_held = restaged_held taking_back

  -- The entry and its bytes have their places on the disk.
  pub put_place : HasPlace sectors put []
  put_place = record {
    spelling = taken.fits;
    on_disk = λ k d lt. omega (arith, taken.on_disk k d lt, size);
    apart = taken.apart;
    inside = subst (λ n. All (IsUsable n) (sectors_of put ++ [])) size taken.claimed.inside;
    once = distinct-last (in_use kept.root kept.entries.items kept.held ++ own_sectors_in kept.entries.items entries) (sectors_of put ++ [])
        (taken.claimed.once _ (is.staged.claimed.each _ is.staged.stands.claimed.claims) (is.staged.claimed.once _ is.staged.stands.claimed.claims is.staged.stands.claimed.once));
  }
    where
      size : length kept.layout ≡ sectors
      size = is.staged.claimed.size ∙ is.staged.stands.size ∙ sym is.size

  -- Writing the entry doesn't change the sectors of the draft's entries.
  pub put_still : {now now' : List Sector} → SameBut (Contains (sectors_of put)) now now' → (k : ℕ) → Contains (flat_map sectors_of entries) k → sector now' k ≡ sector now k
  put_still same k found =
      let one = of_entry entries k found in
      beside_now is.staged.stands is.staged.claimed put_claimed same k (drafted_sectors kept.root kept.entries.items kept.held entries is.list.each one.0 no_entry one.1 k (one.2 no_entry))

  -- Once the entry is written, reads return its bytes.
  module _ (now : List Sector) (written : bytes_at now (places (extents_of put.entry)) ≡ padded (sector_bytes * sector_count (extents_of put.entry)) bytes) where
    pub put_library : record { name = name; bytes = bytes } ≡ library_of now put
    put_library = sym (λ i. record {
      name = taken.its_name i;
      bytes = written_bytes now put.entry bytes written taken.its_length (omega (arith, taken.size, (div_ceil_times (length bytes) 512 (omega arith)).0)) i;
    })

    pub put_bytes : bytes_at now (places (extents_of put.entry)) ≡ padded (sector_bytes * div_ceil (length bytes) sector_bytes) bytes
    put_bytes = written ∙ ap (λ n. padded (sector_bytes * n) bytes) taken.size

  -- If the entry's sectors are given back, everything is claimed as before.
  pub back_staged : {after : Kept} → KeepsList kept after → IsReleased mid after.layout (sectors_of put) → IsStagedIn after entries
  back_staged same released = restaged taking_back released same refl (omega (arith, is.staged.room))

  -- The new entry is put after the others.
  putting : IsRestaged kept entries mid (sectors_of put) [] (entries ++ put ∷ [])
  putting = record {
    staged = is.staged;
    claimed = put_claimed;
    parts = λ k. omega (
      arith,
      own_more (occurs k) refl (occurs-append k) kept.entries.items entries put,
      ap (occurs k) its_own,
    );
    count = omega (arith, own_more length refl length-append kept.entries.items entries put, ap length its_own);
  }

  pub more_staged : {after : Kept} → KeepsList kept after → after.layout ≡ mid → spare ≡ spare_of (length (catalogues_of kept.root)) (length entries) + catalogue_cost (length entries)
      → IsStagedIn after (entries ++ put ∷ [])
  more_staged same layout enough = restaged putting (released_nothing mid) same layout
      (omega (arith, enough, taken.room, its_cost, ap catalogues_for (length-append entries (put ∷ []))))

  -- The new entry takes the place of another.
  module _ (place : ℕ) (placed : PlacedEntry) (lt : place < length entries) (its : placed ≡ get_or entries place placed) where
    replacing : IsRestaged kept entries mid (sectors_of put) (own_in kept.entries.items placed) (set entries place put)
    replacing = record {
      staged = is.staged;
      claimed = put_claimed;
      parts = λ k. omega (
        arith,
        own_set (occurs k) refl (occurs-append k) kept.entries.items entries place put placed lt,
        ap (occurs k) its_own,
        ap (λ p. occurs k (own_in kept.entries.items p)) its,
      );
      count = omega (
        arith,
        own_set length refl length-append kept.entries.items entries place put placed lt,
        ap length its_own,
        ap (λ p. length (own_in kept.entries.items p)) its,
      );
    }

    pub over_held : AreClaimedOnce mid (own_in kept.entries.items placed)
    over_held = restaged_held replacing

    pub over_staged : {after : Kept} → KeepsList kept after → IsReleased mid after.layout (own_in kept.entries.items placed)
        → spare ≡ spare_of (length (catalogues_of kept.root)) (length entries) → IsStagedIn after (set entries place put)
    over_staged same released enough = restaged replacing released same refl
        (omega (arith, enough, taken.room, its_cost, ap catalogues_for (length-set entries place put)))

  -- A line wrote the entry, or a write failed, and the current list is kept.
  module _ {D : Type 0} (facts : D → DiskFacts) (disk after : D) {last : Kept} (new : Draft) {u : Drafted D} (seen : drafting disk kept draft ≡ u) (same : KeepsList kept last)
      (leaves : IsTrue (facts disk).honest → LeavesOnly (facts disk) (facts after) (IsMixtureBut (Contains (sectors_of put)) (facts disk))) where
    abbrev before : Drafted D
    before = drafting disk kept draft

    abbrev then : Drafted D
    then = drafting after last new

    pub put_stands : {T E : Type 0} {n : ℕ} {result : Result T E} → AreCallsInRow n (facts disk) (facts after) result → IsFalse last.failed → {s : State} → IsAt facts (opened disk kept) s → IsAt facts (opened after last) s
    put_stands calls usable at =
        stands_beside facts before then is.staged.stands is.staged.claimed put_claimed same.root (ap (λ v. v.items) same.entries) same.held leaves calls usable at

    module _ {T E : Type 0} {Refuses : StoreRefusal → Type 0} (usable : IsFalse kept.failed) where
      pub put_line : {x : T} → AreCallsInRow {E = E} (sector_count (extents_of put.entry) + 1) (facts disk) (facts after) (Ok x) → IsFalse last.failed
          → IsLine facts u then (div_ceil (length bytes) sector_bytes + 1) Refuses (Ok tt)
      put_line calls still_usable = subst (λ u. IsLine facts u then (div_ceil (length bytes) sector_bytes + 1) Refuses (Ok tt)) seen
          (line_wrote facts before then is.staged.stands is.staged.claimed put_claimed same.root (ap (λ v. v.items) same.entries) same.held leaves usable (ap (λ n. n + 1) taken.size) calls still_usable)

      pub put_failed : {x : E} (e : StoreRefusal) → e ≡ Device → AreCallsInRow {T = T} (sector_count (extents_of put.entry) + 1) (facts disk) (facts after) (Err x) → IsTrue last.failed → Refuses Device
          → IsSameDraft before then → IsLine facts u then (div_ceil (length bytes) sector_bytes + 1) Refuses (Err e)
      put_failed e device calls failed may draft = subst (λ u. IsLine facts u then (div_ceil (length bytes) sector_bytes + 1) Refuses (Err e)) seen
          (line_failed facts before then is.staged.stands is.staged.claimed put_claimed same.root (ap (λ v. v.items) same.entries) same.held leaves usable (ap (λ n. n + 1) taken.size) e device calls failed may draft)
