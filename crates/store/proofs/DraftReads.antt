-- The data of an update's draft, compared with the draft's state, and the effect of reading one of its byte strings.
use Rattle.std.proofs.Common.{◌≡◌, ◌⊎◌, ◌↔◌, ⊎_elim, ℕ, ◌+◌, ◌-◌, ◌<◌, ◌≤◌, List, ◌∷◌, [], ◌++◌, length, get_or, map, All, Option, Some, None, IsTrue, IsFalse, Result, Ok, Err, IfErr, IfOk, OnOk, refl, sym, ap, subst, ◌∙◌, arith}
use Rattle.std.specs.Prelude.{Contains, IsNone, IfSome}
use Rattle.std.specs.Global.{Vec}
use Rattle.std.specs.Int.{div_ceil}
use Rattle.std.proofs.lemmas.Bool.{cases_lt}
use Rattle.std.proofs.lemmas.List.{get_or-map}
use Rattle.std.proofs.lemmas.List.Elements.{All-contains, Contains-append_right}
use Rattle.sector_disk.specs.Disk.{AreCallsAtMost, AreCallsExactly, DiskFacts, HasWholeSectors, HoldsNow, Sector, sector, sector_bytes}
use Rattle.sector_disk.proofs.Mixtures.{whole_mixture}
use Rattle.extents.specs.Extent.{Has, places}
use Rattle.passes.proofs.Extents.{run_in_places}
use Rattle.passes.proofs.Readings.{still_mixture}
use Rattle.passes.specs.Bytes.{IsOnDisk}
use Rattle.passes.specs.Calls.{AreReads}
use Rattle.roots.specs.declared.version.Version.TheVariants.{Two}
use Rattle.roots.specs.Entry.{SpellsEntry}
use Rattle.states.specs.State.{Library, State}
use Rattle.store.specs.declared.placed_entry.PlacedEntry.{PlacedEntry}
use Rattle.store.specs.declared.refusal.StoreRefusal.{StoreRefusal}
use Rattle.store.specs.declared.refusal.StoreRefusal.TheVariants.{Device, OutOfMemory, Reopen}
use Rattle.store.specs.declared.kept.Kept.{Kept}
use Rattle.store.specs.declared.draft.Draft.{Draft}
use Rattle.store.specs.Draft.{Drafted, IsDraftedAt, IsNewToDraft, ReadsDraft, draft_state, listing}
use Rattle.store.specs.Holds.{in_use}
use Rattle.store.specs.Stands.{HaveOwnNames, extents_of, library_of, name_of, names_at, no_library}
use Rattle.store.specs.inside.Claimed.{IsUsable}
use Rattle.store.specs.inside.Draft.{IsDrafting, own_sectors_in}
use Rattle.store.proofs.BlobReads.{blob_read, blob_refused}
use Rattle.store.proofs.DraftLines.{same_draft}
use Rattle.store.proofs.DraftWrites.{drafted_sectors, drafted_usable}
use Rattle.store.proofs.Libraries.{length-libraries, length-library}
use Rattle.store.proofs.UsedAlone.{no_entry}

-- The data that are kept of a draft, compared with the draft's state.
module _ {D : Type 0} (facts : D → DiskFacts) {u : Drafted D} {s d : State} (at : IsDraftedAt facts u s d) where
  abbrev now : List Sector
  now = (facts u.store.disk).now

  libraries_are : d.libraries ≡ map (library_of now) u.entries
  libraries_are = ap (λ t. t.libraries) at.is

  pub count_drafted : length u.entries ≡ length d.libraries
  count_drafted = sym (ap length libraries_are ∙ length-libraries now u.entries)

  pub library_drafted : (i : ℕ) (p : PlacedEntry) → i < length u.entries → get_or d.libraries i no_library ≡ library_of now (get_or u.entries i p)
  library_drafted i p lt = ap (λ l. get_or l i no_library) libraries_are ∙ get_or-map (library_of now) u.entries i p no_library lt

  pub name_drafted : (i : ℕ) (p : PlacedEntry) → i < length u.entries → name_of (get_or u.entries i p).entry ≡ (get_or d.libraries i no_library).name
  name_drafted i p lt = sym (ap (λ (l : Library). l.name) (library_drafted i p lt))

  pub preloads_drafted : d.preloads ≡ names_at d.libraries u.preloads
  preloads_drafted = ap (λ t. t.preloads) at.is ∙ ap (λ l. names_at l u.preloads) (sym libraries_are)

  -- if the answer to a search for a name is right for the draft's entries, it is right for the draft's state
  pub position_drafted : (name : List ℕ) (result : Option ℕ) → HaveOwnNames u.entries → (IsNone result → IsNewToDraft u name)
      → IfSome result (λ i. (i < length u.entries) × ((p : PlacedEntry) → name_of (get_or u.entries i p).entry ≡ name))
      → (i : ℕ) → (result ≡ Some i) ↔ ((i < length d.libraries) × ((get_or d.libraries i no_library).name ≡ name))
  position_drafted name None own none some i = (
    λ is. absurd cc,
    λ both. let lt : i < length u.entries = omega (arith, both.0, count_drafted) in
        absurd (none refl i no_entry lt (name_drafted i no_entry lt ∙ both.1)),
  )
  position_drafted name (Some j) own none some i = (
    λ is. let same : j ≡ i = cc in
        subst (λ k. (k < length d.libraries) × ((get_or d.libraries k no_library).name ≡ name)) same
        (omega (arith, some.0, count_drafted), sym (name_drafted j no_entry some.0) ∙ some.1 no_entry),
    λ both.
        let lt : i < length u.entries = omega (arith, both.0, count_drafted) in
        let named : name_of (get_or u.entries i no_entry).entry ≡ name = name_drafted i no_entry lt ∙ both.1 in
        ⊎_elim
        (λ before. absurd (own i j no_entry before some.0 (named ∙ sym (some.1 no_entry))))
        (λ le. ⊎_elim
        (λ behind. absurd (own j i no_entry behind lt (some.1 no_entry ∙ sym named)))
        (λ le'. ap Some (let same : j ≡ i = omega (arith, le, le') in same))
        (cases_lt j i))
        (cases_lt i j),
  )

-- The sectors of a draft's entry lie on the disk.
drafted_inside : {sectors : ℕ} {kept : Kept} {draft : Draft} → IsDrafting sectors kept draft → (i : ℕ) (d : PlacedEntry) → i < length draft.entries.items
    → (k : ℕ) → Contains (places (extents_of (get_or draft.entries.items i d).entry)) k → k < sectors
drafted_inside {kept = kept} {draft = draft} is i d lt k found =
    let placed = get_or draft.entries.items i d in
    let usable = All-contains (IsUsable kept.root.sectors) (in_use kept.root kept.entries.items kept.held ++ own_sectors_in kept.entries.items draft.entries.items) k
    (drafted_usable is.staged.stands is.staged.claimed)
    (drafted_sectors kept.root kept.entries.items kept.held draft.entries.items is.list.each i d lt k (Contains-append_right (placed.at ∷ []) (places (extents_of placed.entry)) k found)) in
    omega (arith, usable.1, is.size)

-- The byte string of a draft's entry is as long as the entry says.
pub length_drafted : {D : Type 0} (facts : D → DiskFacts) {u : Drafted D} {s d : State} (at : IsDraftedAt facts u s d) → (IsTrue (facts u.store.disk).honest → HoldsNow (facts u.store.disk))
    → (IsTrue (facts u.store.disk).honest → HasWholeSectors (facts u.store.disk)) → {kept : Kept} {draft : Draft} → IsDrafting (facts u.store.disk).sectors kept draft
    → u.entries ≡ draft.entries.items → (i : ℕ) (p : PlacedEntry) → i < length draft.entries.items → (get_or draft.entries.items i p).entry.file_length ≡ length (get_or d.libraries i no_library).bytes
length_drafted facts {u = u} {d = d} at holds whole {draft = draft} is same i p lt =
    let now = (facts u.store.disk).now in
    let current = holds at.stands.honest in
    let inside : i < length u.entries = omega (arith, lt, ap length same) in
    sym (ap (λ (l : Library). length l.bytes) (library_drafted facts at i p inside ∙ ap (λ l. library_of now (get_or l i p)) same)
    ∙ length-library now (get_or draft.entries.items i p) (whole_mixture (whole at.stands.honest) (facts u.store.disk).time (omega arith) now current) (is.list.fit i p lt)
    (λ k found. subst (λ n. k < n) (sym current.size) (drafted_inside is i p lt k found)))

-- The extents of a draft's entry end on the disk.
pub drafted_on_disk : {sectors : ℕ} {kept : Kept} {draft : Draft} → IsDrafting sectors kept draft → (i : ℕ) (d : PlacedEntry) → i < length draft.entries.items
    → All (IsOnDisk sectors) (extents_of (get_or draft.entries.items i d).entry)
drafted_on_disk {draft = draft} is i d lt j e in_extents =
    let placed = get_or draft.entries.items i d in
    let extent = get_or (extents_of placed.entry) j e in
    let filled : 1 ≤ extent.count = ((is.list.fit i d lt).extents.listed.used j e in_extents).filled in
    let last : Has extent (extent.start + extent.count - 1) = (omega (arith, filled), omega (arith, filled)) in
    let k = extent.start + extent.count - 1 in
    let inside = drafted_inside is i d lt k (run_in_places (extents_of placed.entry) j e in_extents k last) in
    omega (arith, inside, filled)

module _ {D : Type 0} (facts : D → DiskFacts) (u : Drafted D) where
  -- An update whose store failed answers a read of its draft with Reopen.
  pub draft_refused : (position : ℕ) → IsTrue u.store.failed → ReadsDraft facts u u position (Err Reopen)
  draft_refused position failed = record {
    read = blob_refused Two facts (listing u) position failed;
    ok = λ s d at. tt;
    same = λ s d at. at;
    stands = refl;
    draft = same_draft u;
  }

  module _ (after : D) (position : ℕ) (placed : PlacedEntry) (usable : IsFalse u.store.failed) (inside : position < length u.entries)
      (its : placed ≡ get_or u.entries position placed)
      (holds : IsTrue (facts u.store.disk).honest → HoldsNow (facts u.store.disk))
      (calls : AreCallsAtMost (div_ceil placed.entry.file_length sector_bytes) (facts u.store.disk) (facts after))
      (reads : IsTrue (facts u.store.disk).honest → AreReads (facts u.store.disk) (facts after)) where
    abbrev read_by : Drafted D
    read_by = record {
      store = record { disk = after; root = u.store.root; entries = u.store.entries; held = u.store.held; failed = u.store.failed };
      entries = u.entries;
      preloads = u.preloads;
      touched = u.touched;
    }

    still_at : (s d : State) → IsDraftedAt facts u s d → IsDraftedAt facts read_by s d
    still_at s d at =
        let did = reads at.stands.honest in
        let same : (facts after).now ≡ (facts u.store.disk).now = did.same.now in
        record {
          stands = record {
            honest = subst IsTrue (sym calls.some.honest) at.stands.honest;
            usable = at.stands.usable;
            stands = λ m mixture. at.stands.stands m (still_mixture did m mixture);
          };
          spelt = subst (λ m. All (λ (p : PlacedEntry). SpellsEntry (sector m p.at) p.entry) u.entries) (sym same) at.spelt;
          is = at.is ∙ ap (λ m. draft_state m s.generation u.entries u.preloads) (sym same);
        }

    pub draft_read : (result : Result (Vec ℕ) StoreRefusal)
        → OnOk result (AreCallsExactly (div_ceil placed.entry.file_length sector_bytes) (facts u.store.disk) (facts after))
        → (IsTrue (facts u.store.disk).honest → IfOk result (λ bytes. bytes.items ≡ (library_of (facts u.store.disk).now placed).bytes))
        → IfOk result (λ bytes. length bytes.items ≡ placed.entry.file_length)
        → IfErr result (λ e. ((e ≡ Device) × ((facts u.store.disk).failures < (facts after).failures)) ⊎ ((e ≡ OutOfMemory) × (after ≡ u.store.disk)))
        → ReadsDraft facts u read_by position result
    draft_read result all_calls read size refused = record {
      read = blob_read Two facts (listing u) after position placed usable inside its holds calls reads result all_calls read size refused;
      ok = λ s d at. gives s d at result (read at.stands.honest);
      same = still_at;
      stands = refl;
      draft = record { entries = refl; preloads = refl; touched = refl };
    }
      where
        gives : (s d : State) → IsDraftedAt facts u s d → (r : Result (Vec ℕ) StoreRefusal) → IfOk r (λ bytes. bytes.items ≡ (library_of (facts u.store.disk).now placed).bytes)
            → IfOk r (λ bytes. bytes.items ≡ (get_or d.libraries position no_library).bytes)
        gives s d at (Ok bytes) is = is ∙ ap (λ (l : Library). l.bytes) (sym (library_drafted facts at position placed inside ∙ ap (library_of (facts u.store.disk).now) (sym its)))
        gives s d at (Err e) is = tt
