-- Committing a draft: the next root, what is kept with it, and the state that the sectors then hold.
use Rattle.std.proofs.Common.{◌≡◌, ◌≢◌, ◌⊎◌, ⊎_elim, IsFalse, Ok, ℕ, zero, suc, ◌+◌, ◌-◌, ◌^◌, ◌<◌, ◌≤◌, Bool, false, List, [], ◌∷◌, ◌++◌, length, get_or, map, take, sum_by, All, refl, sym, ap, subst, ◌∙◌, arith}
use Rattle.std.specs.Prelude.{Contains}
use Rattle.std.specs.List.{flat_map}
use Rattle.std.proofs.lemmas.Bool.{cases_Bool, false≢true}
use Rattle.std.proofs.lemmas.List.{get_or-map, length-append}
use Rattle.std.proofs.lemmas.List.Concat.{length-flat_map}
use Rattle.std.proofs.lemmas.List.Elements.{All-contains, Contains-append_left, Contains-append_right}
use Rattle.std.proofs.lemmas.List.FromFn.{length-map-range_with_len}
use Rattle.sector_disk.specs.Disk.{DiskFacts, HoldsNow, LeavesOnly, Sector, sector}
use Rattle.sector_disk.proofs.Moments.{exactly_none}
use Rattle.extents.specs.Extent.{AreDistinct, places}
use Rattle.extents.specs.Layout.{unused_count}
use Rattle.extents.specs.Limits.{root_sectors}
use Rattle.extents.specs.Used.{layout_of}
use Rattle.extents.proofs.UsedLemmas.{unused_count-used, layout_of-claims, same-from_used}
use Rattle.passes.proofs.Runs.{bytes_at_same}
use Rattle.roots.specs.declared.root.Root.{Root}
use Rattle.roots.specs.declared.version.Version.TheVariants.{Two}
use Rattle.roots.specs.Entry.{SpellsEntry}
use Rattle.roots.proofs.RootLemmas.{listed_sectors-root_over_catalogues}
use Rattle.states.specs.Changes.{next as next_state}
use Rattle.states.specs.Cost.{catalogues_for}
use Rattle.states.specs.State.{Library, State}
use Rattle.store.specs.declared.change.Staged.TheVariants.{Catalogues, Nothing}
use Rattle.store.specs.declared.draft.Draft.{Draft}
use Rattle.store.specs.declared.draft.Touched.{Touched}
use Rattle.store.specs.declared.draft.Touched.TheVariants as touched
use Rattle.store.specs.declared.edit.Edit.TheVariants as edit
use Rattle.store.specs.declared.holds.HeldRow.{HeldRow}
use Rattle.store.specs.declared.kept.Kept.{Kept}
use Rattle.store.specs.declared.placed_entry.PlacedEntry.{PlacedEntry}
use Rattle.store.specs.declared.prepared.Prepared.{Prepared}
use Rattle.store.specs.declared.refusal.StoreRefusal.TheVariants.{Device, Reopen}
use Rattle.store.specs.Changed.{Changed}
use Rattle.store.specs.Draft.{IsDraftedAt, apart_from, commit_calls, committed, lists, staged}
use Rattle.store.specs.Holds.{in_use, lone_sectors}
use Rattle.store.specs.Opened.{IsAt}
use Rattle.store.specs.Stands.{HasRoom, Stands, StandsBy, catalogues_of, entries_cost, entry_sectors, extents_of, library_of, name_of, names_at, sectors_of, used}
use Rattle.store.specs.Taken.{AreTaken}
use Rattle.store.specs.inside.Change.{AreWritten, CanBeStaged, IsFollowed}
use Rattle.store.specs.inside.Claimed.{IsClaimedBeside, IsUsable}
use Rattle.store.specs.inside.Committed.{Commits}
use Rattle.store.specs.inside.Draft.{IsDrafting, drafting, own_in, own_sectors_in}
use Rattle.store.specs.inside.Kept.{IsKept}
use Rattle.store.specs.inside.Moved.{IsMoved}
use Rattle.store.specs.inside.Next.{IsNext, next_root}
use Rattle.store.specs.inside.Prepared.{IsReady, Makes}
use Rattle.store.specs.inside.Room.{AreClaimedOnce, IsReleased}
use Rattle.store.specs.inside.Unlisted.{CanReleaseUnlisted, ReleasesUnlisted}
use Rattle.store.specs.inside.Stored.{IsStored, opened}
use Rattle.store.proofs.Anew.{released_nothing, back_kept, claimed_as, left_claimed, more_held, more_inside, more_once, moved_apart, moved_held, moved_size}
use Rattle.store.proofs.Claiming.{all-part}
use Rattle.store.proofs.CataloguedEntries.{can_be_catalogued}
use Rattle.store.proofs.Counts.{distinct_occurs, occurs, occurs-append, occurs-flat_map, occurs_distinct}
use Rattle.store.proofs.DraftBegins.{given_up}
use Rattle.store.proofs.DraftCounts.{swapped}
use Rattle.store.proofs.Drafts.{own_apart, own_places, own_same, own_unlisted}
use Rattle.store.proofs.DraftWrites.{beside_apart, beside_free, drafted_usable, joined}
use Rattle.store.proofs.Following.{following_kept, following_stands}
use Rattle.store.proofs.KeepsHolders.{keeps_same}
use Rattle.store.proofs.Outcomes.{still}
use Rattle.store.proofs.Placing.{singles_same}
use Rattle.store.proofs.Preloads.{preloads_followed, preloads_next, preloads_prepared}
use Rattle.store.proofs.Releases.{held_rest, released_rest, released_some}
use Rattle.store.proofs.Rooms.{costs_are}
use Rattle.store.proofs.Untouched.{untouched}

-- if the list `others` doesn't have an entry, the entry's sectors are among those that `others` doesn't use
own_has : (others entries : List PlacedEntry) (i : ℕ) (d : PlacedEntry) → i < length entries → lists others (get_or entries i d) ≡ false
    → (k : ℕ) → Contains (sectors_of (get_or entries i d)) k → Contains (own_sectors_in others entries) k
own_has others [] i d lt isnt k found = absurd (omega (arith, lt))
own_has others (e ∷ entries) zero d lt isnt k found =
    Contains-append_left (own_in others e) (own_sectors_in others entries) k (subst (λ l. Contains l k) (sym (own_unlisted others e isnt)) found)
own_has others (e ∷ entries) (suc i) d lt isnt k found =
    Contains-append_right (own_in others e) (own_sectors_in others entries) k (own_has others entries i d (omega (arith, lt)) isnt k found)

-- if two functions agree on each entry, they agree on the list of entries
map_same : (f g : PlacedEntry → Library) (entries : List PlacedEntry) → All (λ p. f p ≡ g p) entries → map f entries ≡ map g entries
map_same f g [] each = refl
map_same f g (p ∷ entries) each = λ i. each 0 p (omega arith) i ∷ map_same f g entries (λ k d lt. each (suc k) d (omega (arith, lt))) i

-- if two functions agree on the list of entries, they agree on each entry
member_same : (f g : PlacedEntry → Library) (entries : List PlacedEntry) (p : PlacedEntry) → map f entries ≡ map g entries → Contains entries p → f p ≡ g p
member_same f g entries p same found =
    sym (ap f found.2)
    ∙ sym (get_or-map f entries found.0 p (f p) found.1)
    ∙ ap (λ l. get_or l found.0 (f p)) same
    ∙ get_or-map g entries found.0 p (f p) found.1
    ∙ ap g found.2

-- if the list was changed, something was changed
pub list_changed : (t : Touched) → t ≡ touched.List → t ≢ touched.Nothing
list_changed t is nothing = let never : touched.List ≡ touched.Nothing = sym is ∙ nothing in cc never

pub preloads_changed : (t : Touched) → t ≡ touched.Preloads → t ≢ touched.Nothing
preloads_changed t is nothing = let never : touched.Preloads ≡ touched.Nothing = sym is ∙ nothing in cc never

pub preloads_alone : (t : Touched) → t ≡ touched.Preloads → t ≢ touched.List
preloads_alone t is list = let never : touched.Preloads ≡ touched.List = sym is ∙ list in cc never

module _ {sectors : ℕ} {kept : Kept} {draft : Draft} (is : IsDrafting sectors kept draft) where
  abbrev standing : List PlacedEntry
  standing = kept.entries.items

  abbrev entries : List PlacedEntry
  entries = draft.entries.items

  -- the sectors that the update wrote, and the sectors that the commit gives up
  abbrev own : List ℕ
  own = own_sectors_in standing entries

  abbrev gone : List ℕ
  gone = own_sectors_in entries standing

  stands : IsKept kept.root standing kept.held is.staged.standing
  stands = is.staged.stands

  standing_once : AreDistinct (entry_sectors standing)
  standing_once = own_places standing (occurs_distinct (flat_map sectors_of standing)
      (λ k. omega (arith, distinct_occurs k (used kept.root standing) stands.apart.once, occurs-append k (catalogues_of kept.root) (flat_map sectors_of standing))))

  -- The draft's entries and the sectors that the commit gives up have together the same sectors as the current entries
  -- and what the update wrote.
  both : (h : List ℕ → ℕ) → h [] ≡ 0
      → sum_by (λ p. h (sectors_of p)) entries + sum_by (λ p. h (own_in entries p)) standing ≡ sum_by (λ p. h (sectors_of p)) standing + sum_by (λ p. h (own_in standing p)) entries
  both h none = swapped h none entries standing is.list.once standing_once is.list.each

  -- If anything was changed, there is a next generation.
  pub commit_later : draft.touched ≢ touched.Nothing → kept.root.generation + 1 < 2 ^ 64
  commit_later changed = omega (arith, is.later changed, stands.root_fits.generation)

  -- The unused sectors are enough for the catalogues of the draft's list.
  pub commit_enough : catalogues_for (length entries) ≤ unused_count kept.layout
  commit_enough = omega (arith, is.staged.room)

  -- The disk consists of the roots, the catalogues, the sectors of the draft's entries, the sectors that the commit
  -- gives up, the sectors that only holders use, and the unused ones.
  pub commit_counted : root_sectors + length (catalogues_of kept.root) + entries_cost entries + length gone + length (lone_sectors kept.held) + unused_count kept.layout ≡ kept.root.sectors
  commit_counted =
      let before = in_use kept.root standing kept.held in
      let claimed = is.staged.claimed in
      let free = unused_count-used kept.layout (before ++ own) (claimed.once before stands.claimed.claims stands.claimed.once)
      (λ k d lt. (drafted_usable stands claimed k d lt).0) (claimed.each before stands.claimed.claims) in
      omega (
        arith,
        free,
        claimed.size,
        stands.size,
        stands.root_fits.sectors,
        length-append before own,
        length-append (used kept.root standing) (lone_sectors kept.held),
        length-append (catalogues_of kept.root) (flat_map sectors_of standing),
        length-flat_map sectors_of standing,
        length-flat_map sectors_of entries,
        length-flat_map (own_in standing) entries,
        length-flat_map (own_in entries) standing,
        both length refl,
        costs_are entries is.list.fit,
      )

  -- Catalogues are claimed, and the next root lists the draft's entries by these catalogues.
  module _ {mid : List Bool} {taken : List ℕ} {next : Root} (claimed : IsClaimedBeside kept.layout mid taken)
      (is_next : next ≡ next_root kept.root (length entries) taken draft.preloads.items) where
    listed : catalogues_of next ≡ taken
    listed = ap catalogues_of is_next ∙ listed_sectors-root_over_catalogues (kept.root.generation + 1) kept.root.sectors (length entries) taken draft.preloads.items

    -- the catalogues are claimed beside the current state, together with what the update wrote
    with_own : IsClaimedBeside is.staged.standing mid (own ++ taken)
    with_own = joined stands is.staged.claimed claimed

    pub commit_moved : IsMoved (used kept.root standing) (own ++ taken) (used next entries) (gone ++ catalogues_of kept.root)
    commit_moved = record {
      parts = λ k. omega (
        arith,
        both (occurs k) refl,
        ap (occurs k) listed,
        occurs-append k (catalogues_of next) (flat_map sectors_of entries),
        occurs-append k gone (catalogues_of kept.root),
        occurs-append k (used kept.root standing) (own ++ taken),
        occurs-append k own taken,
        occurs-append k (catalogues_of kept.root) (flat_map sectors_of standing),
        occurs-flat_map k sectors_of entries,
        occurs-flat_map k sectors_of standing,
        occurs-flat_map k (own_in standing) entries,
        occurs-flat_map k (own_in entries) standing,
      );
    }

    -- There is room for the list, even if holders keep all sectors that the commit gives up.
    pub commit_room : (size : ℕ) → kept.root.sectors ≤ size + (length (lone_sectors kept.held) + length gone) → HasRoom size next.list entries
    commit_room size enough = subst (λ r. HasRoom size r.list entries) (sym is_next) (omega (arith, commit_counted, is.staged.room, enough))

    -- The catalogues and the update's sectors are claimed beside the current state, so that they can be given back if a
    -- call fails.
    turned : IsClaimedBeside is.staged.standing mid (taken ++ own)
    turned = claimed_as is.staged.standing mid (own ++ taken) (taken ++ own) (λ k. omega (arith, occurs-append k own taken, occurs-append k taken own)) with_own

    module _ {then : List Bool} (released : IsReleased mid then taken) where
      pub back_own : AreClaimedOnce then own
      back_own = held_rest mid then (taken ++ own) own (more_held stands turned) (released_some mid taken own then released)

      pub back_all : {new : List Bool} → IsReleased then new own → IsKept kept.root standing kept.held new
      back_all {new = new} rest = back_kept stands turned new (released_rest mid then new (taken ++ own) own (released_some mid taken own then released) rest)

    module _ (count : length taken ≡ catalogues_for (length entries)) (later : kept.root.generation + 1 < 2 ^ 64) where
      pub commit_next : IsNext kept.root entries taken draft.preloads.items next
      commit_next = record {
        is_next = is_next;
        later = later;
        few = is.list.few;
        enough = count;
        fit = is.list.fit;
        apart = moved_apart stands with_own next entries commit_moved;
        room = commit_room kept.root.sectors (omega arith);
        names = is.list.names;
        few_preloads = is.preloads.few;
        preloads_inside = is.preloads.inside;
        preloads_once = is.preloads.once;
      }

      -- The catalogues can be written.
      pub commit_place : CanBeStaged sectors (Catalogues taken) draft.sectors.items
      commit_place = subst (λ n. CanBeStaged n (Catalogues taken) draft.sectors.items) (sym is.size)
          (subst (CanBeStaged kept.root.sectors (Catalogues taken)) (sym is.places) (
            record {
              inside = all-part (IsUsable kept.root.sectors) taken (own ++ taken) (λ s found. Contains-append_right own taken s found) (more_inside stands with_own);
              once = occurs_distinct taken (λ k. omega (arith, occurs-append k own taken, distinct_occurs k (own ++ taken) (more_once stands with_own)));
            },
            can_be_catalogued kept.root.sectors (length taken) next entries (omega (arith, stands.root_fits.sectors)) count is.list.few commit_next.apart,
          ))

      -- The sectors that the commit gives up can be settled.
      pub commit_can : CanReleaseUnlisted kept.root standing entries kept.held mid
      commit_can = record {
        before = is.staged.standing;
        kept = stands;
        list = is.list;
        claimed = moved_held stands with_own next entries commit_moved;
      }

      -- Once they are settled, the store keeps the draft's list.
      pub commit_kept : {left : List HeldRow} {new : List Bool} → ReleasesUnlisted kept.root standing entries kept.held left mid new → IsKept next entries left new
      commit_kept {left = left} {new = new} settled = following_kept commit_next stands.root_fits left new
          (moved_size stands with_own new settled.released)
          (commit_room (kept.root.sectors - length (lone_sectors left)) (omega (arith, settled.few)))
          settled.rows
          (left_claimed stands with_own next entries commit_moved (lone_sectors left) settled.freed gone (catalogues_of kept.root) refl settled.parts new settled.released)

  -- The catalogues are taken from the sectors that weren't in use.
  pub commit_taken : (taken : List ℕ) → AreTaken kept.layout taken
      → AreTaken (layout_of kept.root.sectors (in_use kept.root standing kept.held ++ flat_map sectors_of (apart_from standing entries))) taken
  commit_taken taken of_layout =
      let before = in_use kept.root standing kept.held in
      let claimed = is.staged.claimed in
      let here = layout_of kept.root.sectors (before ++ own) in
      let claims = layout_of-claims kept.root.sectors (before ++ own) (λ k d lt. (drafted_usable stands claimed k d lt).1) in
      subst (λ l. AreTaken (layout_of kept.root.sectors (before ++ l)) taken) (own_apart standing entries)
      (singles_same taken kept.layout here (same-from_used kept.layout here (before ++ own)
      (claimed.size ∙ stands.size ∙ sym (length-map-range_with_len _ 0 kept.root.sectors)) (claimed.each before stands.claimed.claims) claims) of_layout)

  -- A disk with the current state `s` and the draft's state `d`.
  module _ {D : Type 0} {facts : D → DiskFacts} {disk : D} {s d : State} (at : IsDraftedAt facts (drafting disk kept draft) s d) (holds : HoldsNow (facts disk)) where
    abbrev now : List Sector
    now = (facts disk).now

    by_now : StandsBy Two now kept.root standing s
    by_now = at.stands.stands now holds

    -- Sectors that hold the current state and have what the draft wrote.
    module _ {m : List Sector} (by : StandsBy Two m kept.root standing s) (written : AreWritten now (staged (drafting disk kept draft)) m) where
      wrote : (i : ℕ) (e : PlacedEntry) → i < length entries → lists standing (get_or entries i e) ≡ false
          → (k : ℕ) → Contains (sectors_of (get_or entries i e)) k → sector m k ≡ sector now k
      wrote i e lt isnt k found = written.each k (subst (λ l. Contains l k) (own_apart standing entries) (own_has standing entries i e lt isnt k found))

      -- Sectors that hold the current state and have what the draft wrote encode the draft's entries.
      draft_spelt : All (λ placed. SpellsEntry (sector m placed.at) placed.entry) entries
      draft_spelt i e lt = ⊎_elim
          (λ listed. All-contains (λ (p : PlacedEntry). SpellsEntry (sector m p.at) p.entry) standing (get_or entries i e) by.intact.listed.each (is.list.each i e lt listed))
          (λ isnt. subst (λ content. SpellsEntry content (get_or entries i e).entry) (sym (wrote i e lt isnt (get_or entries i e).at (0, omega arith, refl))) (at.spelt i e lt))
          (cases_Bool (lists standing (get_or entries i e)))

      -- Sectors that hold the current state and have what the draft wrote have the draft's byte strings.
      draft_library : All (λ p. library_of m p ≡ library_of now p) entries
      draft_library i e lt =
          let p = get_or entries i e in
          ⊎_elim
          (λ listed. member_same (library_of m) (library_of now) standing p (ap (λ (t : State). t.libraries) (sym by.is ∙ by_now.is)) (is.list.each i e lt listed))
          (λ isnt.
          let ks = places (extents_of p.entry) in
          let same = bytes_at_same now m ks (λ k found. wrote i e lt isnt k (Contains-append_right (p.at ∷ []) ks k found)) in
          λ i. record { name = name_of p.entry; bytes = take p.entry.file_length (same i) })
          (cases_Bool (lists standing p))

      draft_libraries : map (library_of m) entries ≡ map (library_of now) entries
      draft_libraries = map_same (library_of m) (library_of now) entries draft_library

      draft_next : next_state s d.libraries d.preloads
          ≡ record { generation = kept.root.generation + 1; libraries = map (library_of m) entries; preloads = names_at (map (library_of m) entries) draft.preloads.items }
      draft_next =
          let libraries = ap (λ (t : State). t.libraries) at.is ∙ sym draft_libraries in
          let preloads = ap (λ (t : State). t.preloads) at.is ∙ ap (λ l. names_at l draft.preloads.items) (sym draft_libraries) in
          let generation = ap (λ (t : State). t.generation + 1) by_now.is in
          λ i. record { generation = generation i; libraries = libraries i; preloads = preloads i }

    -- The catalogues and the next root turn the current state into the draft's state.
    module _ {mid : List Bool} {taken : List ℕ} {next : Root} (claimed : IsClaimedBeside kept.layout mid taken)
        (is_next : next ≡ next_root kept.root (length entries) taken draft.preloads.items)
        (count : length taken ≡ catalogues_for (length entries)) (later : kept.root.generation + 1 < 2 ^ 64) where
      pub commit_followed : (places : List ℕ) → places ≡ draft.sectors.items
          → IsFollowed Two kept.root standing s now (staged (drafting disk kept draft)) (record { staged = Catalogues taken; root = next }) [] places entries (next_state s d.libraries d.preloads)
      commit_followed places are = subst (λ l. IsFollowed Two kept.root standing s now (staged (drafting disk kept draft)) (record { staged = Catalogues taken; root = next }) [] l entries (next_state s d.libraries d.preloads))
          (sym (are ∙ is.places)) (record {
            unused = λ k found there. beside_free stands is.staged.claimed claimed k found (Contains-append_left (used kept.root standing) (lone_sectors kept.held) k there);
            apart = λ k found there. beside_apart stands is.staged.claimed claimed k
                (Contains-append_right (in_use kept.root standing kept.held) own k (subst (λ l. Contains l k) (sym (own_apart standing entries)) there)) found;
            synced = tt;
            stands = λ m by catalogued written. following_stands (commit_next claimed is_next count later) stands.root_fits Two m standing s (next_state s d.libraries d.preloads) by catalogued
                (draft_spelt by written) (draft_next by written);
          })

  -- If only the preloads were set, the same catalogues are listed.
  module _ {next : Root} (same : entries ≡ standing) (is_next : next ≡ next_root kept.root (length standing) (catalogues_of kept.root) draft.preloads.items)
      (later : kept.root.generation + 1 < 2 ^ 64) where
    counted_next : next ≡ next_root kept.root kept.root.library_count (catalogues_of kept.root) draft.preloads.items
    counted_next = is_next ∙ ap (λ n. next_root kept.root n (catalogues_of kept.root) draft.preloads.items) stands.counted

    pub chosen_next : IsNext kept.root standing (catalogues_of kept.root) draft.preloads.items next
    chosen_next = preloads_next draft.preloads.items stands is.two counted_next is.preloads.few
        (subst (λ l. All (λ position. position < length l) draft.preloads.items) same is.preloads.inside) is.preloads.once later

    abbrev pub choice : Prepared
    choice = record { change = record { staged = Nothing; root = next }; edit = edit.Nothing }

    pub chosen_ready : kept.failed ≡ false → IsReady sectors kept choice
    chosen_ready usable =
        let prepared = preloads_prepared draft.preloads.items stands is.two counted_next chosen_next in
        record {
          change = record {
            before = is.staged.standing;
            kept = stands;
            claimed = subst (IsClaimedBeside is.staged.standing kept.layout) (ap (own_sectors_in standing) same ∙ own_same standing) is.staged.claimed;
            place = tt;
            catalogues = catalogues_of kept.root;
            preloads = draft.preloads.items;
            next = chosen_next;
            moved = prepared.moved;
            room = prepared.room;
          };
          list = record { within = tt; memory = tt };
          edit = record { within = tt; spelt = tt; names = tt; memory = tt; places = tt };
          indexed = is.indexed;
          size = is.size;
          two = is.two;
          listed = is.listed;
          usable = usable;
        }

    -- The new preloads turn the current state into the draft's state.
    pub chosen_makes : {D : Type 0} {facts : D → DiskFacts} {disk : D} {s d : State} → IsDraftedAt facts (drafting disk kept draft) s d → HoldsNow (facts disk)
        → Makes (facts disk).now [] kept choice [] s (next_state s d.libraries d.preloads)
    chosen_makes {facts = facts} {disk = disk} {s = s} {d = d} at holds =
        let now = (facts disk).now in
        let stood = at.stands.stands now holds in
        let listed : map (library_of now) entries ≡ s.libraries = ap (map (library_of now)) same ∙ sym (ap (λ (t : State). t.libraries) stood.is) in
        let libraries : s.libraries ≡ d.libraries = sym (ap (λ (t : State). t.libraries) at.is ∙ listed) in
        let preloads : names_at s.libraries draft.preloads.items ≡ d.preloads = sym (ap (λ (t : State). t.preloads) at.is ∙ ap (λ l. names_at l draft.preloads.items) listed) in
        subst (λ t. Makes now [] kept choice [] s t) (λ i. next_state s (libraries i) (preloads i))
        (preloads_followed chosen_next stands.root_fits is.two now s [] (entry_sectors standing))

-- The commit of a draft in which nothing was changed makes no call, and the store is unchanged.
module _ {D : Type 0} (facts : D → DiskFacts) (disk : D) {sectors : ℕ} {kept : Kept} {draft : Draft} (is : IsDrafting sectors kept draft)
    (nothing : draft.touched ≡ touched.Nothing) where
  not_list : draft.touched ≢ touched.List
  not_list list = let never : touched.Nothing ≡ touched.List = sym nothing ∙ list in cc never

  pub nothing_stored : IsStored sectors kept
  nothing_stored = given_up kept draft is kept.layout
      (subst (IsReleased kept.layout kept.layout) (sym (ap (own_sectors_in kept.entries.items) (is.same not_list) ∙ own_same kept.entries.items)) (released_nothing kept.layout))

  pub commits_nothing : IsFalse kept.failed → Commits facts (drafting disk kept draft) (opened disk kept) (Ok tt)
  commits_nothing usable = record {
    any_moment = λ s d at. subst (λ t. LeavesOnly (facts disk) (facts disk) (λ m. Stands m s ⊎ Stands m (committed t s d))) (sym nothing)
        (untouched facts (opened disk kept) (opened disk kept) s s refl at.stands);
    ok = λ s d at. subst (λ t. IsAt facts (opened disk kept) (committed t s d)) (sym nothing) at.stands;
    held = keeps_same facts {old = opened disk kept} refl;
    on_any_disk = subst (λ t. Changed facts Device Reopen (opened disk kept) (opened disk kept) (commit_calls t (length draft.entries.items)) (λ e. (e ≡ Device) ⊎ (e ≡ Reopen)) (Ok tt)) (sym nothing) (record {
      reopen = (λ reopen. absurd (cc reopen), λ failed. absurd (false≢true (sym usable ∙ failed)));
      device = tt;
      same = tt;
      usable = usable;
      refusals = tt;
      all_calls = exactly_none (facts disk);
      calls = still facts {old = opened disk kept} refl;
    });
    entries = sym (is.same not_list);
    preloads = sym (is.first nothing);
    placed = λ list. absurd (not_list list);
    catalogues = λ _. refl;
    given_up = tt;
    same = λ _. refl;
  }
