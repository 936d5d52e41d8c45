-- The two passes of a change: the first keeps the state that the mixtures hold, and the second changes it.
use Rattle.std.proofs.Common.{Result, Ok, Err, OnOk, ◌≡◌, ◌≢◌, inl, inr, ⊎_elim, ◌⊎◌, ℕ, ◌+◌, ◌<◌, ◌≤◌, List, [], length, get_or, set, map, refl, sym, ap, subst, ◌∙◌, arith}
use Rattle.std.specs.Prelude.{Contains}
use Rattle.std.proofs.lemmas.List.{length-set, get_or-set_same, get_or-set_other}
use Rattle.std.specs.List.{flat_map}
use Rattle.std.proofs.lemmas.List.Elements.{All-contains, Contains-append_left, Contains-append_right}
use Rattle.sector_disk.specs.Disk.{Sector, sector, DiskFacts, Mixture, HoldsNow, IsSynced, LeavesOnly, SameBut, IsMixtureBut, IsMixtureOrSet}
use Rattle.sector_disk.proofs.Moments.{weaken, left_now}
use Rattle.extents.specs.Limits.{root_sectors}
use Rattle.roots.specs.declared.root.Root.{Root}
use Rattle.roots.specs.Root.{RootHasSpelling, SpellsRoot, root_bytes, version_of, listed_preloads}
use Rattle.roots.specs.Entry.{SpellsEntry}
use Rattle.roots.specs.Choice.{KeepsVersion, IsCurrent, slot_of}
use Rattle.roots.proofs.ChoiceLemmas.{current-next_odd, current-next_even}
use Rattle.store.specs.declared.placed_entry.PlacedEntry.{PlacedEntry}
use Rattle.states.specs.State.{State}
use Rattle.roots.specs.declared.version.Version.{Version}
use Rattle.roots.specs.declared.version.Version.TheVariants.{Two}
use Rattle.store.specs.Stands.{IsListed, UsesApart, HasRoom, HaveOwnNames, StandsBy, StandsAs, Stands, entry_sectors, library_of, names_at, catalogues_of, sectors_of, used, state_of}
use Rattle.store.specs.declared.change.Change.{Change}
use Rattle.store.specs.inside.Change.{AreWritten, IsFollowed, IsStaged}
use Rattle.store.specs.inside.Room.{IsRootOr}
use Rattle.store.proofs.UsedAlone.{same_used, libraries_same, listed_same, own_used}

module _ (m : List Sector) (root next : Root) (others : List PlacedEntry) (fits : RootHasSpelling next)
    (follows : next.generation ≡ root.generation + 1) (size : next.sectors ≡ length m) (some : root_sectors ≤ length m)
    (keeps : KeepsVersion root next) where
  abbrev slot : ℕ
  slot = slot_of next.generation

  abbrev after : List Sector
  after = set m slot (root_bytes next)

  in_slot : sector after slot ≡ root_bytes next
  in_slot = get_or-set_same m slot (root_bytes next) [] (omega (arith, some))

  elsewhere : (k : ℕ) → k ≢ slot → sector after k ≡ sector m k
  elsewhere k other = get_or-set_other m slot k (root_bytes next) [] other

  behind : (k : ℕ) → root_sectors ≤ k → sector after k ≡ sector m k
  behind k le = elsewhere k (λ same. omega (arith, same, le))

  spelt : SpellsRoot (root_bytes next) next
  spelt = record { has_spelling = fits; spelling = refl }

  -- the next root is current once it is written to the other root sector
  pub next_current : IsCurrent (sector m 0) (sector m 1) root → IsCurrent (sector after 0) (sector after 1) next
  next_current current = ⊎_elim
      (λ (even : slot_of root.generation ≡ 0).
      let at : slot ≡ 1 = grind (arith, even, follows) in
      subst (λ c. IsCurrent c (sector after 1) next) (sym (elsewhere 0 (λ same. omega (arith, same, at))))
      (subst (λ c. IsCurrent (sector m 0) c next) (sym (ap (sector after) (sym at) ∙ in_slot))
      (current-next_odd (sector m 0) (sector m 1) (root_bytes next) root next current even follows keeps spelt)))
      (λ (odd : slot_of root.generation ≡ 1).
      let at : slot ≡ 0 = grind (arith, odd, follows) in
      subst (λ c. IsCurrent c (sector after 1) next) (sym (ap (sector after) (sym at) ∙ in_slot))
      (subst (λ c. IsCurrent (root_bytes next) c next) (sym (elsewhere 1 (λ same. omega (arith, same, at))))
      (current-next_even (sector m 0) (sector m 1) (root_bytes next) root next current odd follows keeps spelt)))
      parity
    where
      parity : (slot_of root.generation ≡ 0) ⊎ (slot_of root.generation ≡ 1)
      parity = grind arith

  -- Sectors that have everything that a root lists hold its state once the root is written.
  pub next_stands : (s' : State) → version_of next ≡ Two → IsCurrent (sector m 0) (sector m 1) root → IsListed m next others
      → UsesApart (length m) next others → HasRoom (length m) next.list others → HaveOwnNames others → s' ≡ state_of m next others
      → StandsBy Two after next others s'
  next_stands s' two current listed apart room names is = record {
    of_version = two;
    intact = record {
      current = next_current current;
      size = size ∙ sym (length-set m slot (root_bytes next));
      listed = record {
        sectors = listed_same m after next.library_count next.list (entry_sectors others)
            (λ k found. kept k (Contains-append_left (catalogues_of next) (flat_map sectors_of others) k found)) listed.sectors;
        each = λ i d lt. subst (λ c. SpellsEntry c (get_or others i d).entry) (sym (kept (get_or others i d).at (own_used next others i d lt))) (listed.each i d lt);
      };
      apart = subst (λ n. UsesApart n next others) (sym (length-set m slot (root_bytes next))) apart;
      room = subst (λ n. HasRoom n next.list others) (sym (length-set m slot (root_bytes next))) room;
      names = names;
    };
    is = is ∙ sym (λ i. record { generation = next.generation; libraries = libraries i; preloads = names_at (libraries i) (listed_preloads next) });
  }
    where
      kept : (k : ℕ) → Contains (used next others) k → sector after k ≡ sector m k
      kept k found = behind k (All-contains (λ n. (root_sectors ≤ n) × (n < length m)) (used next others) k apart.inside found).0

      libraries : map (library_of after) others ≡ map (library_of m) others
      libraries = libraries_same m after others (λ k found. kept k (Contains-append_right (catalogues_of next) (flat_map sectors_of others) k found))

module _ (version : Version) {old mid : DiskFacts} (root : Root) (entries : List PlacedEntry) (s : State)
    (stands : (m : List Sector) → Mixture old m → StandsBy version m root entries s) (changed : ℕ → Type 0)
    (behind : (k : ℕ) → changed k → root_sectors ≤ k) (unused : (k : ℕ) → changed k → Contains (used root entries) k → ⊥)
    (staged : LeavesOnly old mid (IsMixtureBut changed old)) where
  abbrev IsOld : List Sector → Type 0
  IsOld m = StandsBy version m root entries s

  -- staging in unused sectors keeps the state
  pub staged_stands : LeavesOnly old mid IsOld
  staged_stands = weaken (IsMixtureBut changed old) IsOld
      (λ m but. same_used version but.0 m root entries s changed (stands but.0 but.1) but.2
      (λ k lt here. omega (arith, lt, behind k here))
      (λ k found here. unused k here found))
      staged

  pub staged_only : (s' : State) → LeavesOnly old mid (λ m. StandsAs version m s ⊎ Stands m s')
  staged_only s' = weaken IsOld (λ m. StandsAs version m s ⊎ Stands m s') (λ m by. inl (root, entries, by)) staged_stands

-- A root is written, and each mixture holds a state and has what is staged. Then each mixture holds that state or the
-- next one.
module _ (version : Version) {old : DiskFacts} (root : Root) (entries : List PlacedEntry) (s : State) (now : List Sector) (written : List PlacedEntry) (change : Change)
    (bytes listed : List ℕ) (others : List PlacedEntry) (s' : State) (stands : (m : List Sector) → Mixture old m → StandsBy version m root entries s)
    (staged : (m : List Sector) → Mixture old m → IsStaged m change.staged bytes listed) (still : (m : List Sector) → Mixture old m → AreWritten now written m)
    (followed : IsFollowed version root entries s now written change bytes listed others s') (at : ℕ) (content : Sector) (slot : at ≡ slot_of change.root.generation)
    (spelt : content ≡ root_bytes change.root) where
  after_stands : (m : List Sector) → Mixture old m → StandsBy Two (set m at content) change.root others s'
  after_stands m mixture = subst (λ c. StandsBy Two (set m at c) change.root others s') (sym spelt)
      (subst (λ k. StandsBy Two (set m k (root_bytes change.root)) change.root others s') (sym slot) (followed.stands m (stands m mixture) (staged m mixture) (still m mixture)))

  pub followed_only : {new : DiskFacts} → LeavesOnly old new (IsMixtureOrSet old at content) → LeavesOnly old new (λ m. StandsAs version m s ⊎ Stands m s')
  followed_only leaves = weaken (IsMixtureOrSet old at content) (λ m. StandsAs version m s ⊎ Stands m s')
      (λ m either. ⊎_elim
      (λ mixture. inl (root, entries, stands m mixture))
      (λ newer. inr (change.root, others, subst (λ l. StandsBy Two l change.root others s') (sym newer.2) (after_stands newer.0 newer.1)))
      either)
      leaves

  pub followed_done : HoldsNow old → {new : DiskFacts} → IsSynced new → new.now ≡ set old.now at content → (m : List Sector) → Mixture new m → StandsBy Two m change.root others s'
  followed_done holds is_synced is_set m mixture = subst (λ l. StandsBy Two l change.root others s') (sym (is_synced.each m mixture ∙ is_set)) (after_stands old.now holds)

-- if two facts hold of an Ok result, what follows from both holds of it
pub ok_both : {T E P Q R : Type 0} (result : Result T E) → (P → Q → R) → OnOk result P → OnOk result Q → OnOk result R
ok_both (Ok x) to p q = to p q
ok_both (Err e) to p q = tt

-- setting a root's sector changes only this sector and those that were changed before
set_others : (changed : List ℕ) {first m' m : List Sector} (at : ℕ) (content : Sector) → at < 2 → SameBut (IsRootOr changed) first m' → m ≡ set m' at content → SameBut (IsRootOr changed) first m
set_others changed {m' = m'} at content low same is = record {
  size = ap length is ∙ length-set m' at content ∙ same.size;
  others = λ k other. ap (λ l. sector l k) is ∙ get_or-set_other m' at k content [] (λ here. other (inl (omega (arith, here, low)))) ∙ same.others k other;
}

-- Staging and then committing changes only the staged sectors and the root sectors.
module _ {old mid : DiskFacts} (changed : List ℕ) (staged : LeavesOnly old mid (IsMixtureBut (Contains changed) old)) where
  pub staged_others : (m : List Sector) → Mixture mid m → IsMixtureBut (IsRootOr changed) old m
  staged_others m mixture =
      let but = left_now (IsMixtureBut (Contains changed) old) staged m mixture in
      (but.0, but.1, record { size = but.2.size; others = λ k other. but.2.others k (λ here. other (inr here)) })

  pub committed_others : {new : DiskFacts} (at : ℕ) (content : Sector) → at < 2 → LeavesOnly mid new (IsMixtureOrSet mid at content)
      → (m : List Sector) → Mixture new m → IsMixtureBut (IsRootOr changed) old m
  committed_others at content low committed m mixture = ⊎_elim
      (λ before. staged_others m before)
      (λ newer. let but = staged_others newer.0 newer.1 in (but.0, but.1, set_others changed at content low but.2 newer.2))
      (left_now (IsMixtureOrSet mid at content) committed m mixture)
