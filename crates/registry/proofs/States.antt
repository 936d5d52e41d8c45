-- Lemmas about the state that a registry's disk holds, and about a registry at a state.
use Rattle.std.proofs.Common.{◌≡◌, ◌↔◌, ◌==◌, ◌<◌, ◌≤◌, ℕ, All, List, length, get_or, IsTrue, ⊎_elim, sym, ap, ◌∙◌, arith}
use Rattle.std.specs.Prelude.{nat_eq}
use Rattle.std.specs.List.{IsDistinct, list_any}
use Rattle.std.proofs.lemmas.Bool.{cases_lt}
use Rattle.std.proofs.lemmas.Bool.Decides.{Decides-eqb}
use Rattle.std.proofs.lemmas.Map.Made.{IsDistinct-from_AllPairs}
use Rattle.std.proofs.lemmas.List.{get_or-map, get_or_default, length-map, length-take-le}
use Rattle.sector_disk.specs.Disk.{Sector, sector, DiskFacts, Mixture, HoldsNow}
use Rattle.roots.specs.Root.{RootHasSpelling, listed_preloads}
use Rattle.roots.specs.declared.version.Version.TheVariants.{Two}
use Rattle.roots.proofs.RootLemmas.{few_2}
use Rattle.store.specs.declared.placed_entry.PlacedEntry.{PlacedEntry}
use Rattle.store.specs.Opened as opened
use Rattle.store.specs.Stands as sectors
use Rattle.store.specs.Stands.{HaveOwnNames, no_library, names_at, name_of}
use Rattle.store.proofs.Queries as queries
use Rattle.store.proofs.Listings.{listed_2}
use Rattle.store.proofs.UsedAlone.{current_fits, no_entry}
use Rattle.store.proofs.StandsLemmas as sectors_lemmas
use Rattle.states.specs.Limits.{most_libraries}
use Rattle.states.specs.State.{Library, State, has_name}
use Rattle.requests.specs.Library.{IsLibrary}
use Rattle.requests.specs.State.{IsState}
use Rattle.registry.specs.Opened.{IsAt}
use Rattle.registry.specs.Stands.{Stands}
use Rattle.registry.proofs.Names.{name_stands, same_preload}

-- Sectors hold at most one state.
pub one_state : (m : List Sector) (s t : State) → Stands m s → Stands m t → s ≡ t
one_state m s t a b = sectors_lemmas.one_state m Two Two s t a.stored b.stored

-- each mixture of a registry at a state holds that state
pub mixture_stands : {D : Type 0} (facts : D → DiskFacts) (registry : opened.Opened D) (s : State) → IsAt facts registry s → (m : List Sector) → Mixture (facts registry.disk) m → Stands m s
mixture_stands facts registry s at m mixture = record { stored = (registry.root, registry.entries, at.stored.stands m mixture); libraries = at.libraries }

module _ {D : Type 0} (facts : D → DiskFacts) (registry : opened.Opened D) (s : State) (at : opened.IsAt facts registry s)
    (holds : IsTrue (facts registry.disk).honest → HoldsNow (facts registry.disk)) where
  now_stands : sectors.StandsBy Two (facts registry.disk).now registry.root registry.entries s
  now_stands = at.stands (facts registry.disk).now (holds at.honest)

  -- the number of sectors in the root is the disk's
  pub same_sectors : registry.root.sectors ≡ (facts registry.disk).sectors
  same_sectors = now_stands.intact.size ∙ (holds at.honest).size

  root_fits : RootHasSpelling registry.root
  root_fits = current_fits (sector (facts registry.disk).now 0) (sector (facts registry.disk).now 1) registry.root now_stands.intact.current

  -- the number of libraries in the root is the number of entries
  counted : length registry.entries ≡ registry.root.library_count
  counted =
      sym (length-map registry.entries (λ (p : PlacedEntry). p.at))
      ∙ ((listed_2 (facts registry.disk).now registry.root.library_count registry.root.list (sectors.entry_sectors registry.entries) now_stands.of_version).0 now_stands.intact.listed.sectors).0

  pub count_is : length registry.entries ≡ length s.libraries
  count_is = queries.count_is facts Two registry s holds at

  preloads_are : s.preloads ≡ names_at s.libraries (listed_preloads registry.root)
  preloads_are = queries.preloads_are facts Two registry s holds at

  count_libraries : length s.libraries ≡ length registry.entries
  count_libraries = sym count_is

  library_name_is : (i : ℕ) (d : Library) → i < length s.libraries → (get_or s.libraries i d).name ≡ name_of (get_or registry.entries i no_entry).entry
  library_name_is i d lt =
      ap (λ (l : Library). l.name) (get_or_default s.libraries i d no_library lt)
      ∙ sym (queries.name_is facts Two registry s holds at i no_entry (omega (arith, lt, count_libraries)))

  preload_inside : (k : ℕ) → k < length (listed_preloads registry.root) → get_or (listed_preloads registry.root) k 0 < length s.libraries
  preload_inside k lt = omega (arith, root_fits.preloads.listed.used k 0 lt, counted, count_is)

  pub preloads_inside : All (λ p. p < length s.libraries) (listed_preloads registry.root)
  preloads_inside k d lt = omega (arith, root_fits.preloads.listed.used k d lt, counted, count_is)

  -- No two entries have the same name, and no preload is listed twice.
  pub own_names : HaveOwnNames registry.entries
  own_names = now_stands.intact.names

  pub preloads_listed : All (λ p. p < length registry.entries) (listed_preloads registry.root)
  preloads_listed k d lt = omega (arith, root_fits.preloads.listed.used k d lt, counted)

  pub preloads_once : IsDistinct nat_eq (listed_preloads registry.root)
  preloads_once = IsDistinct-from_AllPairs Decides-eqb (listed_preloads registry.root) root_fits.preloads.distinct

  -- a library is a preload by its position exactly if it is a preload by its name
  pub same_preload_name : (name : List ℕ) (position : ℕ) → ((p : ℕ) → (position ≡ p) ↔ ((p < length s.libraries) × ((get_or s.libraries p no_library).name ≡ name)))
      → list_any (λ p. p == position) (listed_preloads registry.root) ≡ has_name s.preloads name
  same_preload_name name position at_name = same_preload s name position (listed_preloads registry.root) preloads_inside at_name ∙ ap (λ ns. has_name ns name) (sym preloads_are)

  length_preloads : length s.preloads ≡ length (listed_preloads registry.root)
  length_preloads = ap length preloads_are ∙ length-map (listed_preloads registry.root) (λ i. (get_or s.libraries i no_library).name)

  preload_is : (k : ℕ) (d : List ℕ) → k < length (listed_preloads registry.root) → get_or s.preloads k d ≡ (get_or s.libraries (get_or (listed_preloads registry.root) k 0) no_library).name
  preload_is k d lt = ap (λ ns. get_or ns k d) preloads_are ∙ get_or-map (λ i. (get_or s.libraries i no_library).name) (listed_preloads registry.root) k 0 d lt

  pub few_libraries : length s.libraries ≤ most_libraries
  few_libraries = omega (arith, count_libraries, counted, few_2 registry.root root_fits now_stands.of_version)

  -- If all files are libraries, the state of a registry on a disk is a state as commands define it.
  pub is_state : All IsLibrary s.libraries → IsState s
  is_state libraries = record {
    libraries = libraries;
    own_names = λ i j d lt within. λ same.
        now_stands.intact.names i j no_entry lt (omega (arith, within, count_libraries))
        (sym (library_name_is i d (omega (arith, lt, within))) ∙ same ∙ library_name_is j d within);
    few = few_libraries;
    installed = λ k d lt.
        let k_lt : k < length (listed_preloads registry.root) = omega (arith, lt, length_preloads) in
        name_stands s (get_or s.preloads k d) (get_or (listed_preloads registry.root) k 0) (preload_inside k k_lt) (sym (preload_is k d k_lt));
    once = λ i j d lt within. λ same.
        let j_lt : j < length (listed_preloads registry.root) = omega (arith, within, length_preloads) in
        let i_lt : i < length (listed_preloads registry.root) = omega (arith, lt, j_lt) in
        root_fits.preloads.distinct i j 0 lt j_lt
        (one_position (get_or (listed_preloads registry.root) i 0) (get_or (listed_preloads registry.root) j 0) (preload_inside i i_lt) (preload_inside j j_lt)
        (sym (preload_is i d i_lt) ∙ same ∙ preload_is j d j_lt));
    few_preloads = omega (arith, length_preloads, length-listed, root_fits.preloads.listed.room);
  }
    where
      length-listed : length (listed_preloads registry.root) ≡ registry.root.preload_count
      length-listed = length-take-le registry.root.preload_count registry.root.preloads (omega (arith, root_fits.preloads.listed.room, root_fits.preloads.listed.size))

      one_position : (p q : ℕ) → p < length s.libraries → q < length s.libraries → (get_or s.libraries p no_library).name ≡ (get_or s.libraries q no_library).name → p ≡ q
      one_position p q p_lt q_lt same =
          let own = now_stands.intact.names in
          let p_in : p < length registry.entries = omega (arith, p_lt, count_is) in
          let q_in : q < length registry.entries = omega (arith, q_lt, count_is) in
          let named : name_of (get_or registry.entries p no_entry).entry ≡ name_of (get_or registry.entries q no_entry).entry =
          queries.name_is facts Two registry s holds at p no_entry p_in ∙ same ∙ sym (queries.name_is facts Two registry s holds at q no_entry q_in) in
          ⊎_elim
          (λ before. absurd (own p q no_entry before q_in named))
          (λ le. ⊎_elim
          (λ behind. absurd (own q p no_entry behind p_in (sym named)))
          (λ le'. let same : p ≡ q = omega (arith, le, le') in same)
          (cases_lt q p))
          (cases_lt p q)
