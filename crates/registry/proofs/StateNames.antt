-- Lemmas about the names and preloads of a registry on a disk, which follow from its state.
use Rattle.std.proofs.Common.{◌≡◌, ℕ, ◌<◌, List, [], ◌∷◌, length, map, get_or, cond, Some, None, IsTrue, refl, sym, ap, subst, ◌∙◌, arith}
use Rattle.std.specs.Prelude.{All, AllPairs, bytes_eq, nat_lt, position}
use Rattle.std.specs.List.{IsDistinct, filter_map, cons_option, position_or_len}
use Rattle.std.proofs.lemmas.Bool.{lt-ltb}
use Rattle.std.proofs.lemmas.Cmp.{nat_list_eq_equiv}
use Rattle.std.proofs.lemmas.List.{length-map, get_or-map}
use Rattle.std.proofs.lemmas.List.Elements.{All-head, All-tail}
use Rattle.std.proofs.lemmas.List.Sums.{position_or_len_is}
use Rattle.std.proofs.lemmas.Map.Keys.{apart_from_distinct}
use Rattle.std.proofs.lemmas.Map.Made.{IsDistinct-from_AllPairs}
use Rattle.std.proofs.lemmas.Slice.Eq.{bytes_eq-Decides}
use Rattle.sector_disk.specs.Disk.{Sector, DiskFacts, HoldsNow}
use Rattle.store.specs.declared.placed_entry.PlacedEntry.{PlacedEntry}
use Rattle.roots.specs.Root.{listed_preloads}
use Rattle.scope.specs.LoadOrder as order
use Rattle.scope.specs.Objects.{Named}
use Rattle.store.specs.Opened.{Opened, IsAt}
use Rattle.roots.specs.declared.version.Version.TheVariants.{Two}
use Rattle.store.specs.Stands.{StandsBy, HaveOwnNames, library_of, no_library, names_at}
use Rattle.requests.specs.Binding.{object_of, objects, preload_numbers}
use Rattle.states.specs.State.{Library, State, names_of}
use Rattle.registry.specs.inside.Named.{placed_name}
use Rattle.store.specs.NameOrder.{entry_names}
use Rattle.store.proofs.UsedAlone.{no_entry}

entries_apart : (entries : List PlacedEntry) → HaveOwnNames entries → AllPairs (λ a b. (a ≡ b) → ⊥) (entry_names entries)
entries_apart entries own i j d lt inside =
    let e : PlacedEntry = no_entry in
    let within : j < length entries = omega (arith, inside, length-map entries placed_name) in
    let before : i < length entries = omega (arith, lt, within) in
    λ same. own i j e lt within (sym (get_or-map placed_name entries i e d before) ∙ same ∙ get_or-map placed_name entries j e d within)

-- if no two entries have the same name, the list of names has no repetition
pub names_distinct : (entries : List PlacedEntry) → HaveOwnNames entries → IsDistinct bytes_eq (entry_names entries)
names_distinct entries own = IsDistinct-from_AllPairs bytes_eq-Decides (entry_names entries) (entries_apart entries own)

-- the position of name number k is k, if no name occurs twice
number_is : (names : List (List ℕ)) (k : ℕ) → IsDistinct bytes_eq names → k < length names → position (bytes_eq (get_or names k [])) names ≡ Some k
number_is names k distinct lt =
    let name : List ℕ = get_or names k [] in
    let is : position_or_len (bytes_eq name) names ≡ k =
    position_or_len_is (bytes_eq name) names k [] (omega (arith, lt))
    (λ j before. nat_list_eq_equiv.symm name (get_or names j []) ∙ apart_from_distinct bytes_eq names j k [] distinct before lt)
    (λ inside. (bytes_eq-Decides name name).1 refl) in
    ap (λ i. cond (nat_lt i (length names)) (Some i) None) is ∙ ap (λ b. cond b (Some k) None) (lt-ltb k (length names) lt)

numbers_back : (names : List (List ℕ)) (ks : List ℕ) → IsDistinct bytes_eq names → All (λ k. k < length names) ks
    → filter_map (λ name. position (bytes_eq name) names) (map (λ k. get_or names k []) ks) ≡ ks
numbers_back names [] distinct inside = refl
numbers_back names (k ∷ ks) distinct inside =
    ap (λ o. cons_option o (filter_map (λ name. position (bytes_eq name) names) (map (λ i. get_or names i []) ks)))
    (number_is names k distinct (All-head (λ i. i < length names) k ks inside))
    ∙ ap (λ l. k ∷ l) (numbers_back names ks distinct (All-tail (λ i. i < length names) k ks inside))

preload_names : (libraries : List Library) (ks : List ℕ) → All (λ k. k < length libraries) ks → names_at libraries ks ≡ map (λ k. get_or (names_of libraries) k []) ks
preload_names libraries [] inside = refl
preload_names libraries (k ∷ ks) inside =
    ap (λ n. n ∷ names_at libraries ks) (sym (get_or-map (λ (l : Library). l.name) libraries k no_library [] (All-head (λ i. i < length libraries) k ks inside)))
    ∙ ap (λ ns. get_or (names_of libraries) k [] ∷ ns) (preload_names libraries ks (All-tail (λ i. i < length libraries) k ks inside))

object_names : (ls : List Library) → order.names_of (map object_of ls) ≡ names_of ls
object_names [] = refl
object_names (l ∷ ls) = ap (λ ns. l.name ∷ ns) (object_names ls)

-- the number of entries is the number of libraries, if both have the same names
pub entry_count : (entries : List PlacedEntry) (s : State) → order.names_of (objects s) ≡ entry_names entries → length entries ≡ length s.libraries
entry_count entries s names =
    sym (length-map entries placed_name) ∙ ap length (sym names) ∙ length-map (objects s) (λ (o : Named). o.name) ∙ length-map s.libraries object_of

kept_names : (m : List Sector) (entries : List PlacedEntry) → names_of (map (library_of m) entries) ≡ entry_names entries
kept_names m [] = refl
kept_names m (e ∷ es) = ap (λ ns. placed_name e ∷ ns) (kept_names m es)

-- The libraries of the state are the byte strings of the entries.
module _ (m : List Sector) (entries : List PlacedEntry) (s : State) (libraries : s.libraries ≡ map (library_of m) entries) where
  names_known : names_of s.libraries ≡ entry_names entries
  names_known = ap names_of libraries ∙ kept_names m entries

  -- the objects of the state have the names of the entries
  pub names_of_entries : order.names_of (objects s) ≡ entry_names entries
  names_of_entries = object_names s.libraries ∙ names_known

  -- the numbers of the preloads are their positions
  pub numbers_of : (ks : List ℕ) → s.preloads ≡ names_at s.libraries ks → HaveOwnNames entries → All (λ k. k < length entries) ks → preload_numbers s ≡ ks
  numbers_of ks preloads own inside =
      let names : List (List ℕ) = entry_names entries in
      let within : All (λ k. k < length names) ks = subst (λ n. All (λ k. k < n) ks) (sym (length-map entries placed_name)) inside in
      let there : All (λ k. k < length s.libraries) ks = subst (λ n. All (λ k. k < n) ks) (sym (ap length libraries ∙ length-map entries (library_of m))) inside in
      let named : s.preloads ≡ map (λ k. get_or names k []) ks = preloads ∙ preload_names s.libraries ks there ∙ ap (λ (l : List (List ℕ)). map (λ k. get_or l k []) ks) names_known in
      ap (λ (l : List (List ℕ)). filter_map (λ name. position (bytes_eq name) l) s.preloads) names_known
      ∙ ap (filter_map (λ name. position (bytes_eq name) names)) named
      ∙ numbers_back names ks (names_distinct entries own) within

module _ {D : Type 0} (facts : D → DiskFacts) (kept : Opened D) (s : State) (holds : IsTrue (facts kept.disk).honest → HoldsNow (facts kept.disk)) (at : IsAt facts kept s) where
  abbrev now : List Sector
  now = (facts kept.disk).now

  now_stands : StandsBy Two now kept.root kept.entries s
  now_stands = at.stands now (holds at.honest)

  libraries_are : s.libraries ≡ map (library_of now) kept.entries
  libraries_are = ap (λ (t : State). t.libraries) now_stands.is

  pub names_are : order.names_of (objects s) ≡ entry_names kept.entries
  names_are = names_of_entries now kept.entries s libraries_are

  pub object_count : length (objects s) ≡ length kept.entries
  object_count = sym (length-map (objects s) (λ (o : Named). o.name)) ∙ ap length names_are ∙ length-map kept.entries placed_name

  pub numbers_are : HaveOwnNames kept.entries → All (λ k. k < length kept.entries) (listed_preloads kept.root) → preload_numbers s ≡ listed_preloads kept.root
  numbers_are own inside = numbers_of now kept.entries s libraries_are (listed_preloads kept.root)
      (ap (λ (t : State). t.preloads) now_stands.is ∙ ap (λ (l : List Library). names_at l (listed_preloads kept.root)) (sym libraries_are)) own inside
