-- Lemmas about the names of a registry's libraries, and their positions among its entries.
use Rattle.std.proofs.Common.{◌≡◌, ◌≢◌, ◌↔◌, ◌<◌, ◌≤◌, ⊎_elim, Some, None, ℕ, ◌+◌, ◌==◌, Bool, true, false, List, [], ◌∷◌, ◌++◌, take, length, get_or, map, refl, sym, ap, ◌∙◌, arith}
use Rattle.std.proofs.lemmas.Bool.Decides.{nat_tests}
use Rattle.std.specs.Prelude.{◌||◌, not, All, Option, bytes_eq}
use Rattle.std.specs.List.{list_any}
use Rattle.std.proofs.lemmas.List.{get_or-map, length-map, map-append, take_more, take_all}
use Rattle.std.proofs.lemmas.Bool.{false≢true, cases_lt}
use Rattle.std.proofs.lemmas.List.Elements.{All-head, All-tail, All-push}
use Rattle.std.proofs.lemmas.List.Folds.{list_any_at, list_any_none}
use Rattle.std.proofs.lemmas.Slice.Eq.{bytes_eq-Decides}
use Rattle.extents.specs.Extent.{AreDistinct}
use Rattle.store.specs.declared.placed_entry.PlacedEntry.{PlacedEntry}
use Rattle.store.specs.Stands.{HaveOwnNames, name_of, no_library, names_at}
use Rattle.store.proofs.UsedAlone.{no_entry}
use Rattle.states.specs.State.{Library, State, names_of, has_name}
use Rattle.requests.specs.Table.{entry_of}
use Rattle.requests.specs.Tests.{has_repeat}
use Rattle.requests.proofs.Names.{none_pass, no_repeat}
use Rattle.registry.specs.inside.Named.{AreNamed}

pub isnt_true : (a : Bool) → (a ≡ true → ⊥) → a ≡ false
isnt_true true h = absurd (h refl)
isnt_true false h = refl

-- two tests are equal if each passes whenever the other does
pub same_tests : (a b : Bool) → (a ≡ true → b ≡ true) → (b ≡ true → a ≡ true) → a ≡ b
same_tests true b to from = sym (to refl)
same_tests false true to from = from refl
same_tests false false to from = refl

count_names : (libraries : List Library) → length (names_of libraries) ≡ length libraries
count_names libraries = length-map libraries (λ l. l.name)

-- the name at a position is the name of the library there
pub name_at : (s : State) (i : ℕ) (d : List ℕ) → i < length s.libraries → get_or (names_of s.libraries) i d ≡ (get_or s.libraries i no_library).name
name_at s i d lt = get_or-map (λ l. l.name) s.libraries i no_library d lt

-- the name of the library at a position is installed
pub name_stands : (s : State) (name : List ℕ) (i : ℕ) → i < length s.libraries → (get_or s.libraries i no_library).name ≡ name → has_name (names_of s.libraries) name ≡ true
name_stands s name i lt is =
    list_any_at (bytes_eq name) (names_of s.libraries) i [] (omega (arith, lt, count_names s.libraries))
    ((bytes_eq-Decides name (get_or (names_of s.libraries) i [])).1 (sym (name_at s i [] lt ∙ is)))

-- a name that is the name of no library isn't installed
pub name_nowhere : (s : State) (name : List ℕ) → ((i : ℕ) → i < length s.libraries → (get_or s.libraries i no_library).name ≡ name → ⊥) → has_name (names_of s.libraries) name ≡ false
name_nowhere s name none = list_any_none (bytes_eq name) (names_of s.libraries) (λ k d lt.
    let within : k < length s.libraries = omega (arith, lt, count_names s.libraries) in
    isnt_true (bytes_eq name (get_or (names_of s.libraries) k d))
    (λ yes. none k within (sym ((bytes_eq-Decides name (get_or (names_of s.libraries) k d)).0 yes ∙ name_at s k d within))))

-- a position is among the preloads' positions exactly if its name is among the preloads' names
pub same_preload : (s : State) (name : List ℕ) (position : ℕ) (positions : List ℕ) → All (λ p. p < length s.libraries) positions
    → ((p : ℕ) → (position ≡ p) ↔ ((p < length s.libraries) × ((get_or s.libraries p no_library).name ≡ name)))
    → list_any (λ p. p == position) positions ≡ has_name (names_at s.libraries positions) name
same_preload s name position [] inside at = refl
same_preload s name position (p ∷ positions) inside at =
    let lt = All-head (λ p. p < length s.libraries) p positions inside in
    let here : (p == position) ≡ bytes_eq name (get_or s.libraries p no_library).name = same_tests (p == position) (bytes_eq name (get_or s.libraries p no_library).name)
    (λ yes. (bytes_eq-Decides name (get_or s.libraries p no_library).name).1 (sym ((at p).0 (let e : position ≡ p = grind (arith, nat_tests, yes) in e)).1))
    (λ yes. let e : position ≡ p = (at p).1 (lt, sym ((bytes_eq-Decides name (get_or s.libraries p no_library).name).0 yes)) in grind (arith, nat_tests, e)) in
    let there = same_preload s name position positions (All-tail (λ p. p < length s.libraries) p positions inside) at in
    λ i. here i || there i

-- each name at one of these positions is installed
pub none_lacks : (s : State) (positions : List ℕ) → All (λ p. p < length s.libraries) positions → list_any (λ name. not (has_name (names_of s.libraries) name)) (names_at s.libraries positions) ≡ false
none_lacks s [] inside = refl
none_lacks s (p ∷ positions) inside =
    let here = name_stands s (get_or s.libraries p no_library).name p (All-head (λ p. p < length s.libraries) p positions inside) refl in
    let there = none_lacks s positions (All-tail (λ p. p < length s.libraries) p positions inside) in
    λ i. not (here i) || there i

-- the listing of the first i libraries, with the entry of library number i appended, is the listing of
-- the first i + 1 libraries
pub listed_more : (s : State) (i : ℕ) (items : List (List ℕ × ℕ)) (name : List ℕ) (size : ℕ) → i < length s.libraries → items ≡ map entry_of (take i s.libraries)
    → name ≡ (get_or s.libraries i no_library).name → size ≡ length (get_or s.libraries i no_library).bytes → items ++ (name, size) ∷ [] ≡ map entry_of (take (i + 1) s.libraries)
listed_more s i items name size lt is named sized =
    let entry : ◌≡◌ {A = List ℕ × ℕ} (name, size) (entry_of (get_or s.libraries i no_library)) = λ k. (named k, sized k) in
    (λ k. is k ++ entry k ∷ [])
    ∙ sym (map-append entry_of (take i s.libraries) (get_or s.libraries i no_library ∷ []))
    ∙ ap (map entry_of) (sym (take_more s.libraries i no_library lt))

-- if there are at most i libraries, the listing of the first i is the listing of all
pub listed_all : (s : State) (i : ℕ) → length s.libraries ≤ i → map entry_of (take i s.libraries) ≡ map entry_of s.libraries
listed_all s i le = ap (map entry_of) (take_all i s.libraries le)

-- the names at the first i positions, with the name at position number i appended, are the names at the
-- first i + 1 positions
pub told_more : (s : State) (i : ℕ) (positions : List ℕ) (items : List (List ℕ)) (name : List ℕ) → i < length positions → items ≡ names_at s.libraries (take i positions)
    → name ≡ (get_or s.libraries (get_or positions i 0) no_library).name → items ++ name ∷ [] ≡ names_at s.libraries (take (i + 1) positions)
told_more s i positions items name lt is named =
    (λ k. is k ++ named k ∷ [])
    ∙ sym (map-append (λ p. (get_or s.libraries p no_library).name) (take i positions) (get_or positions i 0 ∷ []))
    ∙ ap (names_at s.libraries) (sym (take_more positions i 0 lt))

pub some_same : {a b : ℕ} → ◌≡◌ {A = Option ℕ} (Some a) (Some b) → a ≡ b
some_same is = cc

pub none_some : {a : ℕ} → ◌≡◌ {A = Option ℕ} None (Some a) → ⊥
none_some is = absurd cc

-- if no library has name number i, one of the names isn't installed
pub lacks_at : (s : State) (names : List (List ℕ)) (i : ℕ) → i < length names → ((k : ℕ) → k < length s.libraries → (get_or s.libraries k no_library).name ≡ get_or names i [] → ⊥)
    → list_any (λ name. not (has_name (names_of s.libraries) name)) names ≡ true
lacks_at s names i lt none = list_any_at (λ name. not (has_name (names_of s.libraries) name)) names i [] lt (ap not (name_nowhere s (get_or names i []) none))

-- the names at some positions, with the name at position p appended, are the names at these positions
-- and p
pub names_more : (s : State) (positions : List ℕ) (p : ℕ) (names : List (List ℕ)) (name : List ℕ) → names_at s.libraries positions ≡ names → (get_or s.libraries p no_library).name ≡ name
    → names_at s.libraries (positions ++ p ∷ []) ≡ names ++ name ∷ []
names_more s positions p names name are is = map-append (λ i. (get_or s.libraries i no_library).name) positions (p ∷ []) ∙ (λ k. are k ++ is k ∷ [])

pub named_more : {entries : List PlacedEntry} {positions : List ℕ} {names : List (List ℕ)} (p : ℕ) (name : List ℕ) → AreNamed entries positions names → p < length entries
    → ((d : PlacedEntry) → name_of (get_or entries p d).entry ≡ name) → AreNamed entries (positions ++ p ∷ []) (names ++ name ∷ [])
named_more {entries = entries} {positions = positions} p name named lt is = record {
  inside = All-push (λ position. position < length entries) positions p named.inside lt;
  each = λ d. let are = named.each d in let here = is d in map-append (λ position. name_of (get_or entries position d).entry) positions (p ∷ []) ∙ (λ k. are k ++ here k ∷ []);
}

-- if the names at some positions have no repetition, the positions have none
pub distinct_named : (entries : List PlacedEntry) (positions : List ℕ) (names : List (List ℕ)) → AreNamed entries positions names → has_repeat names ≡ false → AreDistinct positions
distinct_named entries positions names named once i j d lt fits = λ same.
    no_repeat names once i j [] lt (omega (arith, fits, count)) (at i (omega (arith, lt, fits)) ∙ ap (λ p. name_of (get_or entries p no_entry).entry) same ∙ sym (at j fits))
  where
    count : length positions ≡ length names
    count = sym (length-map positions (λ position. name_of (get_or entries position no_entry).entry)) ∙ ap length (named.each no_entry)

    at : (k : ℕ) → k < length positions → get_or names k [] ≡ name_of (get_or entries (get_or positions k d) no_entry).entry
    at k k_lt = ap (λ ns. get_or ns k []) (sym (named.each no_entry)) ∙ get_or-map (λ position. name_of (get_or entries position no_entry).entry) positions k d [] k_lt

-- two positions with the same name are equal
pub one_place : (entries : List PlacedEntry) → HaveOwnNames entries → (p q : ℕ) (d : PlacedEntry) → p < length entries → q < length entries
    → name_of (get_or entries p d).entry ≡ name_of (get_or entries q d).entry → p ≡ q
one_place entries own p q d p_lt q_lt same = ⊎_elim
    (λ before. absurd (own p q d before q_lt same))
    (λ le. ⊎_elim
    (λ behind. absurd (own q p d behind p_lt (sym same)))
    (λ le'. let is : p ≡ q = omega (arith, le, le') in is)
    (cases_lt q p))
    (cases_lt p q)

isnt_equal : (a b : ℕ) → (a == b) ≡ false → a ≡ b → ⊥
isnt_equal a b differs is = let yes : (a == b) ≡ true = grind (arith, nat_tests, is) in false≢true (sym differs ∙ yes)

-- if a position isn't among the positions of the preloads, its name isn't among their names
pub no_preload : (entries : List PlacedEntry) (name : List ℕ) (position : ℕ) (positions : List ℕ) → HaveOwnNames entries → position < length entries
    → ((d : PlacedEntry) → name_of (get_or entries position d).entry ≡ name)
    → All (λ p. p < length entries) positions → list_any (λ p. p == position) positions ≡ false → All (λ p. (d : PlacedEntry) → name_of (get_or entries p d).entry ≢ name) positions
no_preload entries name position positions own lt named inside none k d k_lt = λ e. λ same.
    isnt_equal (get_or positions k d) position (none_pass (λ p. p == position) positions none k d k_lt)
    (one_place entries own (get_or positions k d) position e (inside k d k_lt) lt (same ∙ sym (named e)))
