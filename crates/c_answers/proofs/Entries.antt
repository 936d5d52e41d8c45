-- Lemmas about the entries of a listing, to which one entry is appended.
use Rattle.std.proofs.Common.{◌≡◌, ◌⊎◌, inl, inr, ℕ, ◌+◌, ◌<◌, ◌≤◌, List, [], ◌∷◌, ◌++◌, length, get_or, take, sym, ◌∙◌, ap, arith, length-append, append_assoc}
use Rattle.std.proofs.lemmas.List.{flat_map_more, take_more, map_more, take-map, length-map}
use Rattle.requests.specs.Table.{Listed}
use Rattle.c_answers.specs.declared.entry.EntryPlace.{EntryPlace}
use Rattle.c_answers.specs.Listing.{Entry, entries_of, preload_entries, names_in_row, place_of, places_of}
use Rattle.c_answers.proofs.Places.{entries_more}
use Rattle.c_answers.proofs.Rows.{rows_le}

-- the bytes of an entry's name in the row
abbrev pub row : Entry → List ℕ
row e = e.0 ++ 0 ∷ []

-- A row of names begins at the offset `from`, and the entry `e` is appended to the entries `all`.
module _ (from : ℕ) (all : List Entry) (e : Entry) (next : List Entry) (more : next ≡ all ++ e ∷ []) where
  pub row_more : (front : List ℕ) → front ++ names_in_row next ≡ (front ++ names_in_row all) ++ row e
  row_more front = ap (λ (l : List Entry). front ++ names_in_row l) more ∙ sym (flat_map_more row front all e)

  pub size_more : length (names_in_row next) ≡ length (names_in_row all) + length e.0 + 1
  size_more = omega (arith, ap length (row_more []), length-append (names_in_row all) (row e), length-append e.0 (0 ∷ []))

  pub names_more : (front old new : List ℕ) (at at' : ℕ) → take at old ≡ front ++ names_in_row all → take at' new ≡ take at old ++ row e → take at' new ≡ front ++ names_in_row next
  names_more front old new at at' was put = put ∙ ap (λ l. l ++ row e) was ∙ sym (row_more front)

  pub places_more : (front old new : List EntryPlace) (n n' at : ℕ) → at ≡ from + length (names_in_row all) → take n old ≡ front
      ++ places_of from all → take n' new ≡ take n old ++ place_of at e ∷ [] → take n' new ≡ front ++ places_of from next
  places_more front old new n n' at at_is was put =
      put
      ∙ ap (λ l. l ++ place_of at e ∷ []) was
      ∙ append_assoc front (places_of from all) (place_of at e ∷ [])
      ∙ ap (λ a. front ++ (places_of from all ++ place_of a e ∷ [])) at_is
      ∙ ap (λ l. front ++ l) (sym (entries_more from all (e ∷ [])) ∙ ap (places_of from) (sym more))

-- the first i + 1 libraries are the first i libraries and library number i
pub library_more : (xs : List Entry) (i : ℕ) (e : Entry) → i < length xs → e ≡ get_or xs i e → take (i + 1) xs ≡ take i xs ++ e ∷ []
library_more xs i e lt is = take_more xs i e lt ∙ ap (λ (x : Entry). take i xs ++ x ∷ []) (sym is)

-- the entries of the first i + 1 preloads are those of the first i preloads and that of preload number i
pub preload_more : (xs : List (List ℕ)) (i : ℕ) (name : List ℕ) → i < length xs → name ≡ get_or xs i name → preload_entries (take (i + 1) xs) ≡ preload_entries (take i xs) ++ (name, 0) ∷ []
preload_more xs i name lt is = map_more (λ (n : List ℕ). (n, 0)) xs i name lt ∙ ap (λ (n : List ℕ). preload_entries (take i xs) ++ (n, 0) ∷ []) (sym is)

-- the names of the first `i` preloads have at most as many bytes as the names of all preloads
pub preloads_le : (xs : List (List ℕ)) (i : ℕ) → length (names_in_row (preload_entries (take i xs))) ≤ length (names_in_row (preload_entries xs))
preloads_le xs i = omega (arith, ap (λ (l : List Entry). length (names_in_row l)) (take-map (λ (n : List ℕ). (n, 0)) i xs), rows_le row (preload_entries xs) i)

-- If the buffers have no room for one entry, they have no room for all entries.
pub lacks : (entries names old_entries old_names index count at more size : ℕ) → old_entries ≡ entries → old_names ≡ names → index < count
    → at + more + 1 ≤ size → (entries ≤ index) ⊎ (names < at + more + 1) → (old_entries < count) ⊎ (old_names < size)
lacks entries names old_entries old_names index count at more size e n lt le (inl few) = inl (omega (arith, e, lt, few))
lacks entries names old_entries old_names index count at more size e n lt le (inr small) = inr (omega (arith, n, le, small))

-- If the libraries' places and then the preloads' places are in the buffer, it has the places of all
-- entries.
pub places_both : (l : Listed) (libraries : List Entry) (preloads : List (List ℕ)) (between after : List EntryPlace) (at count : ℕ)
    → libraries ≡ l.libraries → preloads ≡ l.preloads → at ≡ length (names_in_row libraries) → count ≡ length libraries
    → take (length libraries) between ≡ places_of 0 libraries → take (count + length preloads) after ≡ take count between
    ++ places_of at (preload_entries preloads) → take (length (entries_of l)) after ≡ places_of 0 (entries_of l)
places_both l libraries preloads between after at count first second at_is count_is was put =
    ap (λ n. take n after) (omega (arith, length-append l.libraries (preload_entries l.preloads), length-map {B = Entry} l.preloads (λ n. (n, 0)), ap length first, ap length second, count_is))
    ∙ put
    ∙ ap (λ n. take n between ++ places_of at (preload_entries preloads)) count_is
    ∙ ap (λ p. p ++ places_of at (preload_entries preloads)) was
    ∙ ap (λ a. places_of 0 libraries ++ places_of a (preload_entries preloads)) (omega (arith, at_is))
    ∙ sym (entries_more 0 libraries (preload_entries preloads))
    ∙ ap (places_of 0) (ap (λ x. x ++ preload_entries preloads) first ∙ ap (λ p. l.libraries ++ preload_entries p) second)
