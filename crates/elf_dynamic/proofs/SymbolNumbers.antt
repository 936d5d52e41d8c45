-- Symbols and words of the hash table, by their numbers.
use Rattle.std.proofs.Common.{◌≡◌, ℕ, ◌<◌, ◌+◌, ◌*◌, ◌/◌, List, [], ◌∷◌, length, arith, refl, ◌∙◌, sym, ap, zero-add, Some, map, suc, zero}
use Rattle.std.specs.Prelude.{slice_get}
use Rattle.std.specs.Option.{option_map}
use Rattle.std.specs.List.{range_with_len}
use Rattle.std.proofs.lemmas.List.FromFn.{length-map-range_with_len, get_or-map-range_with_len}
use Rattle.elf_file.specs.Constant.{SYMBOL_SIZE}
use Rattle.elf_file.specs.Dynamic.{needed_offsets}
use Rattle.elf_dynamic.specs.HashTable.{word, bucket_count, chain_count, buckets, chains, hash_table}
use Rattle.elf_dynamic.specs.Strings.{string_at, string_table, needed}
use Rattle.elf_dynamic.specs.Symbol.{nth_symbol, symbols_in, symbol_table, symbols}
use Rattle.elf_dynamic.proofs.TableEntries.{some_at}

-- element `i` of a function's values on a range is the value for the range's number `i`
made_at : {X : Type 0} (f : ℕ → X) (a n i : ℕ) → i < n → slice_get (map f (range_with_len a n)) i ≡ Some (f (a + i))
made_at f a n i lt =
    some_at (map f (range_with_len a n)) i (f a) (omega (arith, lt, length-map-range_with_len f a n))
    ∙ ap (λ x. Some x) (get_or-map-range_with_len f a n i (a + i) (f a) lt refl)

-- the number of symbols of a table is its length divided by the size of a symbol
pub length_symbols_in : (table : List ℕ) → length (symbols_in table) ≡ length table / SYMBOL_SIZE
unfolding symbols_in
length_symbols_in table = length-map-range_with_len (nth_symbol table) 0 (length table / SYMBOL_SIZE)

-- if the symbol table has the bytes of n symbols, the file has n symbols
pub symbols_counted : (file table : List ℕ) (n : ℕ) → table ≡ symbol_table file → length table ≡ SYMBOL_SIZE * n → length (symbols file) ≡ n
unfolding symbols
symbols_counted file table n same size =
    let e : length table / SYMBOL_SIZE ≡ n = omega (arith, size) in
    ap (λ t. length (symbols_in t)) (sym same) ∙ length_symbols_in table ∙ e

-- the symbol with index `i` of a file is symbol number `i` of its symbol table
pub symbol_numbered : (file table : List ℕ) (i : ℕ) → table ≡ symbol_table file → i < length (symbols file) → slice_get (symbols file) i ≡ Some (nth_symbol table i)
unfolding symbols symbols_in
symbol_numbered file table i same lt =
    let n : ℕ = length table / SYMBOL_SIZE in
    let within : i < n = omega (arith, lt, ap (λ t. length (symbols_in t)) (sym same), length_symbols_in table) in
    ap (λ t. slice_get (symbols_in t) i) (sym same) ∙ made_at (nth_symbol table) 0 n i within ∙ ap (λ j. Some (nth_symbol table j)) (zero-add i)

-- the list of buckets has as many words as nbucket says
pub buckets_counted : (file : List ℕ) → length (buckets file) ≡ bucket_count file
unfolding buckets
buckets_counted file = length-map-range_with_len (word (hash_table file)) 2 (bucket_count file)

-- the list of chain words has as many words as nchain says
pub chains_counted : (file : List ℕ) → length (chains file) ≡ chain_count file
unfolding chains
chains_counted file = length-map-range_with_len (word (hash_table file)) (2 + bucket_count file) (chain_count file)

-- bucket number `i` is word number 2 + i of the hash table
pub bucket_numbered : (file table : List ℕ) (i : ℕ) → table ≡ hash_table file → i < length (buckets file) → slice_get (buckets file) i ≡ Some (word table (2 + i))
unfolding buckets
bucket_numbered file table i same lt =
    made_at (word (hash_table file)) 2 (bucket_count file) i (omega (arith, lt, buckets_counted file)) ∙ ap (λ t. Some (word t (2 + i))) (sym same)

-- chain word number `i` is the word of the hash table after the first two words, the buckets, and i
-- chain words
pub chain_numbered : (file table : List ℕ) (i : ℕ) → table ≡ hash_table file → i < length (chains file)
    → slice_get (chains file) i ≡ Some (word table (2 + bucket_count file + i))
unfolding chains
chain_numbered file table i same lt =
    made_at (word (hash_table file)) (2 + bucket_count file) (chain_count file) i (omega (arith, lt, chains_counted file))
    ∙ ap (λ t. Some (word t (2 + bucket_count file + i))) (sym same)

mapped_at : {X Y : Type 0} (f : X → Y) (xs : List X) (i : ℕ) → slice_get (map f xs) i ≡ option_map f (slice_get xs i)
mapped_at f [] i = refl
mapped_at f (x ∷ xs) zero = refl
mapped_at f (x ∷ xs) (suc i) = mapped_at f xs i

-- the name of needed library number `i` is the string at offset number `i`
pub needed_numbered : (file table : List ℕ) (i offset : ℕ) → table ≡ string_table file → slice_get (needed_offsets file) i ≡ Some offset
    → slice_get (needed file) i ≡ Some (string_at table offset)
unfolding needed
needed_numbered file table i offset same at =
    mapped_at (string_at (string_table file)) (needed_offsets file) i ∙ ap (λ o. option_map (string_at (string_table file)) o) at ∙ ap (λ t. Some (string_at t offset)) (sym same)

-- a file has as many names of needed libraries as offsets of these names
pub needed_counted : (file : List ℕ) → length (needed file) ≡ length (needed_offsets file)
unfolding needed
needed_counted file = length-mapped (string_at (string_table file)) (needed_offsets file)
  where
    length-mapped : {X Y : Type 0} (f : X → Y) (xs : List X) → length (map f xs) ≡ length xs
    length-mapped f [] = refl
    length-mapped f (x ∷ xs) = ap suc (length-mapped f xs)

-- the rules for `needed`, which finds a name by its number
pub ruleset needed_by_number = (needed_counted, needed_numbered)
