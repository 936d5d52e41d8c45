-- The symbols of several objects and their names, while they are collected.
use Rattle.std.proofs.Common.{◌≡◌, ℕ, ◌<◌, ◌≤◌, ◌+◌, ◌-◌, List, [], ◌++◌, length, map, arith, ◌∙◌, sym, ap, inl, inr, subst, get_or}
use Rattle.std.specs.List.{All}
use Rattle.std.specs.List.Sorted.{IsPermutation}
use Rattle.std.proofs.Math.ListN.{get_or-append}
use Rattle.std.proofs.lemmas.Bool.{cases_lt}
use Rattle.std.proofs.lemmas.List.{get_or-append-add, length-append, get_or-map, length-map, map-append, get_or_default}
use Rattle.std.proofs.lemmas.Simd.{map-map}
use Rattle.std.proofs.lemmas.List.FromFn.{length-range_with_len, get_or-range_with_len}
use Rattle.std.proofs.lemmas.List.Sorted.{All-permutation, IsPermutation-sym}
use Rattle.elf_dynamic.specs.Symbol.{symbols}
use Rattle.elf_dynamic.specs.Strings.{name_of}
use Rattle.hash_check.specs.inside.Names.{all_symbols}
use Rattle.hash_check.specs.Numbered.{nth_file, nth_symbol, name_in, IsSymbolOf, HasSymbol, AreSymbols}
use Rattle.hash_check.specs.declared.numbered.NumberedSymbol.{NumberedSymbol}
use Rattle.hash_check.specs.inside.Names.{IsSymbol}
use Rattle.hash_check.specs.Numbers.{nth_text, AreNumbers}
use Rattle.hash_check.specs.Numbered.{AreNumbered}
use Rattle.hash_check.specs.inside.Numbered.{unnumbered, with_number, AreGathered}
use Rattle.hash_check.proofs.AllSymbols.{all-symbols}

abbrev none : NumberedSymbol
none = record { object = 0; symbol = 0; number = 0 }

-- each symbol except number 0 is in the list
abbrev pub HasAll : List ℕ → List ℕ → Type 0
HasAll file own = (i : ℕ) → 1 ≤ i → i < length (symbols file) → (k : ℕ) × (k < length own) × (get_or own k 0 ≡ i)

pub has-all : (file own : List ℕ) → IsPermutation (all_symbols file) own → HasAll file own
unfolding all_symbols
has-all file own moved = λ i low high.
    let n : ℕ = length (symbols file) - 1 in
    let there : All (λ (j : ℕ). (k : ℕ) × (k < length own) × (get_or own k 0 ≡ j)) (all_symbols file) =
    All-permutation (λ (j : ℕ). (k : ℕ) × (k < length own) × (get_or own k 0 ≡ j)) own (all_symbols file) (IsPermutation-sym (all_symbols file) own moved)
    (λ k d lt. (k, lt, get_or_default own k 0 d lt)) in
    let room : i - 1 < length (symbols file) - 1 = omega arith in
    let at : get_or (all_symbols file) (i - 1) 0 ≡ 1 + (i - 1) = get_or-range_with_len 1 n (i - 1) 0 room in
    let same : 1 + (i - 1) ≡ i = omega arith in
    subst (λ (j : ℕ). (k : ℕ) × (k < length own) × (get_or own k 0 ≡ j)) (at ∙ same) (there (i - 1) 0 (omega (arith, room, length-range_with_len 1 (length (symbols file) - 1))))

module _ (n : ℕ) (all : List NumberedSymbol) (own : List ℕ) where
  abbrev both : List NumberedSymbol
  both = all ++ map (unnumbered n) own

  at-old : (k : ℕ) → k < length all → nth_symbol (all ++ map (unnumbered n) own) k ≡ nth_symbol all k
  at-old k lt = get_or-append all (map (unnumbered n) own) none k lt

  at-new : (m : ℕ) → m < length own → nth_symbol (all ++ map (unnumbered n) own) (length all + m) ≡ unnumbered n (get_or own m 0)
  at-new m lt = get_or-append-add all (map (unnumbered n) own) m none ∙ get_or-map (unnumbered n) own m 0 none lt

  long : length (all ++ map (unnumbered n) own) ≡ length all + length own
  long = length-append all (map (unnumbered n) own) ∙ ap (λ k. length all + k) (length-map own (unnumbered n))

  -- a fact that is true of the old and of the new symbols is true of all
  each-of : (P : NumberedSymbol → Type 0) → ((k : ℕ) → k < length all → P (nth_symbol all k)) → ((m : ℕ) → m < length own → P (unnumbered n (get_or own m 0)))
      → (k : ℕ) → k < length (all ++ map (unnumbered n) own) → P (nth_symbol (all ++ map (unnumbered n) own) k)
  each-of P old new k lt = elim (cases_lt k (length all)) [
    | inl early ↦ subst P (sym (at-old k early)) (old k early)
    | inr late ↦
        let room : k - length all < length own = omega (arith, lt, late, long) in
        let at : length all + (k - length all) ≡ k = omega (arith, late) in
        subst P (sym (at-new (k - length all) room) ∙ ap (nth_symbol (all ++ map (unnumbered n) own)) at) (new (k - length all) room)
  ]

  each-more : (files : List (List ℕ)) → All (IsSymbol (nth_file files n)) own → ((k : ℕ) → k < length all → IsSymbolOf files n (nth_symbol all k))
      → (k : ℕ) → k < length (all ++ map (unnumbered n) own) → IsSymbolOf files (n + 1) (nth_symbol (all ++ map (unnumbered n) own) k)
  each-more files valid each = each-of (IsSymbolOf files (n + 1))
      (λ k lt. let e = each k lt in record { there = omega (arith, e.there); some = e.some; within = e.within })
      (λ m lt. let v = valid m 0 lt in record { there = omega arith; some = v.some; within = v.within })

  has-old : (place i : ℕ) → HasSymbol all place i → HasSymbol (all ++ map (unnumbered n) own) place i
  has-old place i h = record {
    at = h.at;
    within = omega (arith, h.within, long);
    object = ap (λ (s : NumberedSymbol). s.object) (at-old h.at h.within) ∙ h.object;
    symbol = ap (λ (s : NumberedSymbol). s.symbol) (at-old h.at h.within) ∙ h.symbol;
  }

  has-new : (i : ℕ) → (k : ℕ) × (k < length own) × (get_or own k 0 ≡ i) → HasSymbol (all ++ map (unnumbered n) own) n i
  has-new i h = record {
    at = length all + h.0;
    within = omega (arith, h.1, long);
    object = ap (λ (s : NumberedSymbol). s.object) (at-new h.0 h.1);
    symbol = ap (λ (s : NumberedSymbol). s.symbol) (at-new h.0 h.1) ∙ h.2;
  }

  every-more : (files : List (List ℕ)) → HasAll (nth_file files n) own → ((place i : ℕ) → place < n → 1 ≤ i → i < length (symbols (nth_file files place)) → HasSymbol all place i)
      → (place i : ℕ) → place < n + 1 → 1 ≤ i → i < length (symbols (nth_file files place)) → HasSymbol (all ++ map (unnumbered n) own) place i
  every-more files has every place i lt low high = elim (cases_lt place n) [
    | inl early ↦ has-old place i (every place i early low high)
    | inr late ↦
        let same : place ≡ n = omega (arith, late, lt) in
        subst (λ p. HasSymbol (all ++ map (unnumbered n) own) p i) (sym same) (has-new i (has i low (subst (λ p. i < length (symbols (nth_file files p))) same high)))
  ]

  rising-more : (files : List (List ℕ)) → AreSymbols files n all → ((k : ℕ) → k < length (all ++ map (unnumbered n) own) → IsSymbolOf files (n + 1) (nth_symbol (all ++ map (unnumbered n) own) k))
      → (j k : ℕ) → j ≤ k → k < length (all ++ map (unnumbered n) own)
      → (nth_symbol (all ++ map (unnumbered n) own) j).object ≤ (nth_symbol (all ++ map (unnumbered n) own) k).object
  rising-more files are each j k le lt = elim (cases_lt k (length all)) [
    | inl early ↦
        let before : j < length all = omega (arith, le, early) in
        let low = ap (λ (s : NumberedSymbol). s.object) (at-old j before) in
        let high = ap (λ (s : NumberedSymbol). s.object) (at-old k early) in
        omega (arith, low, high, are.rising j k le early)
    | inr late ↦
        let room : k - length all < length own = omega (arith, lt, late, long) in
        let at : length all + (k - length all) ≡ k = omega (arith, late) in
        let high : (nth_symbol (all ++ map (unnumbered n) own) k).object ≡ n =
        ap (λ (s : NumberedSymbol). s.object) (sym (ap (nth_symbol (all ++ map (unnumbered n) own)) at) ∙ at-new (k - length all) room) in
        let below : j < length (all ++ map (unnumbered n) own) = omega (arith, le, lt) in
        omega (arith, high, (each j below).there)
  ]

-- if the symbols and the names of object number `n` are appended, the lists have those of the first n +
-- 1 objects
pub gathered-more : (files : List (List ℕ)) (n : ℕ) (all : List NumberedSymbol) (names : List (List ℕ)) (own : List ℕ) → AreGathered files n all names
    → All (IsSymbol (nth_file files n)) own → HasAll (nth_file files n) own
    → AreGathered files (n + 1) (all ++ map (unnumbered n) own) (names ++ map (name_of (nth_file files n)) own)
gathered-more files n all names own g valid has =
    let each = each-more n all own files valid g.are.each in
    record {
      are = record {
        each = each;
        every = every-more n all own files has g.are.every;
        rising = rising-more n all own files g.are each;
      };
      names_are = ap (λ l. l ++ map (name_of (nth_file files n)) own) g.names_are
          ∙ sym (map-append (name_in files) all (map (unnumbered n) own) ∙ ap (λ l. map (name_in files) all ++ l) (map-map (name_in files) (unnumbered n) own));
    }

-- the same for the symbols of the object in any order
pub gathered-on : (files : List (List ℕ)) (n : ℕ) (all more : List NumberedSymbol) (names texts : List (List ℕ)) (file own : List ℕ) → nth_file files n ≡ file → AreGathered files n all names
    → IsPermutation (all_symbols file) own → more ≡ all ++ map (unnumbered n) own → texts ≡ names ++ map (name_of file) own → AreGathered files (n + 1) more texts
gathered-on files n all more names texts file own e g moved symbols_are names_are =
    let valid : All (IsSymbol file) own = All-permutation (IsSymbol file) (all_symbols file) own moved (all-symbols file) in
    let whole = gathered-more files n all names own g (subst (λ f. All (IsSymbol f) own) (sym e) valid) (subst (λ f. HasAll f own) (sym e) (has-all file own moved)) in
    subst (λ l. AreGathered files (n + 1) l texts) (sym symbols_are)
    (subst (λ l. AreGathered files (n + 1) (all ++ map (unnumbered n) own) l) (sym (names_are ∙ ap (λ f. names ++ map (name_of f) own) (sym e))) whole)

-- the collected symbols with their numbers make `AreNumbered` true, if the numbers distinguish the names
pub numbered : (files : List (List ℕ)) (all told : List NumberedSymbol) (names : List (List ℕ)) (numbers : List ℕ) → AreGathered files (length files) all names → AreNumbers names numbers
    → length told ≡ length all → ((k : ℕ) → k < length all → nth_symbol told k ≡ with_number (nth_symbol all k) (get_or numbers k 0)) → AreNumbered files told
numbered files all told names numbers g are size given =
    let count : length names ≡ length all = ap length g.names_are ∙ length-map all (name_in files) in
    let object : (k : ℕ) → k < length told → (nth_symbol told k).object ≡ (nth_symbol all k).object =
    λ k lt. ap (λ (s : NumberedSymbol). s.object) (given k (omega (arith, lt, size))) in
    let symbol : (k : ℕ) → k < length told → (nth_symbol told k).symbol ≡ (nth_symbol all k).symbol =
    λ k lt. ap (λ (s : NumberedSymbol). s.symbol) (given k (omega (arith, lt, size))) in
    let number : (k : ℕ) → k < length told → (nth_symbol told k).number ≡ get_or numbers k 0 =
    λ k lt. ap (λ (s : NumberedSymbol). s.number) (given k (omega (arith, lt, size))) in
    let text : (k : ℕ) → k < length told → nth_text names k ≡ name_in files (nth_symbol told k) =
    λ k lt. ap (λ l. get_or l k []) g.names_are ∙ get_or-map (name_in files) all k none [] (omega (arith, lt, size))
    ∙ ap (name_in files) (sym (given k (omega (arith, lt, size)))) in
    record {
      are = record {
        each = λ k lt.
            let e = g.are.each k (omega (arith, lt, size)) in
            subst (IsSymbolOf files (length files)) (sym (given k (omega (arith, lt, size)))) (record { there = e.there; some = e.some; within = e.within });
        every = λ place i lt low high.
            let h = g.are.every place i lt low high in
            let there : h.at < length told = omega (arith, h.within, size) in
            record { at = h.at; within = there; object = object h.at there ∙ h.object; symbol = symbol h.at there ∙ h.symbol };
        rising = λ j k le lt.
            let before : j < length told = omega (arith, le, lt) in
            omega (arith, object j before, object k lt, g.are.rising j k le (omega (arith, lt, size)));
      };
      few = λ k lt. omega (arith, number k lt, are.within k (omega (arith, lt, size, count)), size, count);
      same = λ j k jl kl e.
          sym (text j jl) ∙ sym (are.same j (omega (arith, jl, size, count))) ∙ ap (λ m. nth_text names (m - 1)) (sym (number j jl) ∙ e ∙ number k kl)
          ∙ are.same k (omega (arith, kl, size, count)) ∙ text k kl;
      one = λ j k jl kl e.
          number j jl ∙ are.one j k (omega (arith, jl, size, count)) (omega (arith, kl, size, count)) (text j jl ∙ e ∙ sym (text k kl)) ∙ sym (number k kl);
    }
