-- Names that are hashed several at a time.
use Rattle.std.proofs.Common.{◌≡◌, ◌≢◌, ℕ, ◌<◌, ◌≤◌, ◌+◌, ◌-◌, ◌*◌, ◌/◌, ◌%◌, ◌++◌, List, [], ◌∷◌, true, length, take, drop, set, min, arith, ◌∙◌, sym, ap, subst, inl, inr, get_or}
use Rattle.std.specs.List.{fold}
use Rattle.std.proofs.lemmas.Bool.{cases_eq}
use Rattle.std.proofs.Math.Seq.{take-add}
use Rattle.std.proofs.lemmas.List.{take_rest, length-take, drop-drop, get_or-drop, get_or-set_same, get_or-set_other, length-drop}
use Rattle.std.proofs.lemmas.List.Sums.{fold-append}
use Rattle.elf_file.specs.Number.{number_at}
use Rattle.elf_dynamic.specs.Strings.{name_of, string_table}
use Rattle.hash_check.specs.Hash.{hash_step, elf_hash}
use Rattle.hash_check.specs.Export.{is_exported}
use Rattle.hash_check.specs.inside.Names.{IsSymbol, offset_of}
use Rattle.hash_check.specs.inside.Lanes.{between, IsLane, AllMet, IsMet}
use Rattle.hash_check.proofs.Exported.{exported_some, exported_within}
use Rattle.hash_check.proofs.NameLengths.{text-is-name}

-- hashing i bytes and then the next n is hashing i + n bytes
pub hash-more : (table : List ℕ) (hash place i n : ℕ)
    → fold hash_step (fold hash_step hash (take i (drop place table))) (take n (drop (place + i) table)) ≡ fold hash_step hash (take (i + n) (drop place table))
hash-more table hash place i n =
    ap (λ xs. fold hash_step (fold hash_step hash (take i (drop place table))) (take n xs)) (sym (drop-drop i place table))
    ∙ sym (fold-append hash_step hash (take i (drop place table)) (take n (drop i (drop place table)))) ∙ ap (fold hash_step hash) (sym (take-add i n (drop place table)))

split : (table : List ℕ) (place end count : ℕ) → place + count ≤ end → between table place end ≡ take count (drop place table) ++ between table (place + count) end
split table place end count le =
    let whole : end - place ≡ count + (end - (place + count)) = omega arith in
    ap (λ n. take n (drop place table)) whole ∙ take-add count (end - (place + count)) (drop place table)
    ∙ ap (λ xs. take count (drop place table) ++ take (end - (place + count)) xs) (drop-drop count place table)

-- a lane is still right after `count` more bytes of its name were hashed
pub lane-on : (file : List ℕ) (symbol hash place end count : ℕ) → IsLane file symbol hash place end → place + count ≤ end
    → IsLane file symbol (fold hash_step hash (take count (drop place (string_table file)))) (place + count) end
lane-on file symbol hash place end count h le = record {
  order = le;
  within = h.within;
  exported = h.exported;
  rest = λ some.
      sym (fold-append hash_step hash (take count (drop place (string_table file))) (between (string_table file) (place + count) end))
      ∙ ap (fold hash_step hash) (sym (split (string_table file) place end count le)) ∙ h.rest some;
}

-- if lane k is met and all lanes are met after it was assigned to symbol i, all were met before, and
-- symbol i is met
pub met-before : (file symbols : List ℕ) (k i : ℕ) → k < 8 → length symbols ≡ 8 → (get_or symbols k 0 ≢ 0 → IsMet file (get_or symbols k 0)) → AllMet file (set symbols k i) → AllMet file symbols
met-before file symbols k i lt size here all = record {
  met = λ j less some. elim (cases_eq j k) [
    | inl is ↦ subst (IsMet file) (ap (λ n. get_or symbols n 0) (sym is)) (here (λ none. some (ap (λ n. get_or symbols n 0) is ∙ none)))
    | inr other ↦
        let same : get_or (set symbols k i) j 0 ≡ get_or symbols j 0 = get_or-set_other symbols k j i 0 other in
        subst (IsMet file) same (all.met j less (λ none. some (sym same ∙ none)))
  ];
}

pub met-new : (file symbols : List ℕ) (k i : ℕ) → k < 8 → length symbols ≡ 8 → 1 ≤ i → AllMet file (set symbols k i) → IsMet file i
met-new file symbols k i lt size some all =
    let within : k < length symbols = omega arith in
    let same : get_or (set symbols k i) k 0 ≡ i = get_or-set_same symbols k i 0 within in
    subst (IsMet file) same (all.met k lt (λ none. let zero : i ≡ 0 = sym same ∙ none in absurd (omega arith)))

whole-name : (file : List ℕ) (symbol place n : ℕ) (table : List ℕ) → is_exported file symbol ≡ true → table ≡ string_table file → place ≡ min (offset_of file symbol) (length table)
    → n ≡ length (name_of file symbol) → take n (drop place table) ≡ name_of file symbol
whole-name file symbol place n table is same at size =
    let number : IsSymbol file symbol = record { some = exported_some file symbol is; within = exported_within file symbol is } in
    ap (take n) (sym (take_rest table place)) ∙ text-is-name file symbol n place table number size same at

-- a lane is right if it has hash 0 and the whole name of an exported symbol is left
pub lane-of : (file : List ℕ) (symbol place n : ℕ) (table : List ℕ) → is_exported file symbol ≡ true → table ≡ string_table file → place ≡ min (offset_of file symbol) (length table)
    → n ≡ length (name_of file symbol) → IsLane file symbol 0 place (place + n)
unfolding elf_hash
lane-of file symbol place n table is same at size =
    let whole : take n (drop place table) ≡ name_of file symbol = whole-name file symbol place n table is same at size in
    let span : place + n - place ≡ n = omega arith in
    record {
      order = omega arith;
      within = omega (arith, ap length whole, length-take n (drop place table), length-drop place table, ap length same, size, at);
      exported = λ some. is;
      rest = λ some. ap (fold hash_step 0) (ap (λ m. take m (drop place (string_table file))) span ∙ ap (λ t. take n (drop place t)) (sym same) ∙ whole);
    }

same-lane : (file : List ℕ) (s h p e s' h' p' e' : ℕ) → s' ≡ s → h' ≡ h → p' ≡ p → e' ≡ e → IsLane file s h p e → IsLane file s' h' p' e'
same-lane file s h p e s' h' p' e' is-s is-h is-p is-e lane =
    subst (λ x. IsLane file x h' p' e') (sym is-s) (subst (λ x. IsLane file s x p' e') (sym is-h) (subst (λ x. IsLane file s h x e') (sym is-p) (subst (λ x. IsLane file s h p x) (sym is-e) lane)))

-- all lanes are still right after one of them was assigned to a symbol
pub lane-put : (file symbols hashes places ends : List ℕ) (k symbol place end : ℕ) → k < length symbols → k < length hashes → k < length places → k < length ends
    → ((j : ℕ) → j < 8 → IsLane file (get_or symbols j 0) (get_or hashes j 0) (get_or places j 0) (get_or ends j 0)) → IsLane file symbol 0 place end → (j : ℕ) → j < 8
    → IsLane file (get_or (set symbols k symbol) j 0) (get_or (set hashes k 0) j 0) (get_or (set places k place) j 0) (get_or (set ends k end) j 0)
lane-put file symbols hashes places ends k symbol place end in-s in-h in-p in-e old new j lt = elim (cases_eq j k) [
  | inl is ↦
      let at : (xs : List ℕ) (x : ℕ) → k < length xs → get_or (set xs k x) j 0 ≡ x =
      λ (xs : List ℕ) (x : ℕ) (within : k < length xs). ap (λ n. get_or (set xs k x) n 0) is ∙ get_or-set_same xs k x 0 within in
      same-lane file symbol 0 place end (get_or (set symbols k symbol) j 0) (get_or (set hashes k 0) j 0) (get_or (set places k place) j 0) (get_or (set ends k end) j 0)
      (at symbols symbol in-s) (at hashes 0 in-h) (at places place in-p) (at ends end in-e) new
  | inr other ↦
      same-lane file (get_or symbols j 0) (get_or hashes j 0) (get_or places j 0) (get_or ends j 0) (get_or (set symbols k symbol) j 0)
      (get_or (set hashes k 0) j 0) (get_or (set places k place) j 0) (get_or (set ends k end) j 0)
      (get_or-set_other symbols k j symbol 0 other) (get_or-set_other hashes k j 0 0 other) (get_or-set_other places k j place 0 other) (get_or-set_other ends k j end 0 other) (old j lt)
]

bytes-of : (a b c d n : ℕ) → a < 256 → b < 256 → c < 256 → d < 256 → n ≡ a + 256 * (b + 256 * (c + 256 * d))
    → (n % 256 ≡ a) × (n / 256 % 256 ≡ b) × (n / 65536 % 256 ≡ c) × (n / 16777216 ≡ d)
bytes-of a b c d n la lb lc ld is = (omega arith, omega arith, omega arith, omega arith)

-- four hash steps with the four bytes of a number are the hash of these bytes
word-hash : (xs : List ℕ) (hash n : ℕ) → 4 ≤ length xs → ((i : ℕ) → get_or xs i 0 < 256) → n ≡ get_or xs 0 0 + 256 * (get_or xs 1 0 + 256 * (get_or xs 2 0 + 256 * (get_or xs 3 0 + 256 * 0)))
    → hash_step (hash_step (hash_step (hash_step hash (n % 256)) (n / 256 % 256)) (n / 65536 % 256)) (n / 16777216) ≡ fold hash_step hash (take 4 xs)
word-hash [] hash n le small is = absurd (omega arith)
word-hash (a ∷ []) hash n le small is = absurd (omega arith)
word-hash (a ∷ b ∷ []) hash n le small is = absurd (omega arith)
word-hash (a ∷ b ∷ c ∷ []) hash n le small is = absurd (omega arith)
word-hash (a ∷ b ∷ c ∷ d ∷ rest) hash n le small is =
    let sum : n ≡ a + 256 * (b + 256 * (c + 256 * d)) = omega (arith, is) in
    let e = bytes-of a b c d n (small 0) (small 1) (small 2) (small 3) sum in
    ap (λ x. hash_step (hash_step (hash_step (hash_step hash x) (n / 256 % 256)) (n / 65536 % 256)) (n / 16777216)) e.0
    ∙ ap (λ x. hash_step (hash_step (hash_step (hash_step hash a) x) (n / 65536 % 256)) (n / 16777216)) e.1
    ∙ ap (λ x. hash_step (hash_step (hash_step (hash_step hash a) b) x) (n / 16777216)) e.2
    ∙ ap (hash_step (hash_step (hash_step (hash_step hash a) b) c)) e.3

pub word-hashed : (table : List ℕ) (place hash n : ℕ) → place + 4 ≤ length table → ((i : ℕ) → get_or table i 0 < 256) → n ≡ number_at 4 table place
    → hash_step (hash_step (hash_step (hash_step hash (n % 256)) (n / 256 % 256)) (n / 65536 % 256)) (n / 16777216) ≡ fold hash_step hash (take 4 (drop place table))
unfolding number_at
word-hashed table place hash n le small is =
    let room : 4 ≤ length (drop place table) = omega (arith, length-drop place table) in
    let each : (i : ℕ) → get_or (drop place table) i 0 < 256 = λ i. subst (λ b. b < 256) (sym (get_or-drop place table i 0)) (small (place + i)) in
    word-hash (drop place table) hash n room each is
