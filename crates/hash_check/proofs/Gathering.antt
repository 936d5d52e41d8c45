-- The endings of symbols' names, while the endings are collected.
use Rattle.std.proofs.Common.{◌≡◌, ℕ, ◌<◌, ◌≤◌, ◌+◌, List, [], ◌∷◌, ◌++◌, length, map, take, reverse, arith, ◌∙◌, sym, ap, inl, inr, subst, get_or}
use Rattle.std.specs.List.{All, Any}
use Rattle.std.proofs.lemmas.Bool.{cases_lt}
use Rattle.std.proofs.lemmas.List.{get_or_append_left, length-append, get_or-map, length-map, length-reverse}
use Rattle.std.proofs.lemmas.List.Quantifiers.{Any-push}
use Rattle.std.proofs.lemmas.List.Elements.{All-push}
use Rattle.elf_dynamic.specs.Strings.{name_of, string_table, string_at}
use Rattle.hash_check.specs.inside.Names.{IsSymbol, IsStretch, BeginsIn, stretch_bytes, stretch_back}
use Rattle.hash_check.specs.inside.Endings.{back, IsIn, IsEnding, AreEndings}
use Rattle.hash_check.specs.declared.strings.Stretch.{Stretch}
use Rattle.hash_check.specs.declared.endings.Ending.{Ending}
use Rattle.hash_check.proofs.Stretches.{back-in-stretch}

abbrev pub texts : List ℕ → List ℕ → List (List ℕ)
texts file symbols = map (name_of file) symbols

-- of the names before number `n`, those from number `first` begin in the stretch, and the others are in `endings`
pub record IsOpen (file symbols : List ℕ) (n first : ℕ) (s : Stretch) (endings : List Ending) : Type 0 where
  pub stretch : IsStretch file s
  pub order : first ≤ n
  pub begin : (k : ℕ) → first ≤ k → k < n → BeginsIn file (get_or symbols k 0) s
  pub each : All (IsEnding (texts file symbols)) endings
  pub before : (k : ℕ) → k < first → Any (IsIn k) endings

-- the ending has the bytes of the stretch and the names from number `first` up to, but not including,
-- number `n`
pub record IsMade (file : List ℕ) (n first : ℕ) (s : Stretch) (e : Ending) : Type 0 where
  pub string : e.string.now ≡ stretch_bytes file s
  pub first_is : e.first ≡ first
  pub past_is : e.past ≡ n

any-more : (k : ℕ) (endings : List Ending) (e : Ending) → Any (IsIn k) endings → Any (IsIn k) (endings ++ e ∷ [])
any-more k endings e a = (a.0, a.1, omega (arith, a.2, length-append endings (e ∷ [])), get_or_append_left endings (e ∷ []) a.1 a.0 a.2 ∙ a.3, a.4)

same-stretch : (file : List ℕ) (s t : Stretch) → IsStretch file s → IsStretch file t → s.from ≡ t.from → s ≡ t
same-stretch file s t hs ht e =
    let lengths : s.length ≡ t.length = sym hs ∙ ap (λ o. length (string_at (string_table file) o)) e ∙ ht in
    let make : ℕ → ℕ → Stretch = λ f l. record { from = f; length = l } in
    ap (λ f. make f s.length) e ∙ ap (make t.from) lengths

-- a name that begins in a stretch is a tail of the stretch's bytes
tail-of : (file : List ℕ) (i : ℕ) (s : Stretch) (string : List ℕ) → IsSymbol file i → IsStretch file s → BeginsIn file i s → string ≡ stretch_bytes file s
    → take (length (reverse (name_of file i))) (reverse string) ≡ reverse (name_of file i)
unfolding stretch_back
tail-of file i s string symbol stretch begins is =
    ap (λ b. take (length (reverse (name_of file i))) (reverse b)) is
    ∙ ap (λ n. take n (reverse (stretch_bytes file s))) (length-reverse (name_of file i))
    ∙ sym (back-in-stretch file i s symbol stretch begins)

closed : (file symbols : List ℕ) (n first : ℕ) (s : Stretch) (endings : List Ending) (e : Ending) → All (IsSymbol file) symbols → n ≤ length symbols → IsOpen file symbols n first s endings
    → IsMade file n first s e → IsEnding (texts file symbols) e
unfolding back
closed file symbols n first s endings e valid le o made = record {
  order = omega (arith, o.order, made.first_is, made.past_is);
  within = omega (arith, made.past_is, le, length-map symbols (name_of file));
  tails = λ k is.
      let low : first ≤ k = omega (arith, is.0, made.first_is) in
      let high : k < n = omega (arith, is.1, made.past_is) in
      let there : k < length symbols = omega arith in
      subst (λ t. take (length (reverse t)) (reverse e.string.now) ≡ reverse t) (sym (get_or-map (name_of file) symbols k 0 [] there))
      (tail-of file (get_or symbols k 0) s e.string.now (valid k 0 there) o.stretch (o.begin k low high) made.string);
}

all-before : (file symbols : List ℕ) (n first : ℕ) (s : Stretch) (endings : List Ending) (e : Ending) → IsOpen file symbols n first s endings → IsMade file n first s e → (k : ℕ) → k < n
    → Any (IsIn k) (endings ++ e ∷ [])
all-before file symbols n first s endings e o made k lt = elim (cases_lt k first) [
  | inl early ↦ any-more k endings e (o.before k early)
  | inr late ↦ Any-push (IsIn k) endings e (omega (arith, late, made.first_is), omega (arith, lt, made.past_is))
]

-- if name number `n` begins in a stretch with the same beginning, `IsOpen` is true after this name too
pub open-on : (file symbols : List ℕ) (n first : ℕ) (s next : Stretch) (endings : List Ending) → IsOpen file symbols n first s endings
    → IsStretch file next → BeginsIn file (get_or symbols n 0) next → s.from ≡ next.from → IsOpen file symbols (n + 1) first next endings
open-on file symbols n first s next endings o h b from =
    let same : s ≡ next = same-stretch file s next o.stretch h from in
    record {
      stretch = h;
      order = omega (arith, o.order);
      begin = λ k low lt. elim (cases_lt k n) [
        | inl early ↦ subst (BeginsIn file (get_or symbols k 0)) same (o.begin k low early)
        | inr late ↦ let at : n ≡ k = omega arith in subst (λ m. BeginsIn file (get_or symbols m 0) next) at b
      ];
      each = o.each;
      before = o.before;
    }

-- if name number `n` begins in another stretch, `IsOpen` is true after this name with the ending of the
-- stretch before added
pub open-next : (file symbols : List ℕ) (n first : ℕ) (s next : Stretch) (endings : List Ending) (e : Ending) → All (IsSymbol file) symbols → n < length symbols → IsOpen file symbols n first s endings
    → IsStretch file next → BeginsIn file (get_or symbols n 0) next → IsMade file n first s e → IsOpen file symbols (n + 1) n next (endings ++ e ∷ [])
open-next file symbols n first s next endings e valid lt o h b made = record {
  stretch = h;
  order = omega arith;
  begin = λ k low less. let at : n ≡ k = omega arith in subst (λ m. BeginsIn file (get_or symbols m 0) next) at b;
  each = All-push (IsEnding (texts file symbols)) endings e o.each (closed file symbols n first s endings e valid (omega arith) o made);
  before = all-before file symbols n first s endings e o made;
}

-- after the last name, the endings are those of all names
pub gathered : (file symbols : List ℕ) (n first : ℕ) (s : Stretch) (endings : List Ending) (e : Ending) → All (IsSymbol file) symbols → n ≡ length symbols → IsOpen file symbols n first s endings
    → IsMade file n first s e → AreEndings (texts file symbols) (endings ++ e ∷ [])
gathered file symbols n first s endings e valid all o made = record {
  each = All-push (IsEnding (texts file symbols)) endings e o.each (closed file symbols n first s endings e valid (omega arith) o made);
  all = λ k lt. all-before file symbols n first s endings e o made k (omega (arith, lt, all, length-map symbols (name_of file)));
}
