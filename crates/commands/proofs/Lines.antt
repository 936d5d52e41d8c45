-- Lemmas about lists of answers that grow by one.
use Rattle.std.proofs.Common.{◌≡◌, ℕ, ◌+◌, Bool, if◌then◌else◌, List, [], ◌∷◌, ◌++◌, length, length-append, append-nil, sym, ap, ◌∙◌, arith}
use Rattle.std.specs.Prelude.{count_by}
use Rattle.std.specs.List.{flat_map}
use Rattle.std.specs.Io.Iter.{u64_saturate}
use Rattle.std.proofs.lemmas.Grind.{flat_map-append}
use Rattle.std.proofs.lemmas.List.Sums.{sum_by_push}
use Rattle.commands.specs.Answer.{is_refused}
use Rattle.commands.specs.Script.{Counts}
use Rattle.commands.specs.declared.answer.Answer.{Answer}
use Rattle.commands.specs.declared.summary.Summary.{Summary}

pub flat_more : {X : Type 0} (f : X → List ℕ) (xs : List X) (x : X) → flat_map f (xs ++ x ∷ []) ≡ flat_map f xs ++ f x
flat_more f xs x = flat_map-append f xs (x ∷ []) ∙ ap (λ l. flat_map f xs ++ l) (append-nil (f x))

saturated_more : (x y : ℕ) → u64_saturate (u64_saturate x + y) ≡ u64_saturate (x + y)
saturated_more x y = omega arith

lines_more : (m l : ℕ) (answers : List Answer) (answer : Answer) → m ≡ u64_saturate (length answers) → l ≡ u64_saturate (m + 1) → l ≡ u64_saturate (length (answers ++ answer ∷ []))
lines_more m l answers answer before more =
    more ∙ ap (λ k. u64_saturate (k + 1)) before ∙ saturated_more (length answers) 1 ∙ ap u64_saturate (sym (length-append answers (answer ∷ [])))

refused_more : (m l : ℕ) (answers : List Answer) (answer : Answer) (refused : Bool) → refused ≡ is_refused answer → m ≡ u64_saturate (count_by is_refused answers)
    → l ≡ u64_saturate (m + (if refused then 1 else 0)) → l ≡ u64_saturate (count_by is_refused (answers ++ answer ∷ []))
refused_more m l answers answer refused is before more =
    more ∙ ap (λ b. u64_saturate (m + (if b then 1 else 0))) is ∙ ap (λ k. u64_saturate (k + (if is_refused answer then 1 else 0))) before
    ∙ saturated_more (count_by is_refused answers) (if is_refused answer then 1 else 0)
    ∙ ap u64_saturate (sym (sum_by_push (λ answer. if is_refused answer then 1 else 0) answers answer))

-- if the counts of the answers are right, they are right after one more answer is counted
pub counts_more : (m n : Summary) (answers : List Answer) (answer : Answer) (refused : Bool) → refused ≡ is_refused answer → Counts m answers
    → n.lines ≡ u64_saturate (m.lines + 1) → n.refused ≡ u64_saturate (m.refused + (if refused then 1 else 0)) → Counts n (answers ++ answer ∷ [])
counts_more m n answers answer refused is before lines refusals = record {
  lines = lines_more m.lines n.lines answers answer before.lines lines;
  refused = refused_more m.refused n.refused answers answer refused is before.refused refusals;
}
