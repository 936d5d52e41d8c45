-- Lemmas about the text that is written for the lines of an update, one line after the other.
use Rattle.std.proofs.Common.{◌≡◌, ℕ, List, [], ◌∷◌, ◌++◌, append-nil, Option, sym, ap, subst, ◌∙◌}
use Rattle.std.specs.List.{flat_map}
use Rattle.std.specs.Io.KnownBytes.{Appends}
use Rattle.std.proofs.KnownBytes.{Appends-trans}
use Rattle.std.proofs.lemmas.Grind.{flat_map-append}
use Rattle.requests.specs.declared.reply.Reply.{Reply}
use Rattle.updates.specs.Answer.{plan_text, plan_texts}

pub flat_more : {X : Type 0} (f : X → List ℕ) (xs : List X) (x : X) → flat_map f (xs ++ x ∷ []) ≡ flat_map f xs ++ f x
flat_more f xs x = flat_map-append f xs (x ∷ []) ∙ ap (λ l. flat_map f xs ++ l) (append-nil (f x))

-- if the answers so far were written, and then one more answer, the answers to all lines were written
pub texts_more : (before mid now : Option (List ℕ)) (answers : List Reply) (answer : Reply) → Appends before mid (plan_texts answers) → Appends mid now (plan_text answer)
    → Appends before now (plan_texts (answers ++ answer ∷ []))
texts_more before mid now answers answer so_far more =
    subst (Appends before now) (sym (flat_more plan_text answers answer)) (Appends-trans before mid now (plan_texts answers) (plan_text answer) so_far more)

-- if nothing more was written, the text is still the whole text
pub texts_kept : (before mid now : Option (List ℕ)) (text : List ℕ) → Appends before mid text → Appends mid now [] → Appends before now text
texts_kept before mid now text so_far none = subst (Appends before now) (append-nil text) (Appends-trans before mid now text [] so_far none)
