-- The event of a binder that a line asks for, depending on how the line begins.
use Rattle.std.proofs.Common.{◌≡◌, ◌∙◌, ℕ, List, drop, codes, Bool, true, false, cond, Option, Some, None, refl, ap}
use Rattle.std.specs.Prelude.{MatchOption, IsSomeAnd}
use Rattle.std.specs.Option.{option_map}
use Rattle.binders.specs.Events.{Happening, begin, advance, cancel}
use Rattle.scripts.specs.Words.{has_front, program_behind}
use Rattle.commands.specs.Line.{binder_meaning, slot_of}
use Rattle.commands.specs.inside.Asked.{happening_asked}
use Rattle.commands.specs.declared.asked.Asked.{Asked}

chosen : {A : Type 0} (b : Bool) (x y : A) → b ≡ true → x ≡ cond b x y
chosen true x y is = refl
chosen false x y is = cc

passed : {A : Type 0} (b : Bool) (x y : A) → b ≡ false → y ≡ cond b x y
passed false x y is = refl
passed true x y is = cc

-- the event of a form with a slot, if the slot can be read
pub asked_of : (form : ℕ → Asked) (Asks : ℕ → Asked → Type 0) → ((k : ℕ) (a : Asked) → Asks k a → a ≡ form k)
    → (slot : Option ℕ) (asked : Option Asked) → MatchOption slot (asked ≡ None) (λ k. IsSomeAnd asked (Asks k))
    → option_map happening_asked asked ≡ option_map (λ k. happening_asked (form k)) slot
asked_of form Asks asks None asked is = ap (option_map happening_asked) is
asked_of form Asks asks (Some k) (Some a) is = ap (λ a. Some (happening_asked a)) (asks k a is)
asked_of form Asks asks (Some k) None is = absurd is

module _ (line rest : List ℕ) (asked : Option Happening) where
  pub begins : has_front (codes "begin ") line ≡ true → rest ≡ drop 6 line → asked ≡ option_map (λ p. begin p.0 p.1) (program_behind rest) → asked ≡ binder_meaning line
  begins front at is =
      is ∙ ap (λ r. option_map (λ p. begin p.0 p.1) (program_behind r)) at ∙ chosen (has_front (codes "begin ") line) _ _ front

  pub advances : has_front (codes "begin ") line ≡ false → has_front (codes "advance ") line ≡ true → rest ≡ drop 8 line → asked ≡ option_map advance (slot_of rest) → asked ≡ binder_meaning line
  advances begun front at is =
      is ∙ ap (λ r. option_map advance (slot_of r)) at ∙ chosen (has_front (codes "advance ") line) _ _ front ∙ passed (has_front (codes "begin ") line) _ _ begun

  pub cancels : has_front (codes "begin ") line ≡ false → has_front (codes "advance ") line ≡ false → has_front (codes "cancel ") line ≡ true → rest ≡ drop 7 line
      → asked ≡ option_map cancel (slot_of rest) → asked ≡ binder_meaning line
  cancels begun advanced front at is =
      is ∙ ap (λ r. option_map cancel (slot_of r)) at ∙ chosen (has_front (codes "cancel ") line) _ _ front ∙ passed (has_front (codes "advance ") line) _ _ advanced
      ∙ passed (has_front (codes "begin ") line) _ _ begun

pub asks_none : (line : List ℕ) → has_front (codes "begin ") line ≡ false → has_front (codes "advance ") line ≡ false → has_front (codes "cancel ") line ≡ false → None ≡ binder_meaning line
asks_none line begun advanced cancelled =
    passed (has_front (codes "cancel ") line) _ _ cancelled ∙ passed (has_front (codes "advance ") line) _ _ advanced ∙ passed (has_front (codes "begin ") line) _ _ begun
