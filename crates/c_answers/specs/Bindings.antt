-- The text for C about the bindings of the symbols of a program and its libraries (own).
use Rattle.std.specs.Prelude.{◌≡◌, ◌⊎◌, ℕ, List, Option, Some, None, length, take}
use Rattle.bindings.specs.Bindings.{bindings_text}
use Rattle.bindings.specs.Dependencies.{dependencies_text}
use Rattle.image.specs.Refusal.{program_refusal}
use Rattle.image.specs.declared.refusal.BindRefusal.{BindRefusal}
use Rattle.image.specs.declared.refusal.BindRefusal.TheVariants as bind
use Rattle.scope.specs.LoadOrder.{load_order, names_of}
use Rattle.states.specs.State.{State}
use Rattle.store.specs.declared.refusal.StoreRefusal.{StoreRefusal}
use Rattle.requests.specs.Binding.{binding_refusal, bound_objects, objects, preload_numbers}
use Rattle.requests.specs.declared.refusal.Refusal.{Refusal}
use Rattle.requests.specs.declared.refusal.Refusal.TheVariants as refusal
use Rattle.requests.specs.declared.reply.Reply.TheVariants.{Refused}
use Rattle.registry.specs.Untested.{ReadsLibraries}
use Rattle.byte_registry.specs.Bytes.{HaveNoContents, HoldNoOther, HoldStore}
use Rattle.c_answers.specs.Answers.{IsToldAlone, IsTurnedAway}
use Rattle.c_answers.specs.Contents.{IsGiven}
use Rattle.c_answers.specs.Numbers.{bind_number, done}
use Rattle.c_answers.specs.declared.answer.Answer.{Answer}

-- the status of a bind's refusal, or 0 if the bind isn't refused
abbrev pub bound_number : Option BindRefusal → ℕ
bound_number None = done
bound_number (Some why) = bind_number why

-- The text about a program at `base`, which depends on the refusal of its bind. If there is no
-- refusal, or a symbol is undefined, the text is about the bindings of the objects' symbols. If a
-- library is missing, it is about the found and the missing libraries. For any other refusal there
-- is no text.
abbrev pub told_text : State → (program : List ℕ) → (base : ℕ) → Option BindRefusal → Option (List ℕ)
told_text s program base None = Some (bindings_text (bound_objects s program base))
told_text s program base (Some (bind.Undefined object symbol)) = Some (bindings_text (bound_objects s program base))
told_text s program base (Some (bind.Missing needer name)) = Some (dependencies_text (names_of (objects s)) (load_order program (objects s) (preload_numbers s)))
told_text s program base (Some other) = None

-- `said` is the text about a program, and `number` is the status of its bind's refusal. Each file that
-- the bind reads is a library.
pub record IsText (s : State) (program : List ℕ) (base : ℕ) (number : ℕ) (said : List ℕ) : Type 0 where
  pub libraries : ReadsLibraries s program
  pub text : told_text s program base (binding_refusal s program base) ≡ Some said
  pub number_is : number ≡ bound_number (binding_refusal s program base)

-- the reason why there is no text: the bind's refusal has no text; a file that the bind reads isn't a
-- library (S5, Damaged); or memory was refused
abbrev pub IsUntold : State → (program : List ℕ) → (base : ℕ) → Refusal → Type 0
IsUntold s program base (refusal.Bind why) = (binding_refusal s program base ≡ Some why) × (told_text s program base (Some why) ≡ None)
IsUntold s program base refusal.Damaged = (program_refusal program base ≡ None) × (ReadsLibraries s program → ⊥)
IsUntold s program base refusal.OutOfMemory = Unit
IsUntold s program base other = ⊥

-- the buffer has the text or is too small, or the call reports why there is no text
abbrev pub IsBindingsTold : State → (program : List ℕ) → (base : ℕ) → (bytes text : List ℕ) → Answer → ℕ → Type 0
IsBindingsTold s program base bytes text answer status =
    ((number : ℕ) × (said : List ℕ) × IsText s program base number said × IsGiven number 0 said bytes answer status)
    ⊎ ((why : Refusal) × IsUntold s program base why × IsToldAlone (Refused why) text answer status)

-- `IsBindingsTold` holds for the state that the bytes hold; or there is no registry, and the call
-- reports why
abbrev pub IsBindingsAnswered : (disk program : List ℕ) → (base : ℕ) → (bytes text : List ℕ) → Answer → ℕ → Type 0
IsBindingsAnswered disk program base bytes text answer status =
    ((s : State) × HoldStore disk s × HoldNoOther disk s × IsBindingsTold s program base bytes text answer status)
    ⊎ ((why : StoreRefusal) × HaveNoContents disk why × IsTurnedAway why text answer status)

-- the status is one with a text: that of a bind that isn't refused, or that is refused with B3
-- (Missing) or B5 (Undefined)
abbrev pub TellsText : ℕ → Type 0
TellsText status = (status ≡ done) ⊎ (status ≡ 103) ⊎ (status ≡ 105)

-- The buffer has the text for the state that the bytes hold, and the status is that of the bind.
pub record IsBindingsOf (disk program : List ℕ) (base : ℕ) (bytes : List ℕ) (answer : Answer) (status : ℕ) : Type 0 where
  pub state : State
  pub holds : HoldStore disk state
  pub only : HoldNoOther disk state
  pub said : List ℕ
  pub text : IsText state program base status said
  pub size : answer.bytes ≡ length said
  pub given : take answer.bytes bytes ≡ said
