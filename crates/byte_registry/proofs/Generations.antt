-- The current root in the sectors of bytes, and the generation of the state that they hold.
use Rattle.std.proofs.Common.{◌≡◌, ◌∙◌, List, ℕ, sym, ap}
use Rattle.std.specs.Prelude.{Result, Ok, Option, Some}
use Rattle.roots.specs.declared.root.Root.{Root}
use Rattle.roots.specs.declared.choice.ChooseRefusal.{ChooseRefusal}
use Rattle.states.specs.State.{State}
use Rattle.byte_registry.specs.Bytes.{HoldStore}

pub same_root : (a b : Root) → ◌≡◌ {A = Result Root ChooseRefusal} (Ok a) (Ok b) → ◌≡◌ {A = Option Root} (Some a) (Some b)
same_root a b e = cc

-- if two roots are found, they are equal
pub one_root : (a b : Root) → ◌≡◌ {A = Option Root} (Some a) (Some b) → a ≡ b
one_root a b e = cc

-- the generation of the root that is found is that of the state
pub generation_is : {bytes : List ℕ} (s : State) (held : HoldStore bytes s) (root : Root) → ◌≡◌ {A = Option Root} (Some root) (Some held.stands.0) → root.generation ≡ s.generation
generation_is s held root is = ap (λ (r : Root). r.generation) (one_root root held.stands.0 is) ∙ sym (ap (λ (t : State). t.generation) held.stands.2.is)
