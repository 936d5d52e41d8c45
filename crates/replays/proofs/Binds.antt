-- A draft has the libraries and preloads that its commit lists. So a bind has the same answer before and
-- after the commit.
use Rattle.std.proofs.Common.{◌≡◌, ℕ, List, [], ◌∷◌, Bool, true, false, refl, sym, ap}
use Rattle.std.specs.Prelude.{if◌then◌else◌}
use Rattle.std.specs.List.{list_any}
use Rattle.states.specs.Changes.{next}
use Rattle.states.specs.State.{State}
use Rattle.requests.specs.Binding.{binding_refusal, bound_objects}
use Rattle.requests.specs.Request.{Request, install, replace, remove, set_preloads, bind, list}
use Rattle.registry.specs.Updating.{asks_change, drafted_by, updated}

differ : true ≡ false → ⊥
differ is = cc is

-- if no request asks for a change, the draft is at the current state
unchanged : (s : State) (requests : List Request) → list_any asks_change requests ≡ false → drafted_by s requests ≡ s
unchanged s [] is = refl
unchanged s (bind program base ∷ requests) is = unchanged s requests is
unchanged s (list ∷ requests) is = unchanged s requests is
unchanged s (install bytes ∷ requests) is = absurd (differ is)
unchanged s (replace bytes ∷ requests) is = absurd (differ is)
unchanged s (remove name ∷ requests) is = absurd (differ is)
unchanged s (set_preloads names ∷ requests) is = absurd (differ is)

-- a function that reads only libraries and preloads has the same value for the state after the commit as
-- for the draft
alike : {T : Type 0} (read : State → T) → ((s d : State) → read (next s d.libraries d.preloads) ≡ read d) → (s d : State) (changes : Bool)
    → (changes ≡ false → d ≡ s) → read (if changes then next s d.libraries d.preloads else s) ≡ read d
alike read same s d true h = same s d
alike read same s d false h = ap read (sym (h refl))

pub planned_refusal : (s : State) (requests : List Request) (program : List ℕ) (base : ℕ)
    → binding_refusal (updated s requests) program base ≡ binding_refusal (drafted_by s requests) program base
planned_refusal s requests program base =
    alike (λ (t : State). binding_refusal t program base) (λ s d. refl) s (drafted_by s requests) (list_any asks_change requests) (unchanged s requests)

pub planned_objects : (s : State) (requests : List Request) (program : List ℕ) (base : ℕ)
    → bound_objects (updated s requests) program base ≡ bound_objects (drafted_by s requests) program base
planned_objects s requests program base =
    alike (λ (t : State). bound_objects t program base) (λ s d. refl) s (drafted_by s requests) (list_any asks_change requests) (unchanged s requests)
