-- The report for a program with the libraries that were found is the report with the installed
-- libraries.
use Rattle.std.proofs.Common.{◌≡◌, ℕ, Option, Some, None, true, false, List, map, inl, inr, refl, sym, subst, ◌∙◌}
use Rattle.std.specs.Prelude.{is_some}
use Rattle.bindings.proofs.Known.{texts-same}
use Rattle.image.specs.Placement.{place}
use Rattle.program_parts.specs.declared.status.Status.{Status}
use Rattle.program_parts.specs.declared.status.Status.TheVariants.{Refused}
use Rattle.registry.specs.Found.{Found, IsFoundFor}
use Rattle.requests.specs.Binding.{object_of, objects, preload_numbers}
use Rattle.scope.specs.LoadOrder.{Need, load_order, names_of}
use Rattle.scope.specs.Objects.{Named}
use Rattle.states.specs.State.{State}
use Rattle.tool_commands.specs.Bindings.{FoundTells, LackingTells, StateTells, WholeTells}
use Rattle.tool_parts.specs.Streams.{Streams, TellsOnly}

-- an option that isn't `Some` is `None`, so no name is missing
pub lacks-none : (o : Option Need) → is_some o ≡ false → o ≡ None
lacks-none None none = refl
lacks-none (Some need) none = absurd (let no : true ≡ false = none in cc)

module _ (s : State) (program : List ℕ) (base : ℕ) (found : Found) (io : Streams) (status : Status) (is : IsFoundFor s program found) where
  abbrev order : List Named
  order = load_order program (objects s) (preload_numbers s)

  -- a report with the libraries that were found is a report with the installed libraries
  pub state-tells : FoundTells program base found io status → StateTells s program base io status
  state-tells (inl h) = inl (is.lacks ∙ h.0, subst (λ o. WholeTells (place base o) io status) (sym is.order) h.1)
  state-tells (inr h) = inr ((λ none. h.0 (sym is.lacks ∙ none)), lacking (subst (λ o. LackingTells (names_of (map object_of found.libraries)) o io status) (sym is.order) h.1))
    where
      lacking : LackingTells (names_of (map object_of found.libraries)) order io status → LackingTells (names_of (objects s)) order io status
      lacking (inl t) = inl (subst (λ text. TellsOnly Refused text io status) (sym (texts-same (names_of (objects s)) (names_of (map object_of found.libraries)) order is.known)) t)
      lacking (inr m) = inr m
