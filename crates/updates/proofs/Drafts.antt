-- The lines of an update are requests to a draft of the current state.
use Rattle.std.proofs.Common.{◌≡◌, ℕ, List, [], ◌∷◌, Option, Some, refl, sym, subst}
use Rattle.std.specs.Prelude.{◌↔◌, false}
use Rattle.std.specs.List.{filter_map, list_any}
use Rattle.sector_disk.specs.Disk.{DiskFacts, LeavesOnly}
use Rattle.states.specs.State.{State}
use Rattle.store.specs.Draft.{Drafted, IsDraftedAt}
use Rattle.store.specs.Stands.{Stands}
use Rattle.store.specs.declared.draft.Touched.TheVariants.{Nothing}
use Rattle.requests.specs.Request.{Request}
use Rattle.requests.specs.Runs.{Steps}
use Rattle.requests.specs.declared.reply.Reply.{Reply}
use Rattle.registry.specs.Updating.{DraftAnswers, IsUpdate, Plans, asks_change}
use Rattle.registry.proofs.Updating as requests
use Rattle.scripts.specs.Asked.{request_meaning}
use Rattle.updates.specs.Lines.{ArePlanned, LineStep}
use Rattle.updates.specs.Update.{requests_of}

-- a line that makes a request adds one request to the list
asks_more : {X Y : Type 0} (f : X → Option Y) (x : X) (xs : List X) (y : Y) → f x ≡ Some y → filter_map f (x ∷ xs) ≡ y ∷ filter_map f xs
asks_more f x xs y is = rw is refl

module _ {D : Type 0} (facts : D → DiskFacts) where
  asked : (old : Drafted D) (lines : List (List ℕ)) (answers : List Reply) (drafts : List (Drafted D)) → Steps (LineStep facts) old lines answers drafts
      → Steps (DraftAnswers facts) old (requests_of lines) answers drafts
  asked old [] [] [] steps = tt
  asked old (line ∷ lines) (answer ∷ answers) (u ∷ drafts) steps =
      subst (λ (l : List Request). Steps (DraftAnswers facts) old l (answer ∷ answers) (u ∷ drafts))
      (sym (asks_more request_meaning line lines steps.0.0 steps.0.1))
      (steps.0.2, asked u lines answers drafts steps.1)
  asked old [] [] (u ∷ drafts) steps = absurd steps
  asked old [] (answer ∷ answers) drafts steps = absurd steps
  asked old (line ∷ lines) [] drafts steps = absurd steps
  asked old (line ∷ lines) (answer ∷ answers) [] steps = absurd steps

  pub plans : (old new : Drafted D) (lines : List (List ℕ)) (answers : List Reply) → ArePlanned facts old new lines answers → Plans facts old new (requests_of lines) answers
  plans old new lines answers planned = record {
    run = (planned.run.0, asked old lines answers planned.run.0 planned.run.1, planned.run.2);
    accepted = planned.accepted;
  }

  -- a draft has a change exactly if a line asks for a change
  pub is_changed : (old new : Drafted D) (lines : List (List ℕ)) (answers : List Reply) → old.touched ≡ Nothing → ArePlanned facts old new lines answers
      → (new.touched ≡ Nothing) ↔ (list_any asks_change (requests_of lines) ≡ false)
  is_changed old new lines answers none planned = requests.is_changed facts old new (requests_of lines) answers none (plans old new lines answers planned)

  module _ (s : State) where
    -- while the lines are answered, the disk holds the current state
    pub planned_moment : (old new : Drafted D) (lines : List (List ℕ)) (answers : List Reply) → IsDraftedAt facts old s s → ArePlanned facts old new lines answers
        → LeavesOnly (facts old.store.disk) (facts new.store.disk) (λ m. Stands m s)
    planned_moment old new lines answers at planned = requests.plans_moment facts s old new (requests_of lines) answers at (plans old new lines answers planned)

    -- the lines are an update of the current state
    pub is_update : (old new : Drafted D) (lines : List (List ℕ)) (answers : List Reply) → old.touched ≡ Nothing → IsDraftedAt facts old s s → ArePlanned facts old new lines answers
        → IsUpdate facts old new s (requests_of lines) answers
    is_update old new lines answers none at planned = requests.is_update facts s old new (requests_of lines) answers none at (plans old new lines answers planned)
