-- The commands and updates that were acknowledged, and those that were accepted (own).
use Rattle.std.specs.Prelude.{◌≡◌, ◌⊎◌, ℕ, List, [], ◌∷◌, ◌++◌, Some, slice_get, fold, if◌then◌else◌}
use Rattle.states.specs.State.{State}
use Rattle.requests.specs.Request.{Request}
use Rattle.requests.specs.Step.{accepted, is_acknowledged}
use Rattle.requests.specs.declared.refusal.Refusal.TheVariants.{Device}
use Rattle.requests.specs.declared.reply.Reply.{Reply}
use Rattle.requests.specs.declared.reply.Reply.TheVariants.{Done, Refused}
use Rattle.registry.specs.Updating.{updated}

-- an operation that is carried out completely or not at all: a command, or an update with all of
-- its requests
pub data Transaction : Type 0 where
  command : Request → Transaction
  update : List Request → Transaction

-- one request to a registry, and its answer
pub data Exchange : Type 0 where
  -- a command with its reply, or an update with the answer to its commit
  answered : Transaction → Reply → Exchange
  -- an update that ended before its commit
  given_up : Exchange
  -- a request for no change of the state, such as a step of a binder
  stepped : Exchange

-- commands and their replies as exchanges, with one exchange for each command
abbrev pub commanded : List Request → List Reply → List Exchange
commanded (request ∷ requests) (answer ∷ answers) = answered (command request) answer ∷ commanded requests answers
commanded requests answers = []

-- the commands and updates that were answered with Done, in the order of the exchanges
abbrev pub acknowledged : List Exchange → List Transaction
acknowledged (answered asked answer ∷ exchanges) = if is_acknowledged answer then asked ∷ acknowledged exchanges else acknowledged exchanges
acknowledged (given_up ∷ exchanges) = acknowledged exchanges
acknowledged (stepped ∷ exchanges) = acknowledged exchanges
acknowledged [] = []

-- the state after an accepted command, or after an update all of whose requests are accepted
abbrev pub outcome : State → Transaction → State
outcome s (command request) = accepted s request
outcome s (update requests) = updated s requests

-- the state after the commands and updates `asked`, if they are accepted one after the other in
-- state s
abbrev pub state_after : State → List Transaction → State
state_after s asked = fold outcome s asked

-- exchange number k, counted from 0, is a command or an update that was acknowledged
abbrev pub IsAcknowledgedAt : List Exchange → ℕ → Type 0
IsAcknowledgedAt exchanges k = (asked : Transaction) × (slice_get exchanges k ≡ Some (answered asked Done))

-- exchange number k was the request `asked`, and was answered with S1
abbrev pub FailedAt : List Exchange → ℕ → Transaction → Type 0
FailedAt exchanges k asked = slice_get exchanges k ≡ Some (answered asked (Refused Device))

-- `taken` lists the accepted commands and updates: all acknowledged commands and updates and,
-- possibly after them, one that was answered with S1.
abbrev pub AreAccepted : List Exchange → List Transaction → Type 0
AreAccepted exchanges taken = (taken ≡ acknowledged exchanges)
    ⊎ ((k : ℕ) × (asked : Transaction) × FailedAt exchanges k asked × (taken ≡ acknowledged exchanges ++ asked ∷ []))
