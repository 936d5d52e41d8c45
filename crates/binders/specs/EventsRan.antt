-- The effect of a list of events on a registry with binders, and the states that a stop during the
-- events leaves (own).
use Rattle.std.specs.Prelude.{◌≡◌, List, [], ◌∷◌, map}
use Rattle.sector_disk.specs.Disk.{DiskFacts}
use Rattle.states.specs.State.{State}
use Rattle.requests.specs.Runs.{Steps, last_of}
use Rattle.registry.specs.Acknowledged.{Exchange, answered, command, stepped}
use Rattle.registry.specs.Opened.{IsAt}
use Rattle.registry.specs.Ran.{RunsThrough}
use Rattle.store.specs.Holds.{AreHolds}
use Rattle.binders.specs.Events.{Happening, Happens, apply}
use Rattle.binders.specs.Slotted.{Slotted}
use Rattle.binders.specs.declared.event.EventReply.{EventReply}
use Rattle.binders.specs.declared.event.EventReply.TheVariants.{Replied}

-- an event and its reply as an exchange: a command with its reply, or a request for no change of
-- the state
abbrev pub exchange_of : Happening → EventReply → Exchange
exchange_of (apply request) (Replied answer) = answered (command request) answer
exchange_of happening reply = stepped

-- events and their replies as exchanges, with one exchange for each event
abbrev pub exchanges : List Happening → List EventReply → List Exchange
exchanges (happening ∷ happenings) (reply ∷ replies) = exchange_of happening reply ∷ exchanges happenings replies
exchanges happenings replies = []

-- A registry with binders answered an event with this reply, and the event had this effect. Before and
-- after the event, each held byte string has exactly one row in the store's table of holds.
pub record EventStep {D : Type 0} (facts : D → DiskFacts) (old : Slotted D) (happening : Happening) (reply : EventReply) (new : Slotted D) : Type 0 where
  pub happens : Happens facts old new happening reply
  pub holds_before : AreHolds old.registry
  pub holds_after : AreHolds new.registry

-- These events were answered with these replies, one after the other, with one reply for each event.
pub record EventsRan {D : Type 0} (facts : D → DiskFacts) (old new : Slotted D) (happenings : List Happening) (replies : List EventReply) : Type 0 where
  -- the registry with its binders after each event
  pub passed : List (Slotted D)
  -- each event had its effect on the registry with binders after the previous event
  pub steps : Steps (EventStep facts) old happenings replies passed
  pub last : new ≡ last_of old passed
  -- If the registry is at a state, a stop at any moment leaves the state after accepted commands.
  -- These commands include every command that was acknowledged before that moment. This holds for
  -- any binders.
  pub runs : (s : State) → IsAt facts old.registry s
      → RunsThrough facts old.registry (map (λ (b : Slotted D). b.registry) passed) new.registry s (exchanges happenings replies)
