-- The effect of an update on its draft, and of its commit on the registry, for a disk over given
-- bytes (own).
use Rattle.std.specs.Prelude.{◌≡◌, ◌⊎◌, ◌<◌, ℕ, List, Result, Ok, Err, IfErr, OnOk}
use Rattle.sector_disk.specs.Disk.{LeavesOnly}
use Rattle.byte_disk.specs.declared.disk.ByteDisk.{ByteDisk}
use Rattle.byte_disk.specs.ByteDisk.{byte_facts}
use Rattle.states.specs.State.{State}
use Rattle.store.specs.Draft.{Drafted, begun}
use Rattle.store.specs.Opened.{Opened, IsAt}
use Rattle.store.specs.Stands.{Stands}
use Rattle.requests.specs.Request.{Request}
use Rattle.requests.specs.declared.refusal.Refusal.{Refusal}
use Rattle.requests.specs.declared.refusal.Refusal.TheVariants.{Device}
use Rattle.requests.specs.declared.reply.Reply.{Reply}
use Rattle.registry.specs.Updating.{Plans, updated}
use Rattle.byte_registry.specs.Updated.{AnswersUpdate, StopsAt}

-- requests to a draft were answered up to the first refused one
abbrev pub PlansAll : Drafted ByteDisk → Drafted ByteDisk → List Request → Result (Unit {0}) (ℕ × Refusal) → Type 0
PlansAll old new requests (Ok done) = (answers : List Reply) × Plans byte_facts old new requests answers
PlansAll old new requests (Err refused) = StopsAt old new requests refused.0 refused.1

-- An update of an opened registry in state s was answered with `answer`. If the answer is Ok, the update
-- was made.
pub record MakesUpdate (old new : Opened ByteDisk) (s : State) (requests : List Request) (answer : Result (Unit {0}) (ℕ × Refusal)) : Type 0 where
  pub table : AnswersUpdate (begun old) s requests answer new.disk
  pub any_moment : OnOk answer (LeavesOnly (byte_facts old.disk) (byte_facts new.disk) (λ m. Stands m s ⊎ Stands m (updated s requests)))
  pub ok : OnOk answer (IsAt byte_facts new (updated s requests))
  pub device : IfErr answer (λ refused. refused.1 ≡ Device → 0 < (byte_facts new.disk).failures)
