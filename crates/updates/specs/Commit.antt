-- The ends of the commit of an update (own).
use Rattle.std.specs.Prelude.{◌≡◌, ◌⊎◌, List, Result, OnOk, OnErr, length}
use Rattle.sector_disk.specs.Disk.{DiskFacts, LeavesOnly}
use Rattle.states.specs.State.{State}
use Rattle.store.specs.Changed.{Changed}
use Rattle.store.specs.Draft.{Drafted, IsDraftedAt, begun, commit_calls, committed}
use Rattle.store.specs.Holds.{KeepsHeld}
use Rattle.store.specs.Opened.{Opened, IsAt}
use Rattle.store.specs.Stands.{Stands}
use Rattle.store.specs.declared.draft.Touched.TheVariants.{Nothing}
use Rattle.requests.specs.Request.{Request}
use Rattle.requests.specs.Step.{answer_of}
use Rattle.requests.specs.declared.refusal.Refusal.{Refusal}
use Rattle.requests.specs.declared.refusal.Refusal.TheVariants.{Device, Reopen}
use Rattle.requests.specs.declared.reply.Reply.{Reply}
use Rattle.registry.specs.Opened as registry
use Rattle.registry.specs.Ran.{UpdatesAt, point}
use Rattle.registry.specs.Updating.{Plans}

-- The draft was committed, or the commit was refused.
pub record Commits {D : Type 0} (facts : D → DiskFacts) (u : Drafted D) (answer : Result (Unit {0}) Refusal) (new : Opened D) : Type 0 where
  -- a stop at any moment leaves the current state, or the draft's whole state
  pub any_moment : (s d : State) → IsDraftedAt facts u s d → LeavesOnly (facts u.store.disk) (facts new.disk) (λ m. Stands m s ⊎ Stands m (committed u.touched s d))
  -- once the commit is acknowledged, the draft is on the disk
  pub ok : (s d : State) → IsDraftedAt facts u s d → OnOk answer (IsAt facts new (committed u.touched s d))
  -- if the registry is at state `s`, the update is one exchange of a run
  pub made : (old : Opened D) (s : State) (requests : List Request) (answers : List Reply) → registry.IsAt facts old s → Plans facts (begun old) u requests answers
      → (s' : State) × UpdatesAt facts (point old s) requests (answer_of answer) (point new s')
  -- the held byte strings stay unchanged
  pub held : KeepsHeld facts u.store new
  -- the other fields hold on any disk, honest or not
  pub on_any_disk : Changed facts Device Reopen u.store new (commit_calls u.touched (length u.entries)) (λ e. (e ≡ Device) ⊎ (e ≡ Reopen)) answer
  pub given_up : OnErr answer ((new.root ≡ u.store.root) × (new.entries ≡ u.store.entries) × (new.held ≡ u.store.held))
  pub entries : OnOk answer (new.entries ≡ u.entries)
  -- if the draft has no change, the commit does nothing
  pub same : u.touched ≡ Nothing → new ≡ u.store
