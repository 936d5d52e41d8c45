-- One answered command of a registry on a disk (own).
use Rattle.sector_disk.specs.Disk.{DiskFacts, AreCallsExactly}
use Rattle.store.specs.Opened.{Opened}
use Rattle.requests.specs.Request.{Request}
use Rattle.states.specs.State.{State}
use Rattle.requests.specs.declared.reply.Reply.{Reply}
use Rattle.registry.specs.Answered.{Answered}
use Rattle.registry.specs.Applied.{Applies}
use Rattle.registry.specs.Calls.{IfAccepted, calls_of}
use Rattle.registry.specs.Opened.{IsAt}

-- A registry on a disk answered a command. `old` and `new` are the registry before and after it.
pub record DiskStep {D : Type 0} (facts : D → DiskFacts) (old : Opened D) (request : Request) (answer : Reply) (new : Opened D) : Type 0 where
  -- if the registry is at a state, the answer and its effect are those of the step table
  pub applied : (s : State) → IsAt facts old s → Applies facts old new s request answer
  -- an accepted command makes exactly the calls of the disk that `calls_of` defines
  pub all_calls : (s : State) → IsAt facts old s → IfAccepted answer (AreCallsExactly (calls_of s request) (facts old.disk) (facts new.disk))
  -- on any disk, honest or not, the answer is one of the command's possible answers, and the
  -- command had the effect that `Did` defines
  pub on_any_disk : Answered facts old new request answer
