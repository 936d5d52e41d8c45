-- The effect of a command: its answer, and the state after it (own).
use Rattle.std.specs.Prelude.{Result, Ok, Err, ◌≡◌, ◌<◌, ℕ, List, Option, Some, None, ◌⊎◌, IsTrue, IsFalse, Bool, true, false}
use Rattle.std.specs.Option.{option_map}
use Rattle.hash_check.specs.FileRefusal.{ReadNeedsMemory}
use Rattle.image.specs.Byte.{byte_of}
use Rattle.image.specs.Image.{image_byte}
use Rattle.image.specs.Refusal.{program_refusal}
use Rattle.requests.specs.Library.{name_of}
use Rattle.states.specs.State.{State}
use Rattle.states.specs.Changes.{with_new, with_bytes, without, with_preloads}
use Rattle.requests.specs.Table.{listed}
use Rattle.requests.specs.Request.{Request, install, replace, remove, set_preloads, bind, list}
use Rattle.requests.specs.Tests.{first_refusal}
use Rattle.requests.specs.Binding.{bound_objects, bound_image, binding_refusal}
use Rattle.requests.specs.Phase.{Phase, table_of}
use Rattle.requests.specs.declared.refusal.Refusal.{Refusal}
use Rattle.requests.specs.declared.refusal.Refusal.TheVariants.{Bind, OutOfMemory, Device, Reopen}
use Rattle.requests.specs.declared.reply.Reply.{Reply}
use Rattle.requests.specs.declared.reply.Reply.TheVariants.{Done, Refused}
use Rattle.requests.specs.declared.reply.Reply.TheVariants as reply

-- the state after an accepted command
abbrev pub accepted : State → Request → State
accepted s (install bytes) = with_new (name_of bytes) bytes s
accepted s (replace bytes) = with_bytes (name_of bytes) bytes s
accepted s (remove name) = without name s
accepted s (set_preloads names) = with_preloads names s
accepted s request = s

-- the answer to an accepted command
abbrev pub reply_of : State → Request → Reply
reply_of s (bind program base) = reply.Bound (bound_image s program base)
reply_of s list = reply.Listing (listed s)
reply_of s request = Done

-- The answer is the one that `reply_of` defines. If the answer is an image, it has at each address
-- the byte that `byte_of` defines.
abbrev pub IsReply : State → Request → Reply → Type 0
IsReply s (bind program base) (reply.Bound image) = (image ≡ bound_image s program base)
    × ((a : ℕ) → image_byte image a ≡ byte_of (bound_objects s program base) a)
IsReply s request answer = answer ≡ reply_of s request

-- the refusal of a command by the first test that refuses it, or none if the command is accepted
abbrev pub refusal_at : Phase → Request → Option Refusal
refusal_at p (bind program base) = option_map Bind (binding_refusal p.state program base)
refusal_at p request = first_refusal (table_of p) request

-- The request may need memory. A file that passes all tests before those of admission needs memory
-- for admission, and a listing needs memory. A bind needs memory to admit its program, and more
-- memory after this. Before admission, a bind is refused only because of the program's object.
abbrev pub TakesMemory : Request → Type 0
TakesMemory (install bytes) = ReadNeedsMemory bytes
TakesMemory (replace bytes) = ReadNeedsMemory bytes
TakesMemory (bind program base) = ReadNeedsMemory program
TakesMemory list = Unit {0}
TakesMemory request = ⊥

-- `p'` has the state `s`, and the same number of sectors as `p`; a write or a sync has failed in
-- `p'` if and only if one has failed in `p`
pub record Leads (p : Phase) (s : State) (p' : Phase) : Type 0 where
  pub sectors : p'.sectors ≡ p.sectors
  pub failed : p'.failed ≡ p.failed
  pub state : p'.state ≡ s

-- A write or sync of a change failed. The change may have taken effect, and the disk must be opened again.
pub record LacksWrite (p : Phase) (request : Request) (p' : Phase) : Type 0 where
  pub sectors : p'.sectors ≡ p.sectors
  pub risen : p.failures < p'.failures
  pub failed : IsTrue p'.failed
  pub untested : refusal_at p request ≡ None
  pub state : (p'.state ≡ p.state) ⊎ (p'.state ≡ accepted p.state request)

-- A read of a bind failed. Nothing changed, and the disk needn't be opened again. B1 and B2 come before all reads.
pub record LacksRead (p : Phase) (program : List ℕ) (base : ℕ) (p' : Phase) : Type 0 where
  pub risen : p.failures < p'.failures
  pub untested : program_refusal program base ≡ None
  pub same : Leads p p.state p'

-- the phase after a failed call of the disk is `p'`; a bind only reads, and a listing makes no call
abbrev pub LeavesFailed : Phase → Request → Phase → Type 0
LeavesFailed p (bind program base) p' = LacksRead p program base p'
LeavesFailed p list p' = ⊥
LeavesFailed p request p' = LacksWrite p request p'

-- In the phase `p`, the command may be answered with this reply and lead to the phase `p'`. After a
-- failed write or sync, every command is refused with S2 (Reopen). Before that, no command is
-- refused with S2.
abbrev pub Step : Phase → Request → Reply → Phase → Type 0
Step p request (Refused Reopen) p' = IsTrue p.failed × Leads p p.state p'
Step p request (Refused Device) p' = IsFalse p.failed × LeavesFailed p request p'
Step p request (Refused OutOfMemory) p' = IsFalse p.failed × TakesMemory request × Leads p p.state p'
Step p request (Refused refusal) p' = IsFalse p.failed × (refusal_at p request ≡ Some refusal) × Leads p p.state p'
Step p request answer p' = IsFalse p.failed × (refusal_at p request ≡ None) × IsReply p.state request answer × Leads p (accepted p.state request) p'

-- the reply for the result of a change
abbrev pub answer_of : Result (Unit {0}) Refusal → Reply
answer_of (Ok done) = Done
answer_of (Err refusal) = Refused refusal

-- the reply acknowledges a change
abbrev pub is_acknowledged : Reply → Bool
is_acknowledged Done = true
is_acknowledged answer = false
