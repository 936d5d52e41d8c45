-- The answers to a command on any disk, honest or not, and the effect of the command on the
-- registry (own).
use Rattle.std.specs.Prelude.{◌≡◌, ◌≢◌, ◌<◌, ◌↔◌, IsTrue, IsFalse, List, [], ◌∷◌, None}
use Rattle.sector_disk.specs.Disk.{DiskFacts, AreCalls}
use Rattle.store.specs.Holds.{KeepsHeld, AreHolds}
use Rattle.store.specs.Opened.{Opened}
use Rattle.image.specs.Refusal.{program_refusal}
use Rattle.image.specs.declared.refusal.BindRefusal.TheVariants as binding
use Rattle.requests.specs.Request.{Request, install, replace, remove, set_preloads, bind, list}
use Rattle.requests.specs.declared.refusal.Refusal.{Refusal}
use Rattle.requests.specs.declared.refusal.Refusal.TheVariants.{Object, AlreadyInstalled, NotInstalled, InPreloads, RepeatedPreload, TooManyPreloads}
use Rattle.requests.specs.declared.refusal.Refusal.TheVariants.{Bind, Device, Reopen, Damaged, Full, Fragmented, TooMany, GenerationEnd, OutOfMemory}
use Rattle.requests.specs.declared.reply.Reply.{Reply}
use Rattle.requests.specs.declared.reply.Reply.TheVariants.{Done, Listing, Bound, Refused}

-- the refusals that any change may return
abbrev pub IsChangeRefusal : Refusal → Type 0
IsChangeRefusal Device = Unit
IsChangeRefusal Reopen = Unit
IsChangeRefusal NotInstalled = Unit
IsChangeRefusal GenerationEnd = Unit
IsChangeRefusal other = ⊥

-- the refusals of a replacement: those of any change, and those for which its file may be the
-- reason
abbrev pub IsReplaceRefusal : Refusal → Type 0
IsReplaceRefusal (Object refusal) = Unit
IsReplaceRefusal Full = Unit
IsReplaceRefusal Fragmented = Unit
IsReplaceRefusal OutOfMemory = Unit
IsReplaceRefusal other = IsChangeRefusal other

-- the refusals of an install
abbrev pub IsInstallRefusal : Refusal → Type 0
IsInstallRefusal NotInstalled = ⊥
IsInstallRefusal AlreadyInstalled = Unit
IsInstallRefusal TooMany = Unit
IsInstallRefusal other = IsReplaceRefusal other

-- the refusals of a removal
abbrev pub IsRemoveRefusal : Refusal → Type 0
IsRemoveRefusal InPreloads = Unit
IsRemoveRefusal other = IsChangeRefusal other

-- the refusals of setting the preloads
abbrev pub IsPreloadsRefusal : Refusal → Type 0
IsPreloadsRefusal TooManyPreloads = Unit
IsPreloadsRefusal RepeatedPreload = Unit
IsPreloadsRefusal other = IsChangeRefusal other

-- the refusals of a bind: B1 to B5, S1, S2, S5 and S11; S11 if memory is refused
abbrev pub IsBindRefusal : Refusal → Type 0
IsBindRefusal (Bind binding.OutOfMemory) = ⊥
IsBindRefusal (Bind refusal) = Unit
IsBindRefusal Device = Unit
IsBindRefusal Reopen = Unit
IsBindRefusal Damaged = Unit
IsBindRefusal OutOfMemory = Unit
IsBindRefusal other = ⊥

-- the refusals of a listing
abbrev pub IsListRefusal : Refusal → Type 0
IsListRefusal Reopen = Unit
IsListRefusal OutOfMemory = Unit
IsListRefusal other = ⊥

-- the answers to a change: Done, or a refusal that `Refuses` allows
abbrev pub IsChangeAnswer : (Refusal → Type 0) → Reply → Type 0
IsChangeAnswer Refuses Done = Unit {0}
IsChangeAnswer Refuses (Refused refusal) = Refuses refusal
IsChangeAnswer Refuses other = ⊥

-- the answers to a bind
abbrev pub IsBindAnswer : Reply → Type 0
IsBindAnswer (Bound image) = Unit {0}
IsBindAnswer (Refused refusal) = IsBindRefusal refusal
IsBindAnswer other = ⊥

-- the answers to a listing
abbrev pub IsListAnswer : Reply → Type 0
IsListAnswer (Listing listing) = Unit {0}
IsListAnswer (Refused refusal) = IsListRefusal refusal
IsListAnswer other = ⊥

-- the possible answers to a command
abbrev pub IsAnswerTo : Request → Reply → Type 0
IsAnswerTo (install bytes) = IsChangeAnswer IsInstallRefusal
IsAnswerTo (replace bytes) = IsChangeAnswer IsReplaceRefusal
IsAnswerTo (remove name) = IsChangeAnswer IsRemoveRefusal
IsAnswerTo (set_preloads names) = IsChangeAnswer IsPreloadsRefusal
IsAnswerTo (bind program base) = IsBindAnswer
IsAnswerTo list = IsListAnswer

-- The registry after a change. After Done, it can be used. After S1, it has to be opened again.
-- After any other refusal, it is unchanged.
abbrev pub ChangeLeaves : {D : Type 0} → Opened D → Opened D → Reply → Type 0
ChangeLeaves old new Done = IsFalse new.failed
ChangeLeaves old new (Refused refusal) = (refusal ≡ Device → IsTrue new.failed) × (refusal ≢ Device → new ≡ old)
ChangeLeaves old new other = Unit {0}

-- the root, the entries, the held byte strings and the flag whether a write or a sync failed are
-- unchanged
abbrev pub KeepsState : {D : Type 0} → Opened D → Opened D → Type 0
KeepsState old new = (new.root ≡ old.root) × (new.entries ≡ old.entries) × (new.held ≡ old.held) × (new.failed ≡ old.failed)

-- The registry after a command. After a change, it is as `ChangeLeaves` defines. After a bind, the
-- parts that `KeepsState` lists are unchanged, and everything is unchanged if a test of the program
-- without its libraries refuses it. After a listing, it is unchanged.
abbrev pub Leaves : {D : Type 0} → Opened D → Opened D → Request → Reply → Type 0
Leaves old new (bind program base) answer = KeepsState old new × (program_refusal program base ≢ None → new ≡ old)
Leaves old new list answer = new ≡ old
Leaves old new change answer = ChangeLeaves old new answer

-- On any disk, a command was answered with `answer`, and changed the registry from `old` to `new`.
pub record Did {D : Type 0} (facts : D → DiskFacts) (old new : Opened D) (request : Request) (answer : Reply) : Type 0 where
  -- The answer is S2 if and only if an earlier write or sync failed. In this case the command does
  -- nothing.
  pub reopen : (answer ≡ Refused Reopen) ↔ IsTrue old.failed
  pub failed : IsTrue old.failed → new ≡ old
  -- the answer is S1 only if a call of the disk failed
  pub device : answer ≡ Refused Device → (facts old.disk).failures < (facts new.disk).failures
  pub leaves : Leaves old new request answer
  -- each held byte string keeps the number of its holders and, on an honest disk, its bytes
  pub held : KeepsHeld facts old new
  -- before and after, each held byte string has one row; the row is marked as listed if and only if the
  -- state lists the byte string
  pub holds_before : AreHolds old
  pub holds_after : AreHolds new
  pub calls : AreCalls (facts old.disk) (facts new.disk)

-- the command had the effect that `Did` defines, and `answer` is one of its possible answers
pub record Answered {D : Type 0} (facts : D → DiskFacts) (old new : Opened D) (request : Request) (answer : Reply) : Type 0 where
  pub did : Did facts old new request answer
  pub answers : IsAnswerTo request answer

-- commands were answered one after the other, with one answer for each command
abbrev pub AreAnswered : {D : Type 0} → (D → DiskFacts) → Opened D → Opened D → List Request → List Reply → Type 0
AreAnswered facts old new [] [] = new ≡ old
AreAnswered facts old new (request ∷ requests) (answer ∷ answers) = (mid : Opened _)
    × Answered facts old mid request answer × AreAnswered facts mid new requests answers
AreAnswered facts old new requests answers = ⊥
