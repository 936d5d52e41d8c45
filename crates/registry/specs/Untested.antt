-- The effect of a command on a registry whose files weren't tested when it was opened. Such a
-- registry has named byte strings, which needn't be libraries (own).
use Rattle.std.specs.Prelude.{◌≡◌, ℕ, List, All, drop, IsFalse, None}
use Rattle.sector_disk.specs.Disk.{DiskFacts}
use Rattle.scope.specs.LoadOrder.{load_order}
use Rattle.image.specs.Refusal.{program_refusal}
use Rattle.states.specs.State.{State}
use Rattle.store.specs.Opened as store
use Rattle.store.specs.Opened.{Opened}
use Rattle.store.specs.Stands as sectors
use Rattle.requests.specs.Binding.{objects, preload_numbers}
use Rattle.requests.specs.Library.{IsLibrary}
use Rattle.requests.specs.Phase.{Phase}
use Rattle.requests.specs.Request.{Request, bind}
use Rattle.requests.specs.Step.{Step, Leads}
use Rattle.requests.specs.declared.refusal.Refusal.TheVariants.{Bind, Damaged}
use Rattle.requests.specs.declared.reply.Reply.{Reply}
use Rattle.requests.specs.declared.reply.Reply.TheVariants.{Bound, Refused}
use Rattle.registry.specs.Applied.{AppliedBy}

-- each file that a bind of the program reads is a library with its own name; these are the files
-- after the program in the load order
abbrev pub ReadsLibraries : State → List ℕ → Type 0
ReadsLibraries s program = All (λ o. IsLibrary (record { name = o.name; bytes = o.file })) (drop 1 (load_order program (objects s) (preload_numbers s)))

-- the answer is one that a bind can return only after it has read all files of the load order: an
-- image, or B3 to B5
abbrev pub ComesBehindReading : List ℕ → ℕ → Reply → Type 0
ComesBehindReading program base (Bound image) = Unit {0}
ComesBehindReading program base (Refused (Bind refusal)) = program_refusal program base ≡ None
ComesBehindReading program base answer = ⊥

-- The step table determines the answers to a change and to a listing, and to a bind if each file
-- that it reads is a library. If one of these files isn't a library, the bind returns S5, or an
-- answer that is possible before all files are read.
abbrev pub UntestedStep : Phase → Request → Reply → Phase → Type 0
UntestedStep p (bind program base) (Refused Damaged) p' =
    IsFalse p.failed × (program_refusal program base ≡ None) × (ReadsLibraries p.state program → ⊥) × Leads p p.state p'
UntestedStep p (bind program base) answer p' =
    Step p (bind program base) answer p' × (ComesBehindReading program base answer → ReadsLibraries p.state program)
UntestedStep p request answer p' = Step p request answer p'

-- the command was answered with `answer`, and changed the byte strings from s to s'
abbrev pub AppliedUntested : {D : Type 0} → (D → DiskFacts) → Opened D → Opened D → State → State → Request → Reply → Type 0
AppliedUntested facts old new s s' request answer = AppliedBy sectors.Stands UntestedStep facts (store.IsAt facts) old new s s' request answer

-- `AppliedUntested` holds for some byte strings after the command
abbrev pub AppliesUntested : {D : Type 0} → (D → DiskFacts) → Opened D → Opened D → State → Request → Reply → Type 0
AppliesUntested facts old new s request answer = (s' : State) × AppliedUntested facts old new s s' request answer
