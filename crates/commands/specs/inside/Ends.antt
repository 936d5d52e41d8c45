-- The ends of the parts of a command.
use Rattle.std.specs.Prelude.{ℕ, List, Option, Some, None, ◌≡◌, ◌⊎◌, true, is_some}
use Rattle.std.specs.Io.KnownBytes.{Appends}
use Rattle.sector_disk.specs.Disk.{DiskFacts}
use Rattle.requests.specs.Request.{Request}
use Rattle.requests.specs.declared.reply.Reply.{Reply}
use Rattle.binders.specs.Slotted.{Slotted}
use Rattle.store.specs.declared.refusal.StoreRefusal.{StoreRefusal}
use Rattle.program_parts.specs.Refusal.{memory_text}
use Rattle.program_parts.specs.Reply.{reply_text}
use Rattle.program_parts.specs.Said.{AppendsFront}
use Rattle.program_parts.specs.Status.{reply_status}
use Rattle.program_parts.specs.Told.{IsTold}
use Rattle.program_parts.specs.declared.file.FileFault.{FileFault}
use Rattle.program_parts.specs.declared.file.FileFault.TheVariants.{CannotRead, OutOfMemory}
use Rattle.program_parts.specs.declared.status.Status.{Status}
use Rattle.program_parts.specs.declared.status.Status.TheVariants.{Done, Refused, BadWords, Failed, NoMemory}
use Rattle.commands.specs.Disk.{IsOpenRefusal, IsFormatRefusal, IsUpgradeRefusal}
use Rattle.commands.specs.OnDisk.{RunsOnDisk, BreaksOnDisk}
use Rattle.commands.specs.Outcome.{Replies, Makes, Upgrades, TurnsAway, Runs}
use Rattle.commands.specs.Printed.{PrintsImage, PrintsRefusal}
use Rattle.commands.specs.RunImage.{Shows}
use Rattle.commands.specs.Script.{Streams}
use Rattle.commands.specs.declared.disk.NoRegistry.{NoRegistry}
use Rattle.commands.specs.declared.disk.NoRegistry.TheVariants as no
use Rattle.commands.specs.declared.show.Shown.TheVariants as shown

-- the end of writing an image; `asked` is the base, or none if BASE isn't valid
abbrev pub ImageEnds : Option ℕ → Option (List ℕ) → Option (List ℕ) → Status → Type 0
ImageEnds asked before after Done = (base : ℕ) × (asked ≡ Some base) × PrintsImage base before after
ImageEnds asked before after Refused = (base : ℕ) × (asked ≡ Some base) × PrintsRefusal base before after
ImageEnds asked before after BadWords = (asked ≡ None) × (after ≡ before)
ImageEnds asked before after Failed = is_some asked ≡ true
ImageEnds asked before after NoMemory = (is_some asked ≡ true) × Appends before after memory_text

-- The text on standard error: nothing was written to it; or the output is unchanged, and standard
-- error has a prefix of the line for bad arguments, or a message about a file that can't be read.
abbrev pub IsSaid : List ℕ → Option (List ℕ) → Option (List ℕ) → Option (List ℕ) → Option (List ℕ) → Status → Type 0
IsSaid text before after errors errors' status = (errors' ≡ errors)
    ⊎ ((after ≡ before) × (((status ≡ BadWords) × AppendsFront errors errors' text) ⊎ (status ≡ Failed)))

-- the end of writing the image of a file's bytes at a base
abbrev pub IsShown : List ℕ → ℕ → Option (List ℕ) → Option (List ℕ) → Status → Type 0
IsShown file base before after Done = Shows file base before after shown.Image
IsShown file base before after Refused = Shows file base before after shown.Refused
IsShown file base before after BadWords = ⊥
IsShown file base before after Failed = Unit {0}
IsShown file base before after NoMemory = Shows file base before after shown.NoMemory

-- the end of a command whose file wasn't read
abbrev pub IsNotRead : FileFault → Option (List ℕ) → Option (List ℕ) → Status → Type 0
IsNotRead CannotRead before after status = (status ≡ Failed) × (after ≡ before)
IsNotRead OutOfMemory before after status = IsTold NoMemory memory_text before after status

-- the reason why there is no registry: a refusal that `MayRefuse` allows, or a file that can't be
-- opened
abbrev pub IsNoRegistry : (StoreRefusal → Type 0) → NoRegistry → Type 0
IsNoRegistry MayRefuse no.CannotOpen = Unit
IsNoRegistry MayRefuse (no.Refused refusal) = MayRefuse refusal

-- the end of a command if the registry on its disk can't be opened or made
abbrev pub IsTurnedAway : (StoreRefusal → Type 0) → Option (List ℕ) → Option (List ℕ) → Status → Type 0
IsTurnedAway MayRefuse before after Done = ⊥
IsTurnedAway MayRefuse before after Refused = TurnsAway MayRefuse Refused before after
IsTurnedAway MayRefuse before after BadWords = ⊥
IsTurnedAway MayRefuse before after Failed = Unit {0}
IsTurnedAway MayRefuse before after NoMemory = Appends before after memory_text

-- a reply was written, or the writer failed
abbrev pub IsWritten : Reply → Option (List ℕ) → Option (List ℕ) → Status → Type 0
IsWritten reply before after status = IsTold (reply_status reply) (reply_text reply) before after status

-- the end of a command on a disk, if `IsAsked` holds for its request
abbrev pub Replied : (Request → Type 0) → Option (List ℕ) → Option (List ℕ) → Status → Type 0
Replied IsAsked before after Done = Replies IsAsked Done before after
Replied IsAsked before after Refused = Replies IsAsked Refused before after ⊎ TurnsAway IsOpenRefusal Refused before after
Replied IsAsked before after BadWords = ⊥
Replied IsAsked before after Failed = Unit {0}
Replied IsAsked before after NoMemory = Appends before after memory_text

-- the end of a bind on a disk; `asked` is the base, or none if BASE isn't valid
abbrev pub BindEnds : Option ℕ → (Request → Type 0) → Option (List ℕ) → Option (List ℕ) → Status → Type 0
BindEnds asked IsAsked before after BadWords = (asked ≡ None) × (after ≡ before)
BindEnds asked IsAsked before after status = (is_some asked ≡ true) × Replied IsAsked before after status

-- the end of making a registry of `sectors` sectors
abbrev pub IsFormatted : ℕ → Option (List ℕ) → Option (List ℕ) → Status → Type 0
IsFormatted sectors before after Done = Makes sectors before after
IsFormatted sectors before after status = IsTurnedAway IsFormatRefusal before after status

-- the end of upgrading a registry
abbrev pub IsUpgradedOver : Option (List ℕ) → Option (List ℕ) → Status → Type 0
IsUpgradedOver before after Done = Upgrades before after
IsUpgradedOver before after status = IsTurnedAway IsUpgradeRefusal before after status

-- the end of a script over a registry with binders on a disk
abbrev pub IsRun : {D : Type 0} → (D → DiskFacts) → Streams → Slotted D → Slotted D → Status → Type 0
IsRun facts io old new status = RunsOnDisk facts io old new status ⊎ BreaksOnDisk facts io old new status

-- the end of a script over a disk
abbrev pub ScriptEnds : Streams → Status → Type 0
ScriptEnds io Done = Runs io Done
ScriptEnds io Refused = Runs io Refused ⊎ TurnsAway IsOpenRefusal Refused io.before io.after
ScriptEnds io BadWords = ⊥
ScriptEnds io Failed = Unit {0}
ScriptEnds io NoMemory = Runs io NoMemory ⊎ Appends io.before io.after memory_text
