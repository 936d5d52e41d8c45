-- Lemmas about the greater of two statuses.
use Rattle.std.proofs.Common.{◌≡◌, ◌≢◌, ℕ, Bool, true, false, cond, nat_lt, refl, subst, inl, inr}
use Rattle.binders.specs.declared.event.EventReply.{EventReply}
use Rattle.binders.specs.declared.event.EventReply.TheVariants as event
use Rattle.file_disk.specs.FileDisk.{file_facts, IsNew}
use Rattle.commands.specs.Disk.{IsOpenRefusal}
use Rattle.commands.specs.OnDisk.{DiskScriptEnds}
use Rattle.commands.specs.Opened.{SystemDisk}
use Rattle.commands.specs.Outcome.{Runs}
use Rattle.commands.specs.Script.{Streams}
use Rattle.commands.specs.declared.disk.NoRegistry.{NoRegistry}
use Rattle.commands.specs.declared.disk.NoRegistry.TheVariants as no
use Rattle.commands.specs.Status.{greatest, event_status, fault_status, lines_status}
use Rattle.program_parts.specs.Status.{status_number}
use Rattle.scripts.specs.declared.fault.ScriptFault.{ScriptFault}
use Rattle.scripts.specs.declared.fault.ScriptFault.TheVariants as fault
use Rattle.program_parts.specs.declared.status.Status.{Status}
use Rattle.program_parts.specs.declared.status.Status.TheVariants.{Done, Refused, BadWords, Failed, NoMemory}
use Rattle.commands.specs.inside.Ends.{IsNoRegistry, IsTurnedAway, ScriptEnds}
use Rattle.commands.proofs.Asking.{told_away}
use Rattle.commands.proofs.Ending.{reply_answers}

either : (b : Bool) (s t : Status) → s ≢ BadWords → t ≢ BadWords → cond b t s ≢ BadWords
either true s t hs ht = ht
either false s t hs ht = hs

-- if neither of two statuses is that of bad arguments, nor is the greater one
greatest_answers : (s t : Status) → s ≢ BadWords → t ≢ BadWords → greatest s t ≢ BadWords
greatest_answers s t hs ht = either (nat_lt (status_number s) (status_number t)) s t hs ht

event_answers : (r : EventReply) → event_status r ≢ BadWords
event_answers (event.Replied reply) h = reply_answers reply h
event_answers (event.Slot slot) h = cc
event_answers event.Going h = cc

pub watched_answers : (s : Status) (r : EventReply) → s ≢ BadWords → greatest s (event_status r) ≢ BadWords
watched_answers s r h = greatest_answers s (event_status r) h (event_answers r)

refused_answers : (b : Bool) → cond b Done Refused ≢ BadWords
refused_answers true h = cc
refused_answers false h = cc

lines_answers : (n : ℕ) → lines_status n ≢ BadWords
lines_answers n = refused_answers _

fault_answers : (f : ScriptFault) → fault_status f ≢ BadWords
fault_answers fault.Read h = cc
fault_answers fault.Write h = cc
fault_answers fault.OutOfMemory h = cc

-- the greater of a status and that of the lines, or of a fault, isn't that of bad arguments
pub after_lines : (s : Status) (n : ℕ) → s ≢ BadWords → greatest s (lines_status n) ≢ BadWords
after_lines s n h = greatest_answers s (lines_status n) h (lines_answers n)

pub after_fault : (s : Status) (f : ScriptFault) → s ≢ BadWords → greatest s (fault_status f) ≢ BadWords
after_fault s f h = greatest_answers s (fault_status f) h (fault_answers f)

-- if a script was run over a disk, `ScriptEnds` holds for the end of the command
run_ends : (io : Streams) (status : Status) → status ≢ BadWords → Runs io status → ScriptEnds io status
run_ends io Done words h = h
run_ends io Refused words h = inl h
run_ends io BadWords words h = absurd (words refl)
run_ends io Failed words h = tt
run_ends io NoMemory words h = inl h

-- if the disk was refused, and the refusal was written, `ScriptEnds` holds for the end of the command
away_ends : (io : Streams) (status : Status) → IsTurnedAway IsOpenRefusal io.before io.after status → ScriptEnds io status
away_ends io Done h = absurd h
away_ends io Refused h = inr h
away_ends io BadWords h = absurd h
away_ends io Failed h = tt
away_ends io NoMemory h = inr h

-- if a script over a new disk has ended, `ScriptEnds` holds for the end of the command
pub disk_script_ends : (disk left : SystemDisk) (io : Streams) (status : Status) → IsNew disk → status ≢ BadWords → DiskScriptEnds file_facts disk io status left → ScriptEnds io status
disk_script_ends disk left io status new words (inl h) = run_ends io status words (record { disk = disk; new = new; left = left; run = h })
disk_script_ends disk left io status new words (inr h) =
    away_ends io status (told_away io.before io.after IsOpenRefusal h.0 status ((file_facts disk).sectors, h.1.on_any_disk.ends.refusals) h.2)

pub away_script : (io : Streams) (why : NoRegistry) (status : Status) → IsNoRegistry IsOpenRefusal why
    → IsTurnedAway (λ r. why ≡ no.Refused r) io.before io.after status → ScriptEnds io status
away_script io why Done is h = absurd h
away_script io why Refused is h = inr (h.0, subst (IsNoRegistry IsOpenRefusal) h.1 is, h.2, h.3)
away_script io why BadWords is h = absurd h
away_script io why Failed is h = tt
away_script io why NoMemory is h = inr h
