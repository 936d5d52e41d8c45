-- The meaning of the program's statuses for a command line (own).
use Rattle.std.specs.Prelude.{◌≡◌, ◌≢◌, ◌⊎◌, ◌<◌, ℕ, List, length, Option, Some, None, Bool, true, false, is_none, codes}
use Rattle.std.specs.Io.KnownBytes.{Appends}
use Rattle.std.specs.declared.io.ErrorKind.{ErrorKind}
use Rattle.std.specs.declared.io.ErrorKind.TheVariants.{OutOfMemory}
use Rattle.requests.specs.Request.{Request}
use Rattle.requests.specs.Request as request
use Rattle.requests.specs.declared.reply.Reply.{Reply}
use Rattle.store.specs.Opened.{Opened}
use Rattle.store.specs.declared.refusal.StoreRefusal.{StoreRefusal}
use Rattle.file_disk.specs.FileDisk.{file_facts, IsNew}
use Rattle.program_parts.specs.Base.{base_of}
use Rattle.program_parts.specs.File.{read_limit}
use Rattle.program_parts.specs.Refusal.{disk_refusal_text, memory_text}
use Rattle.program_parts.specs.Reply.{reply_text}
use Rattle.program_parts.specs.Said.{AppendsFront}
use Rattle.program_parts.specs.Status.{disk_status, reply_status, status_number}
use Rattle.program_parts.specs.Streams.{Streams}
use Rattle.program_parts.specs.Told.{IsTold}
use Rattle.program_parts.specs.declared.status.Status.{Status}
use Rattle.program_parts.specs.declared.status.Status.TheVariants.{Done, Refused, BadWords, Failed, NoMemory}
use Rattle.commands.specs.Disk.{IsOpenRefusal, IsFormatRefusal, IsUpgradeRefusal}
use Rattle.commands.specs.OnDisk.{IsAnswered, IsScripted}
use Rattle.commands.specs.Opened.{SystemDisk, IsMade, IsUpgraded}
use Rattle.commands.specs.Printed.{PrintsImage, PrintsRefusal}
use Rattle.commands.specs.Said.{bad_text}
use Rattle.commands.specs.Script as work
use Rattle.commands.specs.Words.{CommandLine, image, format, upgrade, install, replace, remove, preload, list, bind, script}

-- the arguments are refused with status 2 before any file is opened: they aren't a command, or BASE
-- isn't valid
abbrev pub are_bad : Option CommandLine → Bool
are_bad (Some (image program base)) = is_none (base_of base)
are_bad (Some (bind disk program base)) = is_none (base_of base)
are_bad (Some line) = false
are_bad None = true

-- the arguments are the command `script`, which reads standard input
abbrev pub reads_input : Option CommandLine → Bool
reads_input (Some (script disk)) = true
reads_input line = false

-- The command makes the request `asked` to a registry on a disk. The request has the NAMEs and the BASE
-- of the command, and the bytes of some file.
abbrev pub Asks : CommandLine → Request → Type 0
Asks (install disk file) asked = (bytes : List ℕ) × (length bytes < read_limit) × (asked ≡ request.install bytes)
Asks (replace disk file) asked = (bytes : List ℕ) × (length bytes < read_limit) × (asked ≡ request.replace bytes)
Asks (remove disk name) asked = asked ≡ request.remove name
Asks (preload disk names) asked = asked ≡ request.set_preloads names
Asks (list disk) asked = asked ≡ request.list
Asks (bind disk program base) asked = (bytes : List ℕ) × (at : ℕ) × (length bytes < read_limit)
    × (base_of base ≡ Some at) × (asked ≡ request.bind bytes at)
Asks line asked = ⊥

-- A registry that was opened on a new disk over a file got a request for which `IsAsked` holds, and
-- exactly its reply was appended.
pub record Replies (IsAsked : Request → Type 0) (status : Status) (before after : Option (List ℕ)) : Type 0 where
  pub asked : Request
  pub is_asked : IsAsked asked
  pub disk : SystemDisk
  pub new : IsNew disk
  pub reply : Reply
  pub left : SystemDisk
  pub answered : IsAnswered file_facts disk asked reply left
  pub ends : reply_status reply ≡ status
  pub written : Appends before after (reply_text reply)

-- A registry of `sectors` sectors was made on a disk over a file, and exactly `ok` was appended.
pub record Makes (sectors : ℕ) (before after : Option (List ℕ)) : Type 0 where
  pub disk : SystemDisk
  pub new : Opened SystemDisk
  pub made : IsMade sectors disk new
  pub written : Appends before after (codes "ok\n")

-- A registry was opened or upgraded on a disk over a file, and exactly `ok` was appended.
pub record Upgrades (before after : Option (List ℕ)) : Type 0 where
  pub disk : SystemDisk
  pub new : Opened SystemDisk
  pub upgraded : IsUpgraded disk new
  pub written : Appends before after (codes "ok\n")

-- the only appended text is the line that reports why the registry can't be made or opened on a disk
abbrev pub TurnsAway : (StoreRefusal → Type 0) → Status → Option (List ℕ) → Option (List ℕ) → Type 0
TurnsAway MayRefuse status before after = (refusal : StoreRefusal) × MayRefuse refusal
    × (disk_status refusal ≡ status) × Appends before after (disk_refusal_text refusal)

-- a script was run over a new disk over a file; with status 0 or 1, the script was run to its end
pub record Runs (io : work.Streams) (status : Status) : Type 0 where
  pub disk : SystemDisk
  pub new : IsNew disk
  pub left : SystemDisk
  pub run : IsScripted file_facts disk io status left

-- status 0: the command of the arguments was carried out
abbrev pub IsDone : Option CommandLine → work.Streams → Type 0
IsDone (Some (image program base)) io = (b : ℕ) × (base_of base ≡ Some b) × PrintsImage b io.before io.after
IsDone (Some (format disk sectors)) io = Makes sectors io.before io.after
IsDone (Some (upgrade disk)) io = Upgrades io.before io.after
IsDone (Some (script disk)) io = Runs io Done
IsDone (Some line) io = Replies (Asks line) Done io.before io.after
IsDone None io = ⊥

-- status 1: the command of the arguments was refused
abbrev pub IsRefused : Option CommandLine → work.Streams → Type 0
IsRefused (Some (image program base)) io = (b : ℕ) × (base_of base ≡ Some b) × PrintsRefusal b io.before io.after
IsRefused (Some (format disk sectors)) io = TurnsAway IsFormatRefusal Refused io.before io.after
IsRefused (Some (upgrade disk)) io = TurnsAway IsUpgradeRefusal Refused io.before io.after
IsRefused (Some (script disk)) io = Runs io Refused ⊎ TurnsAway IsOpenRefusal Refused io.before io.after
IsRefused (Some line) io = Replies (Asks line) Refused io.before io.after ⊎ TurnsAway IsOpenRefusal Refused io.before io.after
IsRefused None io = ⊥

-- status 4: memory was refused, possibly for a line of a script or for a reply to a line
abbrev pub LacksMemory : Option CommandLine → work.Streams → Type 0
LacksMemory (Some (script disk)) io = Runs io NoMemory ⊎ Appends io.before io.after memory_text
LacksMemory (Some line) io = Appends io.before io.after memory_text
LacksMemory None io = ⊥

-- The meaning of a status. With 0, the command was carried out. With 1, it was refused. With 2, the
-- arguments were refused. With 3, the disk, a file or a stream failed. With 4, memory was refused.
abbrev pub CommandEnds : Option CommandLine → work.Streams → Status → Type 0
CommandEnds line io Done = (are_bad line ≡ false) × IsDone line io
CommandEnds line io Refused = (are_bad line ≡ false) × IsRefused line io
CommandEnds line io BadWords = (are_bad line ≡ true) × (io.after ≡ io.before)
CommandEnds line io Failed = are_bad line ≡ false
CommandEnds line io NoMemory = (are_bad line ≡ false) × LacksMemory line io

-- the standard input and the standard output
abbrev pub work_of : Streams → work.Streams
work_of io = record { unread = io.unread; before = io.before; after = io.after }

-- The command of the arguments ends with this status. With status 2, at most a prefix of one line is
-- written to standard error.
abbrev pub IsEnd : Option CommandLine → Streams → Status → Type 0
IsEnd line io status = CommandEnds line (work_of io) status
    × (status ≡ BadWords → AppendsFront io.errors_before io.errors_after (bad_text line))

-- the command of the arguments ends with the status whose number is `number`; the process exits with
-- this number
abbrev pub LineEnds : Option CommandLine → Streams → ℕ → Type 0
LineEnds line io number = (status : Status) × IsEnd line io status × (number ≡ status_number status)

-- The end of the program if its arguments couldn't be read. If memory was refused, exactly the line
-- for refused memory is written, or the output failed. After any other error, the program ends in
-- the same way as for arguments that aren't a command.
abbrev pub UnreadEnds : ErrorKind → Streams → ℕ → Type 0
UnreadEnds why io number =
    (why ≡ OutOfMemory → (status : Status) × IsTold NoMemory memory_text io.before io.after status × (number ≡ status_number status))
    × (why ≢ OutOfMemory → LineEnds None io number)
