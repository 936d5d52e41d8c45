-- The forms of a command line's arguments (own).
use Rattle.std.specs.Prelude.{ℕ, List, [], ◌∷◌, map, Bool, true, false, Option, Some, None, Result, Ok, Err, Vec, String, string_bytes, if◌then◌else◌, bytes_eq, codes}
use Rattle.std.specs.Option.{option_map}
use Rattle.program_parts.specs.Base.{base_of}
use Rattle.tool_commands.specs.declared.form.Action.{Action}
use Rattle.tool_commands.specs.declared.form.Action.TheVariants as action
use Rattle.tool_commands.specs.declared.form.Asked.{Asked}
use Rattle.tool_commands.specs.declared.form.Form.{Form}
use Rattle.tool_commands.specs.declared.form.Form.TheVariants as form
use Rattle.tool_commands.specs.declared.form.Purpose.{Purpose}
use Rattle.tool_commands.specs.declared.form.Purpose.TheVariants.{Script, Update}

-- A question about a disk. `file` has the name of a library, and `dump` has the purpose of the script.
pub data Question : Type 0 where
  info : Question
  check : Question
  digest : Question
  file : List ℕ → Question
  dump : Purpose → Question

-- An action on a disk: answer a question; replace a library by the file at a path; remove a library
-- by its name; run an update; write the executable file of the program at a path; or report the
-- bindings of that program's symbols.
pub data Deed : Type 0 where
  tell : Question → Deed
  replace : List ℕ → Deed
  remove : List ℕ → Deed
  update : Deed
  executable : List ℕ → ℕ → Deed
  bindings : List ℕ → ℕ → Deed

-- a command line: the path of the disk, and the action on the disk
pub record CommandLine : Type 0 where
  pub disk : List ℕ
  pub deed : Deed

-- the command line if DISK is the only argument
abbrev pub of_one : Deed → List (List ℕ) → Option CommandLine
of_one deed (disk ∷ []) = Some (record { disk = disk; deed = deed })
of_one deed words = None

-- the purpose of a dump for the argument after DISK, or none if it isn't `commit`
abbrev pub purpose_of : List ℕ → Option Purpose
purpose_of word = if bytes_eq word (codes "commit") then Some Update else None

-- the command line of a dump if the arguments are DISK, or DISK `commit`
abbrev pub of_dump : List (List ℕ) → Option CommandLine
of_dump (disk ∷ []) = Some (record { disk = disk; deed = tell (dump Script) })
of_dump (disk ∷ word ∷ []) = option_map (λ purpose. record { disk = disk; deed = tell (dump purpose) }) (purpose_of word)
of_dump words = None

-- the command line if the arguments are DISK and one other argument
abbrev pub of_two : (List ℕ → Deed) → List (List ℕ) → Option CommandLine
of_two deed (disk ∷ word ∷ []) = Some (record { disk = disk; deed = deed word })
of_two deed words = None

-- the command line if the arguments are DISK PROGRAM BASE
abbrev pub of_program : (List ℕ → ℕ → Deed) → List (List ℕ) → Option CommandLine
of_program deed (disk ∷ program ∷ base ∷ []) = option_map (λ at. record { disk = disk; deed = deed program at }) (base_of base)
of_program deed words = None

-- the command line for these arguments, the first of which is the form's name
abbrev pub command_line : List (List ℕ) → Option CommandLine
command_line (name ∷ words) =
    if bytes_eq name (codes "info") then of_one (tell info) words
    else if bytes_eq name (codes "check") then of_one (tell check) words
    else if bytes_eq name (codes "digest") then of_one (tell digest) words
    else if bytes_eq name (codes "file") then of_two (λ name. tell (file name)) words
    else if bytes_eq name (codes "dump") then of_dump words
    else if bytes_eq name (codes "replace") then of_two replace words
    else if bytes_eq name (codes "remove") then of_two remove words
    else if bytes_eq name (codes "update") then of_one update words
    else if bytes_eq name (codes "executable") then of_program executable words
    else if bytes_eq name (codes "bindings") then of_program bindings words
    else None
command_line [] = None

-- the question for a form that the code has read
abbrev pub question_of : Form → Question
question_of form.Info = info
question_of form.Check = check
question_of form.Digest = digest
question_of (form.File name) = file name.now
question_of (form.Dump purpose) = dump purpose

-- the deed of an action that the code has read
abbrev pub deed_of : Action → Deed
deed_of (action.Tell form) = tell (question_of form)
deed_of (action.Replace path) = replace path.now
deed_of (action.Remove name) = remove name.now
deed_of action.Update = update
deed_of (action.Executable program base) = executable program.now base
deed_of (action.Bindings program base) = bindings program.now base

-- the command line that the code has read
abbrev pub line_of : Asked → CommandLine
line_of asked = record { disk = asked.disk.now; deed = deed_of asked.action }

-- the form reads the input
abbrev pub reads_input : Deed → Bool
reads_input update = true
reads_input deed = false

-- the arguments are a command line, and `is_such` is true for its deed
abbrev pub asks_for : (Deed → Bool) → Option CommandLine → Bool
asks_for is_such (Some line) = is_such line.deed
asks_for is_such None = false

-- the command line for the arguments of the process, or none if the arguments couldn't be read
abbrev pub line_read : {A Z E : Type 0} → Result (Vec (String A) Z) E → Option CommandLine
line_read (Ok words) = command_line (map (λ word. string_bytes word) words.items)
line_read (Err e) = None
