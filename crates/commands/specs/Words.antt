-- The command that the arguments of a command line request (own).
use Rattle.std.specs.Prelude.{ℕ, List, [], ◌∷◌, Option, Some, None, map, string_bytes, if◌then◌else◌, bytes_eq, codes}
use Rattle.std.specs.Option.{option_map}
use Rattle.commands.specs.Sectors.{sectors_of}
use Rattle.commands.specs.declared.action.Action.{Action}
use Rattle.commands.specs.declared.action.Action.TheVariants as action

-- a command of the program, with its arguments in the order of the command line; SECTORS is a number
pub data CommandLine : Type 0 where
  image : List ℕ → List ℕ → CommandLine
  format : List ℕ → ℕ → CommandLine
  upgrade : List ℕ → CommandLine
  install : List ℕ → List ℕ → CommandLine
  replace : List ℕ → List ℕ → CommandLine
  remove : List ℕ → List ℕ → CommandLine
  preload : List ℕ → List (List ℕ) → CommandLine
  list : List ℕ → CommandLine
  bind : List ℕ → List ℕ → List ℕ → CommandLine
  script : List ℕ → CommandLine

-- a command with exactly one argument, which may be any word
abbrev pub of_one : (List ℕ → CommandLine) → List (List ℕ) → Option CommandLine
of_one command (a ∷ []) = Some (command a)
of_one command words = None

-- a command with exactly two arguments, which may be any words
abbrev pub of_two : (List ℕ → List ℕ → CommandLine) → List (List ℕ) → Option CommandLine
of_two command (a ∷ b ∷ []) = Some (command a b)
of_two command words = None

-- a command with exactly three arguments, which may be any words
abbrev pub of_three : (List ℕ → List ℕ → List ℕ → CommandLine) → List (List ℕ) → Option CommandLine
of_three command (a ∷ b ∷ c ∷ []) = Some (command a b c)
of_three command words = None

-- the command `format` with the arguments DISK SECTORS
abbrev pub format_behind : List (List ℕ) → Option CommandLine
format_behind (disk ∷ sectors ∷ []) = option_map (format disk) (sectors_of sectors)
format_behind words = None

-- the command `preload` with the arguments DISK and any number of NAMEs
abbrev pub preload_behind : List (List ℕ) → Option CommandLine
preload_behind (disk ∷ names) = Some (preload disk names)
preload_behind [] = None

-- the command that arguments request: the first argument is the command's name, and the others are
-- its own arguments
abbrev pub command_line : List (List ℕ) → Option CommandLine
command_line (name ∷ words) =
    if bytes_eq name (codes "image") then of_two image words
    else if bytes_eq name (codes "format") then format_behind words
    else if bytes_eq name (codes "upgrade") then of_one upgrade words
    else if bytes_eq name (codes "install") then of_two install words
    else if bytes_eq name (codes "replace") then of_two replace words
    else if bytes_eq name (codes "remove") then of_two remove words
    else if bytes_eq name (codes "preload") then preload_behind words
    else if bytes_eq name (codes "list") then of_one list words
    else if bytes_eq name (codes "bind") then of_three bind words
    else if bytes_eq name (codes "script") then of_one script words
    else None
command_line [] = None

-- the command line for a command that the code has read
abbrev pub line_of : Action → CommandLine
line_of (action.Image program base) = image program.now base.now
line_of (action.Format disk sectors) = format disk.now sectors
line_of (action.Upgrade disk) = upgrade disk.now
line_of (action.Install disk file) = install disk.now file.now
line_of (action.Replace disk file) = replace disk.now file.now
line_of (action.Remove disk name) = remove disk.now name.now
line_of (action.Preload disk names) = preload disk.now (map (λ name. string_bytes name) names.now)
line_of (action.List disk) = list disk.now
line_of (action.Bind disk program base) = bind disk.now program.now base.now
line_of (action.Script disk) = script disk.now
