-- The script that makes the same registry again (own).
use Rattle.std.specs.Prelude.{ℕ, List, [], ◌∷◌, ◌++◌, take, codes}
use Rattle.std.specs.List.{flat_map}
use Rattle.hex.specs.Hex.{encode_lower}
use Rattle.states.specs.State.{Library, State}
use Rattle.contents.specs.declared.finding.Finding.{Finding}
use Rattle.contents.specs.declared.finding.Finding.TheVariants.{Sound, Unreadable}
use Rattle.program_parts.specs.declared.status.Status.{Status}
use Rattle.program_parts.specs.declared.status.Status.TheVariants as status
use Rattle.tool_commands.specs.declared.form.Purpose.{Purpose}
use Rattle.tool_commands.specs.declared.form.Purpose.TheVariants.{Script, Update}

-- the line that installs a file with these bytes
abbrev pub install_line : List ℕ → List ℕ
install_line bytes = codes "install " ++ encode_lower bytes ++ codes "\n"

-- the line that installs a library
abbrev pub install_text : Library → List ℕ
install_text l = install_line l.bytes

-- a name with a space before it
abbrev pub behind_space : List ℕ → List ℕ
behind_space name = codes " " ++ name

-- the line that sets the preloads; empty if there are no preloads
abbrev pub preload_text : List (List ℕ) → List ℕ
preload_text [] = []
preload_text (name ∷ names) = codes "preload" ++ flat_map behind_space (name ∷ names) ++ codes "\n"

-- the script for the state `s`: a line that installs each library, in the order of the libraries, and
-- then the line that sets the preloads
abbrev pub dump_text : State → List ℕ
dump_text s = flat_map install_text s.libraries ++ preload_text s.preloads

-- the line `commit` if the script is for an update, and otherwise no bytes
abbrev pub commit_text : Purpose → List ℕ
commit_text Script = []
commit_text Update = codes "commit\n"

-- the text after the lines for the libraries: the preloads, and for an update also `commit`
abbrev pub last_text : Purpose → List (List ℕ) → List ℕ
last_text Script preloads = preload_text preloads
last_text Update preloads = preload_text preloads ++ commit_text Update

-- the script for this purpose: `dump_text`, followed by `commit` for an update
abbrev pub script_text : Purpose → State → List ℕ
script_text purpose s = flat_map install_text s.libraries ++ last_text purpose s.preloads

-- the script that is cut after the first `k` libraries: it ends with `cut`, without a newline
abbrev pub cut_text : State → ℕ → List ℕ
cut_text s k = flat_map install_text (take k s.libraries) ++ codes "cut"

-- the status for a script that is cut at a library with this finding
abbrev pub cut_status : Finding → Status
cut_status Sound = status.Done
cut_status Unreadable = status.Failed
cut_status finding = status.Refused
