-- The messages of a command line on standard error (own).
use Rattle.std.specs.Prelude.{ℕ, List, Option, Some, None, codes}
use Rattle.commands.specs.Words.{CommandLine}

-- the line for arguments that aren't a command
abbrev pub words_text : List ℕ
words_text = codes "rlibreg: bad command line\n"

-- the line for a BASE that isn't valid
abbrev pub base_text : List ℕ
base_text = codes "rlibreg: bad base\n"

-- the line for arguments that are refused with status 2
abbrev pub bad_text : Option CommandLine → List ℕ
bad_text None = words_text
bad_text (Some line) = base_text
