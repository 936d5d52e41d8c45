-- A line of a script, and the texts for lines that aren't run (own).
use Rattle.std.specs.Prelude.{◌≢◌, ℕ, List, [], ◌∷◌, ◌++◌, All, codes}
use Rattle.scripts.specs.declared.line_refusal.LineRefusal.{LineRefusal}
use Rattle.scripts.specs.declared.line_refusal.LineRefusal.TheVariants.{BadLine, CutLine}

-- none of these bytes is a newline
abbrev pub IsLine : List ℕ → Type 0
IsLine bytes = All (λ b. b ≢ 10) bytes

-- a line with its newline
abbrev pub ended : List ℕ → List ℕ
ended line = line ++ 10 ∷ []

-- the text that is written for a line that isn't run
abbrev pub line_refusal_text : LineRefusal → List ℕ
line_refusal_text BadLine = codes "refused L1 BadLine\n"
line_refusal_text CutLine = codes "refused L2 CutLine\n"
