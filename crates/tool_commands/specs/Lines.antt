-- Texts with a line for each library (own).
use Rattle.std.specs.Prelude.{ℕ, List, [], ◌∷◌, ◌++◌}
use Rattle.states.specs.State.{Library}

-- the texts of the libraries, one after the other, in the order of the libraries; the text of
-- library number `i` depends on item number `i` of the second list
abbrev pub lines_of : {T : Type 0} → (Library → T → List ℕ) → List Library → List T → List ℕ
lines_of text (l ∷ libraries) (known ∷ all) = text l known ++ lines_of text libraries all
lines_of text libraries all = []
