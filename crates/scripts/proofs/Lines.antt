-- Lemmas about a line and its newline, and about the bytes that are read from a text.
use Rattle.std.proofs.Common.{◌≡◌, ◌≢◌, ℕ, ◌-◌, ◌<◌, List, [], ◌∷◌, ◌++◌, length, length-append, length-take}
use Rattle.std.proofs.Common.{Option, None, Some, IfSome, sym, ap, subst, ◌∙◌, arith, take}
use Rattle.std.specs.Io.{StopsAt}
use Rattle.std.specs.Io.KnownBytes.{Consumes}
use Rattle.std.proofs.Math.Seq.{take-append_seam}
use Rattle.std.proofs.lemmas.List.{get_or-take}
use Rattle.scripts.specs.Line.{IsLine, ended}
use Rattle.scripts.specs.Reading.{IsAll}

-- if `bs` was read and `rest` is all that is left, the text was `bs` and then `rest`
pub rest_known : (known now : Option (List ℕ)) (bs rest : List ℕ) → Consumes known now bs → IsAll now rest → IsAll known (bs ++ rest)
rest_known None now bs rest read all = tt
rest_known (Some xs) None bs rest read all = absurd read
rest_known (Some xs) (Some ys) bs rest read all = read ∙ ap (λ l. bs ++ l) all

-- if `bs` and `part` were read, the text begins with them
pub front_known : (known now : Option (List ℕ)) (bs part : List ℕ) → Consumes known now (bs ++ part) → IfSome known (λ text. (others : List ℕ) × (text ≡ bs ++ part ++ others))
front_known None now bs part read = tt
front_known (Some xs) None bs part read = absurd read
front_known (Some xs) (Some ys) bs part read = (ys, read)

-- a line without its newline has no newline before its last byte
pub stops_line : (line : List ℕ) → IsLine line → StopsAt line 10
stops_line line whole k d lt =
    let short : k < length line = omega (arith, lt, length-take (length line - 1) line) in
    let under : k < length line - 1 = omega (arith, lt, length-take (length line - 1) line) in
    subst (λ b. b ≢ 10) (sym (get_or-take (length line - 1) line k d under)) (whole k d short)

-- a line with its newline has no newline before its last byte
pub stops_ended : (line : List ℕ) → IsLine line → StopsAt (ended line) 10
stops_ended line whole =
    let short : length (ended line) - 1 ≡ length line = omega (arith, length-append line (10 ∷ [])) in
    subst IsLine (sym (ap (λ k. take k (ended line)) short ∙ take-append_seam line (10 ∷ []))) whole
