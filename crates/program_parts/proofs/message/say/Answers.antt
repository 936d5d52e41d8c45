use Rattle.std.proofs.Common.{◌≡◌, ℕ, ◌+◌, ◌-◌, ◌≤◌, List, Option, length, take, drop, length-drop, sym, subst, arith}
use Rattle.std.specs.Io.KnownBytes.{Appends, Keeps}
use Rattle.std.proofs.KnownBytes.{Appends-kept, Appends-trans}
use Rattle.std.proofs.Math.Seq.{take-add}
use Rattle.std.proofs.lemmas.List.{take_all}
use Rattle.program_parts.proofs.message.say.Goals as goal
use Rattle.program_parts.proofs.message.say.Goals.{in-Ok, in-Err}

-- if as many bytes as the rest of a line has are taken from it, they are the whole rest
rest_of : (line : List ℕ) (g : ℕ) → take (length line - g) (drop g line) ≡ drop g line
rest_of line g = take_all (length line - g) (drop g line) (omega (arith, length-drop g line))

-- if a prefix of the line was appended, and then n bytes of the rest, a longer prefix was appended
longer : (a b c : Option (List ℕ)) (line : List ℕ) (g n g' : ℕ) → g ≤ length line → Appends a b (take g line) → n ≤ length (take (length line - g) (drop g line))
    → Appends b c (take n (take (length line - g) (drop g line))) → g' ≡ g + n → (g' ≤ length line) × Appends a c (take g' line)
longer a b c line g n g' le front most more is =
    let most' : n ≤ length (drop g line) = subst (λ (l : List ℕ). n ≤ length l) (rest_of line g) most in
    let more' : Appends b c (take n (drop g line)) = subst (λ (l : List ℕ). Appends b c (take n l)) (rest_of line g) more in (
      omega (arith, le, most', is, length-drop g line),
      subst (λ (k : ℕ). Appends a c (take k line)) (sym is) (subst (λ (l : List ℕ). Appends a c l) (sym (take-add g n line)) (Appends-trans a b c (take g line) (take n (drop g line)) front more')),
    )

-- if a prefix of the line was appended, and then nothing, the same prefix was appended
as_long : (a b c : Option (List ℕ)) (line : List ℕ) (g g' : ℕ) → g ≤ length line → Appends a b (take g line) → Keeps b c → g' ≡ g → (g' ≤ length line) × Appends a c (take g' line)
as_long a b c line g g' le front keeps is =
    subst (λ (k : ℕ). (k ≤ length line) × Appends a c (take k line)) (sym is) (le, Appends-kept a b c (take g line) front keeps)

pub loop-preserved : goal.loop-preserved
loop-preserved g c =
    elim c.match-write.branch [
      | in-Ok w ↦ longer _ (g.E.Write.contents c.loop.errors) _ c.args.line.now c.loop.given w.in-Ok.count _ c.loop.invariant.0 c.loop.invariant.1
          w.in-Ok.ensures.bound w.in-Ok.ensures.bytes w.given-is
      | in-Err w ↦ as_long _ (g.E.Write.contents c.loop.errors) _ c.args.line.now c.loop.given _ c.loop.invariant.0 c.loop.invariant.1 w.in-Err.ensures.bytes w.given-is
    ]
