use Rattle.std.proofs.Common.{◌≡◌, ℕ, ◌<◌, ◌-◌, ◌∷◌, List, [], length, arith, ap, sym, ◌∙◌, suc, zero, None}
use Rattle.std.specs.Prelude.{slice_get}
use Rattle.elf_file.specs.Segment.{loads}
use Rattle.elf_file.specs.declared.segment.ProgramHeader.{ProgramHeader}
use Rattle.elf_file.proofs.segments.Segments.nth.Goals as goal

absent : (xs : List ProgramHeader) (i : ℕ) → i < length xs → None ≡ slice_get xs i → ⊥
absent [] i lt h = absurd (omega (arith, lt))
absent (x ∷ xs) zero lt h = cc
absent (x ∷ xs) (suc i) lt h = absent xs i (omega (arith, lt)) h

pub returns-then-left-eq0 : goal.returns-then-left-eq0
returns-then-left-eq0 c =
    let it : List ProgramHeader = c.loop-segment.segment-iterator in
    sym c.loop-segment.invariant ∙ ap (slice_get it) c.if-left-eq0.true ∙ ap (λ (xs : List ProgramHeader). slice_get xs 0) c.in-Some.ensures.steps

pub loop-segment-preserved : goal.loop-segment-preserved
loop-segment-preserved c =
    let it : List ProgramHeader = c.loop-segment.segment-iterator in
    let n : ℕ = c.loop-segment.left - 1 in
    let e : c.loop-segment.left ≡ suc n = omega arith in
    sym (ap (slice_get it) e ∙ ap (λ (xs : List ProgramHeader). slice_get xs (suc n)) c.in-Some.ensures.steps) ∙ c.loop-segment.invariant

pub unreachable-requires : goal.unreachable-requires
unreachable-requires c =
    absent (loads c.args.self.now) c.args.i c.requires
    (sym (ap (λ (xs : List ProgramHeader). slice_get xs c.loop-segment.left) c.in-None.ensures.steps.0) ∙ c.loop-segment.invariant)
