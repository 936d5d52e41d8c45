use Rattle.std.proofs.Common.{◌≡◌, ℕ, ◌<◌, ◌-◌, ◌∷◌, List, [], length, arith, ap, sym, ◌∙◌, suc, zero, None, Some}
use Rattle.std.specs.Prelude.{slice_get}
use Rattle.elf_file.specs.Dynamic.{needed_offsets}
use Rattle.elf_dynamic.proofs.SymbolNumbers.{needed_counted, needed_numbered}
use Rattle.elf_dynamic.proofs.tables.Tables.needed.Goals as goal

absent : (xs : List ℕ) (i : ℕ) → i < length xs → None ≡ slice_get xs i → ⊥
absent [] i lt h = absurd (omega (arith, lt))
absent (x ∷ xs) zero lt h = cc
absent (x ∷ xs) (suc i) lt h = absent xs i (omega (arith, lt)) h

pub returns-then-left-eq0 : goal.returns-then-left-eq0
returns-then-left-eq0 c =
    let file : List ℕ = c.args.self.now in
    let it : List ℕ = c.loop-offset.offset-iterator in
    let table : List ℕ = c.string_table.result.now in
    let at = sym c.loop-offset.invariant ∙ ap (slice_get it) c.if-left-eq0.true ∙ ap (λ (xs : List ℕ). slice_get xs 0) c.in-Some.ensures.steps in
    needed_numbered file table c.args.i c.in-Some.offset c.string_table.ensures at ∙ ap (λ s. Some s) (sym c.string_at.ensures)

pub loop-offset-preserved : goal.loop-offset-preserved
loop-offset-preserved c =
    let it : List ℕ = c.loop-offset.offset-iterator in
    let n : ℕ = c.loop-offset.left - 1 in
    let e : c.loop-offset.left ≡ suc n = omega arith in
    sym (ap (slice_get it) e ∙ ap (λ (xs : List ℕ). slice_get xs (suc n)) c.in-Some.ensures.steps) ∙ c.loop-offset.invariant

pub unreachable-requires : goal.unreachable-requires
unreachable-requires c =
    absent (needed_offsets c.args.self.now) c.args.i (omega (arith, c.requires, needed_counted c.args.self.now))
    (sym (ap (λ (xs : List ℕ). slice_get xs c.loop-offset.left) c.in-None.ensures.steps.0) ∙ c.loop-offset.invariant)
