use Rattle.std.proofs.Common.{◌≡◌, ◌-◌, ◌&&◌, ◌<◌, ℕ, Bool, true, false, Option, Some, None, if◌then◌else◌, nat_le, nat_lt, refl, sym, ◌∙◌, arith, length, vec_len}
use Rattle.std.specs.Cmp.Derive.{both_true}
use Rattle.std.proofs.lemmas.Bool.{eqb-false, lt-ltb, le-leb}
use Rattle.std.proofs.lemmas.Option.{none-some}
use Rattle.sector_disk.specs.Disk.{Sector, sector}
use Rattle.file_disk.proofs.write_buffer.WriteBuffer.is_empty.Goals as goal

-- if the test holds, there is an element
where_true : {X : Type 0} (b : Bool) (x : X) → b ≡ true → ◌≡◌ {A = Option X} (if b then Some x else None) (Some x)
where_true true x is = refl
where_true false x is = absurd cc

-- The first buffered sector is in the buffer.
pub returns-clause-some : goal.returns-clause-some
returns-clause-some g isnt = λ none.
    let write_buffer = g.args.self.now in
    let start : ℕ = write_buffer.start in
    let some : 0 < length write_buffer.contents.items = omega (arith, eqb-false (vec_len write_buffer.contents) 0 (sym g.is_empty.ensures ∙ isnt), write_buffer.contents.ok.0) in
    let first : Sector = sector write_buffer.contents.items (start - start) in
    let test : (nat_le start start && nat_lt (start - start) (length write_buffer.contents.items)) ≡ true =
    both_true (le-leb start start (omega arith)) (lt-ltb (start - start) (length write_buffer.contents.items) (omega (arith, some))) in
    none-some first (sym none ∙ where_true _ first test)
