use Rattle.std.proofs.Common.{◌≡◌, ℕ, ◌-◌, ◌==◌, not, take, drop, length, arith, ap, ◌∙◌}
use Rattle.std.proofs.lemmas.List.{take_all, length-drop}
use Rattle.elf_dynamic.specs.Strings.{string_at}
use Rattle.elf_dynamic.proofs.StringEnds.{take_front, drop_min}
use Rattle.elf_dynamic.proofs.strings.string_at.Goals as goal

pub returns : goal.returns
unfolding string_at
returns c =
    let table = c.args.table.now in
    let at = c.min.result in
    let rest : take (length table - at) (drop at table) ≡ drop c.args.offset table =
    take_all (length table - at) (drop at table) (omega (arith, length-drop at table)) ∙ ap (λ (k : ℕ). drop k table) c.min.ensures ∙ drop_min c.args.offset table in
    rw (c.string_length.ensures, rest) (take_front (λ (b : ℕ). not (b == 0)) (drop c.args.offset table))
