use Rattle.std.proofs.Common.{◌-◌, ◌∙◌, ap, List, ℕ, length, take, drop}
use Rattle.std.proofs.lemmas.List.{take_min, take_rest, drop_min}
use Rattle.hash_check.specs.inside.Names.{stretch_bytes}
use Rattle.hash_check.proofs.strings.stretch_bytes.Goals as goal

pub returns : goal.returns
unfolding stretch_bytes
returns c =
    let table : List ℕ = c.string_table-table.result.now in
    let m : ℕ = c.min.result in
    let n : ℕ = c.args.stretch.length in
    let rest : List ℕ = take (length c.string_table-table.result.now - c.min.result) (drop c.min.result c.string_table-table.result.now) in
    ap (λ k. take k rest) c.min-2.ensures ∙ take_min n rest
    ∙ ap (take n) (take_rest table m ∙ ap (λ o. drop o table) c.min.ensures ∙ drop_min c.args.stretch.from table ∙ ap (drop c.args.stretch.from) c.string_table-table.ensures.table)
