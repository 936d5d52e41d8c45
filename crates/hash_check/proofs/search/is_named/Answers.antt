use Rattle.std.proofs.Common.{◌≡◌, ◌+◌, ◌∙◌, ℕ, true, false, List, length, take, ap, sym, refl}
use Rattle.std.specs.Str.{bytes_eq}
use Rattle.std.proofs.lemmas.Slice.Eq.{bytes_eq-Decides}
use Rattle.elf_dynamic.specs.Strings.{string_table, string_at, name_of}
use Rattle.hash_check.proofs.Fronts.{front_tells}
use Rattle.hash_check.proofs.NameLengths.{name-by-symbol}
use Rattle.hash_check.proofs.search.is_named.Goals as goal

pub returns-then-not-may_end : goal.returns-then-not-may_end
returns-then-not-may_end c =
    let file : List ℕ = c.args.object.now in
    let name : List ℕ = c.args.name.now in
    let is : name_of file c.args.i ≡ string_at (string_table file) c.symbol.result.name = name-by-symbol file c.args.i c.symbol.result c.requires c.symbol.ensures.symbol in
    let other : bytes_eq (name_of file c.args.i) name ≡ true → ⊥ =
    λ e. c.may_end.ensures c.if-not-may_end.true
    (ap (λ t. length (string_at t c.symbol.result.name)) c.string_table-table.ensures.table ∙ ap length (sym is) ∙ ap length ((bytes_eq-Decides (name_of file c.args.i) name).0 e)) in
    elim (bytes_eq (name_of file c.args.i) name) as (λ b. bytes_eq (name_of file c.args.i) name ≡ b → false ≡ b) [ true ↦ λ e. absurd (other e) | false ↦ λ e. refl ] refl

pub returns : goal.returns
returns c =
    let file : List ℕ = c.args.object.now in
    let name : List ℕ = c.args.name.now in
    let is : name_of file c.args.i ≡ string_at (string_table file) c.symbol.result.name = name-by-symbol file c.args.i c.symbol.result c.requires c.symbol.ensures.symbol in
    let front : c.string_front.result.now ≡ take (length name + 1) (name_of file c.args.i) =
    c.string_front.ensures ∙ ap (λ t. take (length name + 1) (string_at t c.symbol.result.name)) c.string_table-table.ensures.table ∙ ap (take (length name + 1)) (sym is) in
    c.eq.ensures ∙ ap (λ f. bytes_eq f name) front ∙ front_tells (name_of file c.args.i) name
