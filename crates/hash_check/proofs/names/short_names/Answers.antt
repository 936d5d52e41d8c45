use Rattle.std.proofs.Common.{◌∙◌, ◌∷◌, ◌++◌, ◌<◌, ℕ, List, [], length, map, take, ap, sym, arith}
use Rattle.std.proofs.lemmas.List.{map_more}
use Rattle.elf_dynamic.specs.Strings.{name_of}
use Rattle.hash_check.proofs.names.short_names.Goals as goal

pub loop-symbol-preserved : goal.loop-symbol-preserved
loop-symbol-preserved c =
    let file : List ℕ = c.args.object.now in
    let xs : List ℕ = c.args.symbols.now in
    let k : ℕ = c.loop-symbol.symbol-index in
    let lt : c.loop-symbol.symbol-index < length c.args.symbols.now = omega arith in
    record {
      names = c.push_reserved.ensures.items ∙ ap (λ (l : List (List ℕ)). l ++ c.new.result ∷ []) c.loop-symbol.invariant.names
          ∙ ap (λ (n : List ℕ). map (name_of file) (take k xs) ++ n ∷ []) (c.new.ensures ∙ c.name_of-name.ensures.name) ∙ sym (map_more (name_of file) xs k 0 lt);
      len = omega (arith, c.push_reserved.ensures.len, c.loop-symbol.invariant.len);
      room = omega (arith, c.push_reserved.ensures.capacity, c.loop-symbol.invariant.room);
    }
