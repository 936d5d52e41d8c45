use Rattle.std.proofs.Common.{◌∙◌, ◌∷◌, ◌++◌, ◌<◌, ◌≤◌, ℕ, List, [], length, map, take, get_or, ap, sym, arith, append_assoc}
use Rattle.std.proofs.lemmas.List.{map_more, take_all}
use Rattle.hash_check.specs.declared.numbered.NumberedSymbol.{NumberedSymbol}
use Rattle.hash_check.specs.inside.Numbered.{unnumbered}
use Rattle.hash_check.proofs.numbered.add_symbols.Goals as goal

pub loop-symbol-preserved : goal.loop-symbol-preserved
loop-symbol-preserved c =
    let old : List NumberedSymbol = c.args.gathered.now.symbols.items in
    let xs : List ℕ = c.args.symbols.now in
    let k : ℕ = c.loop-symbol.symbol-index in
    let lt : c.loop-symbol.symbol-index < length c.args.symbols.now = omega arith in
    record {
      symbols = c.push_reserved.ensures.items ∙ ap (λ (l : List NumberedSymbol). l ++ unnumbered c.args.place (get_or xs k 0) ∷ []) c.loop-symbol.invariant.symbols
          ∙ append_assoc old (map (unnumbered c.args.place) (take k xs)) (unnumbered c.args.place (get_or xs k 0) ∷ [])
          ∙ ap (λ (l : List NumberedSymbol). old ++ l) (sym (map_more (unnumbered c.args.place) xs k 0 lt));
      names = c.loop-symbol.invariant.names;
      len = omega (arith, c.push_reserved.ensures.len, c.loop-symbol.invariant.len);
      room = omega (arith, c.push_reserved.ensures.capacity, c.loop-symbol.invariant.room);
    }

pub returns-clause-symbols : goal.returns-clause-symbols
returns-clause-symbols c =
    let all : length c.args.symbols.now ≤ c.loop-symbol.symbol-index = omega arith in
    c.loop-symbol.invariant.symbols ∙ ap (λ (l : List ℕ). c.args.gathered.now.symbols.items ++ map (unnumbered c.args.place) l) (take_all c.loop-symbol.symbol-index c.args.symbols.now all)

pub returns-clause-names : goal.returns-clause-names
returns-clause-names c = c.loop-symbol.invariant.names
