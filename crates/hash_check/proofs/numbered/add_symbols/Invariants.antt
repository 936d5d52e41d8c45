use Rattle.std.proofs.Common.{◌≡◌, ◌≤◌, ◌+◌, ◌++◌, length, map, take}
use Rattle.std.specs.Vec.{vec_len, vec_capacity}
use Rattle.hash_check.specs.inside.Numbered.{unnumbered}
use Rattle.hash_check.proofs.numbered.add_symbols.Given as goal

abbrev pub invariant-loop-symbol : goal.invariant-loop-symbol
invariant-loop-symbol l = record {
  symbols : l.gathered.symbols.items ≡ l.fn.gathered.symbols.items ++ map (unnumbered l.place) (take l.symbol-index l.symbols);
  names : l.gathered.names.items ≡ l.fn.gathered.names.items ++ l.fn.names.items;
  len : vec_len l.gathered.symbols ≡ vec_len l.fn.gathered.symbols + l.symbol-index;
  room : vec_len l.fn.gathered.symbols + length l.symbols ≤ vec_capacity l.gathered.symbols;
}
