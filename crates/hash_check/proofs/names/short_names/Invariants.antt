use Rattle.std.proofs.Common.{◌≡◌, ◌≤◌, length, map, take}
use Rattle.std.specs.Vec.{vec_len, vec_capacity}
use Rattle.elf_dynamic.specs.Strings.{name_of}
use Rattle.hash_check.proofs.names.short_names.Given as goal

abbrev pub invariant-loop-symbol : goal.invariant-loop-symbol
invariant-loop-symbol l = record {
  names : l.names.items ≡ map (name_of l.object) (take l.symbol-index l.symbols);
  len : vec_len l.names ≡ l.symbol-index;
  room : length l.symbols ≤ vec_capacity l.names;
}
