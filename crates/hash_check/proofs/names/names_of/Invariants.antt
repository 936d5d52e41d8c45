use Rattle.std.proofs.Common.{◌≡◌, ◌≤◌, length, map, take}
use Rattle.std.specs.Option.{ForSome}
use Rattle.std.specs.Vec.{vec_len, vec_capacity}
use Rattle.hash_check.specs.inside.Names.{IsStretch}
use Rattle.elf_dynamic.specs.Strings.{name_of}
use Rattle.hash_check.proofs.names.names_of.Given as goal

abbrev pub invariant-loop-number : goal.invariant-loop-number
invariant-loop-number l = record {
  names : l.names.items ≡ map (name_of l.object) (take l.number-index l.symbols);
  len : vec_len l.names ≡ l.number-index;
  room : length l.symbols ≤ vec_capacity l.names;
  last : ForSome l.last (IsStretch l.object);
}
