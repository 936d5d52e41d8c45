use Rattle.std.proofs.Common.{◌≡◌, ◌*◌, ◌++◌, take, drop, length, slice_index}
use Rattle.hex.specs.Hex.{encode_lower}
use Rattle.text_output.proofs.hexadecimal.line.Given as goal

abbrev pub invariant-loop-i : goal.invariant-loop-i
invariant-loop-i l = record {
  size : length l.text ≡ 33;
  end : slice_index l.text 32 ≡ 10;
  digits : take (2 * l.i) l.text ++ encode_lower (drop l.i l.bytes) ≡ encode_lower l.bytes;
}
