use Rattle.std.proofs.Common.{◌≡◌, ℕ, ◌≤◌, ◌≢◌, true, arith}
use Rattle.std.proofs.lemmas.Bool.Decides.{nat_tests}
use Rattle.text_output.specs.Name.{is_plain}
use Rattle.text_output.proofs.buffer.OutputBuffer.put_name_byte.Goals as goal

plain : (b : ℕ) → 33 ≤ b → b ≤ 126 → b ≢ 92 → is_plain b ≡ true
plain b low high other = grind (arith, nat_tests)

pub returns-then-byte-ne92 : goal.returns-then-byte-ne92
returns-then-byte-ne92 g c = rw (plain c.args.byte (omega arith) (omega arith) (omega arith)) c.put_piece.ensures
