use Rattle.std.proofs.Common.{◌≡◌, take}
use Rattle.std.specs.List.{flat_map}
use Rattle.text_output.specs.Sends.{Sends, HasRoom, with_text}
use Rattle.text_output.specs.Name.{name_byte_text}
use Rattle.text_output.proofs.buffer.OutputBuffer.put_name.Given as goal

abbrev pub invariant-loop-byte : goal.invariant-loop-byte
invariant-loop-byte g l = record {
  sends : Sends (g.W.Write.contents l.fn.out) l.fn.self (g.W.Write.contents l.out) l.self
      (flat_map name_byte_text (take l.byte-index l.name));
  fits : HasRoom g.row.SIZE l.fn.self (flat_map name_byte_text l.name)
      → (l.out ≡ l.fn.out) × (l.self ≡ with_text l.fn.self (flat_map name_byte_text (take l.byte-index l.name)));
}
