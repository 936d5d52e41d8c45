use Rattle.std.proofs.Common.{rules}
use Rattle.tool_commands.proofs.Within.{spelt_within}
use Rattle.tool_commands.proofs.hexadecimal.put_hex_piece.Goals as goal

pub put-requires-clause-line : goal.put-requires-clause-line
put-requires-clause-line g c =
    spelt_within c.encode_to_slice.result c.encode_to_slice.new.output c.args.piece.now (c.encode_to_slice.ensures.fits.1 (search rules)) c.encode_to_slice.ensures.written
