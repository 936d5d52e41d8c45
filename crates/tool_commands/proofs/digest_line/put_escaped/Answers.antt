use Rattle.std.proofs.Common.{take, slice_index, sym, subst}
use Rattle.std.specs.List.{flat_map}
use Rattle.std.specs.Io.KnownBytes.{Appends, append_known}
use Rattle.std.proofs.KnownBytes.{Appends-trans}
use Rattle.tool_commands.specs.Digest.{escaped_byte}
use Rattle.tool_commands.proofs.Installs.{text-more}
use Rattle.tool_commands.proofs.digest_line.put_escaped.Goals as goal

pub loop-byte-preserved : goal.loop-byte-preserved
loop-byte-preserved g c =
    let name = c.args.name.now in
    let i = c.loop-byte.byte-index in
    let start = append_known (g.W.Write.contents c.args.out.now) c.args.line.now.waiting in
    let before = append_known (g.W.Write.contents c.loop-byte.out) c.loop-byte.line.waiting in
    let after = append_known (g.W.Write.contents c.put_escaped_byte.new.out) c.put_escaped_byte.new.line.waiting in
    subst (Appends start after) (sym (text-more escaped_byte name i 0 c.loop-byte-test.true))
    (Appends-trans start before after (flat_map escaped_byte (take i name)) (escaped_byte (slice_index name i)) c.loop-byte.invariant c.in_ok-put_escaped_byte.ensures)
