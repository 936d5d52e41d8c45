use Rattle.std.proofs.Common.{ap}
use Rattle.tool_commands.specs.inside.Sums.{stream_text}
use Rattle.program_parts.proofs.Sent.{sent}
use Rattle.tool_commands.proofs.digest.write_stream.Goals as goal

pub returns : goal.returns
returns g c libraries lists =
    let w = g.W.Write.contents in
    sent c.send.result (w c.args.out.now) (w c.put_stream.new.out) (w c.send.new.out) c.new-line.result.waiting c.put_stream.new.line.waiting (stream_text c.args.stream libraries c.args.digests.now)
    (ap (λ b. b.waiting) c.new-line.ensures) (c.in_ok-put_stream.ensures libraries lists) c.send.ensures.ok
