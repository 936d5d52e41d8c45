use Rattle.std.proofs.Common.{inl, ap}
use Rattle.tool_commands.proofs.digest.tell_digests.Goals as goal

pub returns-in-Ok : goal.returns-in-Ok
returns-in-Ok g c libraries lists =
    let end = c.end_digests.ensures in
    inl (end.status, c.in-Ok.ensures libraries lists, end.said libraries lists, λ read. ap g.E.Write.contents (end.silent read))
