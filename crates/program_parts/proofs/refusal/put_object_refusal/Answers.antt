use Rattle.std.proofs.Common.{subst}
use Rattle.std.specs.Io.KnownBytes.{Appends, append_known}
use Rattle.program_parts.specs.Refusal.{object_refusal_name, object_refusal_detail}
use Rattle.image.proofs.Then.{then}
use Rattle.program_parts.proofs.refusal.put_object_refusal.Goals as goal

pub returns-clause-ok : goal.returns-clause-ok
returns-clause-ok g c =
    let w = g.W.Write.contents in
    let name = object_refusal_name c.args.refusal in
    let detail = object_refusal_detail c.args.refusal in
    let start = append_known (w c.args.out.now) c.args.line.now.waiting in
    let first = append_known (w c.put.new.out) c.put.new.self.waiting in
    let named = subst (Appends start first) c.object_refusal_name.ensures c.in_ok-put.ensures.ok in
    then c.put_detail.result start first _ name detail named c.put_detail.ensures.ok
