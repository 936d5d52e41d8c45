use Rattle.std.proofs.Common.{◌++◌, codes, subst}
use Rattle.std.specs.Io.KnownBytes.{Appends, append_known}
use Rattle.std.proofs.KnownBytes.{Appends-trans}
use Rattle.image.proofs.Then.{then}
use Rattle.program_parts.specs.Refusal.{disk_refusal_name}
use Rattle.program_parts.proofs.refusal.put_disk_refusal.Goals as goal

pub returns-clause-ok : goal.returns-clause-ok
returns-clause-ok g c =
    let w = g.W.Write.contents in
    let head = codes "refused " in
    let name = disk_refusal_name c.args.refusal in
    let start = append_known (w c.args.out.now) c.args.line.now.waiting in
    let first = append_known (w c.put.new.out) c.put.new.self.waiting in
    let second = append_known (w c.put-2.new.out) c.put-2.new.self.waiting in
    let named = subst (Appends first second) c.disk_refusal_name.ensures c.in_ok-put-2.ensures.ok in
    let front = Appends-trans start first second head name c.in_ok-put.ensures.ok named in
    then c.put-3.result start second _ (head ++ name) (codes "\n") front c.put-3.ensures.ok
