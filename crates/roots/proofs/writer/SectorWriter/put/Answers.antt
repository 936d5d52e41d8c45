use Rattle.std.proofs.Common.{◌≡◌, ◌+◌, ◌-◌, ◌∙◌, ap, drop, length, arith, rules}
use Rattle.std.proofs.lemmas.List.{drop-drop, drop-replicate}
use Rattle.std.proofs.lemmas.Slice.{drop-put_mid}
use Rattle.roots.specs.Fields.{zeros}
use Rattle.roots.proofs.writer.SectorWriter.put.Goals as goal

pub invariant_of-self : goal.invariant_of-self
invariant_of-self c =
    let front = c.self.inside.len in
    let field = length c.args.field.now in
    let cut = drop-put_mid front (front + field - front) c.self.inside.bytes c.copy_from_slice.new.self (front + field) (omega arith) (omega arith) (omega arith) in
    let rest : drop (front + field) c.self.inside.bytes ≡ zeros (512 - (front + field)) =
    rw (← drop-drop field front c.self.inside.bytes) (ap (drop field) c.self.invariant.1 ∙ rw drop-replicate (ap zeros (omega arith))) in
    (search rules, cut ∙ rest)
