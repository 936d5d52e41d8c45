use Rattle.std.proofs.Common.{◌≡◌, length, subst, ◌∙◌}
use Rattle.std.specs.Prelude.{nat_eq, Some}
use Rattle.std.specs.HashMap.{Updates}
use Rattle.byte_disk.proofs.disk.make_room.Goals as goal

pub returns-clause-ok : goal.returns-clause-ok
returns-clause-ok c =
    let is : c.len.result ≡ length c.args.planned.now.items = c.len.ensures ∙ c.reserve.ensures.len ∙ c.args.planned.now.ok.0 in
    subst (λ n. Updates nat_eq c.args.latest.now c.insert.new.self c.args.at (Some n)) is c.in_ok-insert.ensures.updates
