use Rattle.std.proofs.Common.{◌≡◌, length, ap, ◌∙◌, arith}
use Rattle.std.proofs.lemmas.List.{append-nil}
use Rattle.roots.specs.Root.{root_bytes}
use Rattle.roots.proofs.Roots.{one_root}
use Rattle.roots.proofs.Written.{then_put, then_spelt, then_finish}
use Rattle.roots.proofs.root_sector.encode_root.Goals as goal

pub returns-clause-spelling : goal.returns-clause-spelling
unfolding root_bytes
returns-clause-spelling c =
    let none : length c.new-sector.result ≡ 0 = ap length c.new-sector.ensures in
    then_finish _ _ _ 0 c.finish.ensures (omega arith) (omega arith)
    (then_put _ _ _ _ c.put_list.ensures.fields
    (then_put _ _ _ _ c.put_all.ensures.fields
    (then_spelt _ _ _ _ _ c.put-5.ensures.fields c.to_le_bytes-4.ensures
    (then_spelt _ _ _ _ _ c.put-4.ensures.fields c.to_le_bytes-3.ensures
    (then_spelt _ _ _ _ _ c.put-3.ensures.fields c.to_le_bytes-2.ensures
    (then_spelt _ _ _ _ _ c.put-2.ensures.fields c.to_le_bytes.ensures
    (then_spelt _ _ _ _ _ c.put.ensures.fields c.magic_of.ensures c.new-sector.ensures)))))))
    ∙ append-nil _

pub returns-clause-alone : goal.returns-clause-alone
returns-clause-alone c other spells =
    one_root c.finish.result other c.args.root.now spells (record { has_spelling = c.requires; spelling = returns-clause-spelling c })
