use Rattle.std.proofs.Common.{◌≡◌, length, ap, arith}
use Rattle.roots.specs.Catalogue.{catalogue_bytes}
use Rattle.roots.proofs.Catalogues.{one_catalogue}
use Rattle.roots.proofs.Written.{then_put, then_spelt, then_finish}
use Rattle.roots.proofs.catalogue_sector.encode_catalogue.Goals as goal

pub returns-clause-spelling : goal.returns-clause-spelling
unfolding catalogue_bytes
returns-clause-spelling c =
    let none : length c.new-sector.result ≡ 0 = ap length c.new-sector.ensures in
    then_finish _ _ _ 240 c.finish.ensures (omega (arith, c.requires.sectors.listed.size)) (omega arith)
    (then_put _ _ _ _ c.put_all.ensures.fields
    (then_put _ _ _ _ c.put-3.ensures.fields
    (then_spelt _ _ _ _ _ c.put-2.ensures.fields c.to_le_bytes.ensures
    (then_put _ _ _ _ c.put.ensures.fields c.new-sector.ensures))))

pub returns-clause-alone : goal.returns-clause-alone
returns-clause-alone c other spells =
    one_catalogue c.finish.result other c.args.catalogue.now spells (record { has_spelling = c.requires; spelling = returns-clause-spelling c })
