use Rattle.store.proofs.Claims.{own_claimed}
use Rattle.extents.specs.Extent.{one_sector}
use Rattle.store.proofs.room.take_single.Goals as goal

pub returns-clause-claimed : goal.returns-clause-claimed
returns-clause-claimed c = own_claimed c.args.layout.now c.take_one.new.self (one_sector c.in-Ok.at) c.in-Ok.ensures.now c.in-Ok.ensures.claimed
