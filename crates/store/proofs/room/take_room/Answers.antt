use Rattle.std.proofs.Common.{◌∷◌, ◌++◌, [], append_assoc, subst}
use Rattle.extents.specs.Extent.{places}
use Rattle.store.specs.inside.Claimed.{IsClaimedBeside}
use Rattle.store.proofs.Claiming.{claims_more}
use Rattle.store.proofs.Given.{given_claimed}
use Rattle.store.proofs.room.take_room.Goals as goal

pub returns-clause-claimed : goal.returns-clause-claimed
returns-clause-claimed c =
    let old = c.args.layout.now in
    let bytes = places c.in_ok-extents.extents in
    let own = c.take_single-entry.result ∷ [] in
    let mid = c.take_single-entry.new.layout in
    let new = c.take_catalogues-catalogues.new.layout in
    subst (IsClaimedBeside old new) (append_assoc bytes own c.take_catalogues-catalogues.result)
    (claims_more old mid new (bytes ++ own) c.take_catalogues-catalogues.result
    (claims_more old c.take.new.self mid bytes own (given_claimed c.in_ok-extents.ensures.given c.in_ok-extents.ensures.now) c.take_single-entry.ensures.claimed)
    c.take_catalogues-catalogues.ensures.claimed)
