use Rattle.std.proofs.Common.{◌++◌}
use Rattle.store.specs.Stands.{sectors_of}
use Rattle.store.proofs.Releases.{held_some, held_rest, released_some, released_rest}
use Rattle.store.proofs.room.give_back_room.Goals as goal

pub give_back-requires-clause-held : goal.give_back-requires-clause-held
give_back-requires-clause-held c = held_some c.args.layout.now (sectors_of c.args.put.now) c.args.catalogues.now c.requires.held

pub release_sectors-requires : goal.release_sectors-requires
release_sectors-requires c =
    let old = c.args.layout.now in
    let mid = c.give_back.new.layout in
    held_rest old mid (sectors_of c.args.put.now ++ c.args.catalogues.now) c.args.catalogues.now c.requires.held
    (released_some old (sectors_of c.args.put.now) c.args.catalogues.now mid c.give_back.ensures)

pub returns : goal.returns
returns c =
    let old = c.args.layout.now in
    let mid = c.give_back.new.layout in
    released_rest old mid c.release_sectors.new.layout (sectors_of c.args.put.now ++ c.args.catalogues.now) c.args.catalogues.now
    (released_some old (sectors_of c.args.put.now) c.args.catalogues.now mid c.give_back.ensures) c.release_sectors.ensures
