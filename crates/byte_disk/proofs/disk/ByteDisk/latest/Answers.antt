use Rattle.std.proofs.Common.{◌∙◌, ap, sym, arith}
use Rattle.byte_disk.specs.inside.Latest.{content_of}
use Rattle.byte_disk.proofs.Found.{found_in, found_content, found_write}
use Rattle.byte_disk.proofs.disk.ByteDisk.latest.Goals as goal

pub index-requires : goal.index-requires
index-requires c =
    let self = c.args.self.now in
    omega (
      arith,
      self.planned.ok,
      found_in self.start.now self.planned.items c.args.at c.in-Some.place.now c.requires self.whole self.writes _
          (self.is_latest c.args.at c.requires) c.in-Some.ensures.value,
    )

pub unreachable-requires : goal.unreachable-requires
unreachable-requires c =
    let self = c.args.self.now in
    found_write self.start.now self.planned.items c.args.at c.in-Some.place.now c.requires self.whole self.writes _
    (self.is_latest c.args.at c.requires) c.in-Some.ensures.value c.index.result.now c.index.ensures c.in-Sync.is

pub returns-in-Write : goal.returns-in-Write
returns-in-Write c =
    let self = c.args.self.now in
    ap content_of (sym c.in-Write.is)
    ∙ found_content self.start.now self.planned.items c.args.at c.in-Some.place.now c.requires self.whole self.writes _
    (self.is_latest c.args.at c.requires) c.in-Some.ensures.value c.index.result.now c.index.ensures
