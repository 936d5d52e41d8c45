use Rattle.std.proofs.Common.{◌&&◌, nat_le, sym, ap}
use Rattle.std.proofs.lemmas.Bool.{le-leb}
use Rattle.extents.specs.Limits.{most_sectors}
use Rattle.states.specs.Limits.{least_sectors}
use Rattle.states.proofs.geometry.is_geometry.Goals as goal

pub returns-then-sectors-ge-LEAST_SECTORS : goal.returns-then-sectors-ge-LEAST_SECTORS
returns-then-sectors-ge-LEAST_SECTORS c =
    ap (λ least. least && nat_le c.args.sectors most_sectors) (sym (le-leb least_sectors c.args.sectors c.if-sectors-ge-LEAST_SECTORS.true))
