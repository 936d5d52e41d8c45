use Rattle.std.proofs.Common.{◌/◌, All, length, refl, subst, sym, arith}
use Rattle.sector_disk.specs.Disk.{sector_bytes, IsWhole}
use Rattle.byte_disk.proofs.Whole.{bytes_whole}
use Rattle.byte_disk.proofs.given.sectors_of.Goals as goal

pub returns-clause-some : goal.returns-clause-some
returns-clause-some c =
    let sectors = length c.args.bytes.now / sector_bytes in
    (λ _. (sectors, omega arith, omega arith), λ _. refl)

pub returns-clause-whole : goal.returns-clause-whole
returns-clause-whole c =
    let bytes = c.args.bytes.now in
    subst (All IsWhole) (sym c.as_chunks.ensures.front) (bytes_whole (length bytes / sector_bytes) bytes (omega arith) (λ i. (c.type_inv.bytes i).fits))
