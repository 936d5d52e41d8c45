-- The names and the bytes of entries that can be encoded.
use Rattle.std.proofs.Common.{◌≡◌, refl, ℕ, suc, ◌*◌, ◌<◌, List, [], ◌∷◌, length, map, All, ◌∙◌, arith}
use Rattle.std.specs.Prelude.{Contains}
use Rattle.std.specs.Int.{div_ceil}
use Rattle.std.proofs.lemmas.Grind.{div_ceil_times}
use Rattle.std.proofs.lemmas.List.{length-append, length-map, length-take-le}
use Rattle.sector_disk.specs.Disk.{Sector, sector, IsWhole}
use Rattle.extents.specs.Extent.{places}
use Rattle.extents.proofs.PlacesLemmas.{length-places}
use Rattle.passes.specs.Bytes.{bytes_at}
use Rattle.roots.specs.declared.entry.Entry.{Entry}
use Rattle.roots.specs.Entry.{EntryHasSpelling}
use Rattle.store.specs.declared.placed_entry.PlacedEntry.{PlacedEntry}
use Rattle.store.specs.Names.{IsName}
use Rattle.store.specs.Stands.{extents_of, library_of, name_of}

-- the name of an entry that can be encoded can be a name
pub name_fits : (entry : Entry) → EntryHasSpelling entry → IsName (name_of entry)
name_fits entry fits =
    let size : length (name_of entry) ≡ entry.name_length = length-take-le entry.name_length entry.name (omega (arith, fits.name.listed.size, fits.name.listed.room)) in
    record {
      size = omega (arith, size, fits.name.some, fits.name.listed.room);
      bytes = fits.name.listed.used;
    }

-- whole sectors have 512 bytes each
length-bytes_at : (m : List Sector) (ks : List ℕ) → All IsWhole m → ((k : ℕ) → Contains ks k → k < length m) → length (bytes_at m ks) ≡ 512 * length ks
length-bytes_at m [] whole inside = refl
length-bytes_at m (k ∷ ks) whole inside = omega (
  arith,
  length-append (sector m k) (bytes_at m ks),
  (whole k [] (inside k (0, omega arith, refl))).size,
  length-bytes_at m ks whole (λ j found. inside j (suc found.0, omega (arith, found.1), found.2)),
)

-- a byte string is as long as its entry says
pub length-library : (m : List Sector) (placed : PlacedEntry) → All IsWhole m → EntryHasSpelling placed.entry
    → ((k : ℕ) → Contains (places (extents_of placed.entry)) k → k < length m) → length (library_of m placed).bytes ≡ placed.entry.file_length
length-library m placed whole fits inside =
    let entry = placed.entry in
    let have = length-bytes_at m (places (extents_of entry)) whole inside in
    let sectors : length (places (extents_of entry)) ≡ div_ceil entry.file_length 512 = length-places (extents_of entry) ∙ fits.extents.sum in
    length-take-le entry.file_length (bytes_at m (places (extents_of entry))) (omega (arith, have, sectors, (div_ceil_times entry.file_length 512 (omega arith)).0))

-- the number of byte strings is the number of entries
pub length-libraries : (m : List Sector) (entries : List PlacedEntry) → length (map (library_of m) entries) ≡ length entries
length-libraries m entries = length-map entries (library_of m)
