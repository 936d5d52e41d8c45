-- A catalogue's sector has the catalogue's fields, so it encodes no other catalogue.
use Rattle.std.proofs.Common.{◌≡◌, ℕ, List, ◌++◌, refl, ap, sym, ◌∙◌, arith}
use Rattle.std.specs.Prelude.{codes}
use Rattle.std.specs.Int.{w16, w32, to_le_bytes, from_le_bytes}
use Rattle.std.proofs.lemmas.Nat.{from_le_bytes-to_le_bytes_2}
use Rattle.roots.specs.declared.catalogue.Catalogue.{Catalogue}
use Rattle.roots.specs.Fields.{zeros}
use Rattle.roots.specs.Catalogue.{catalogue_bytes, CatalogueHasSpelling, SpellsCatalogue}
use Rattle.roots.specs.inside.Reading.{number_at, values_at, catalogue_of}
use Rattle.roots.proofs.Numbers.{sectors_again}

-- the fields before the list
abbrev head : Catalogue → List ℕ
head catalogue = codes "LIBC" ++ to_le_bytes w16 catalogue.count ++ zeros 10

list_again : (catalogue : Catalogue) → CatalogueHasSpelling catalogue → values_at (from_le_bytes w32) 4 64 16 (catalogue_bytes catalogue) ≡ catalogue.entry_sectors
unfolding catalogue_bytes
list_again catalogue fits = sectors_again (head catalogue) catalogue.entry_sectors (zeros 240) 64 catalogue.count 4194304 16 refl (omega arith) fits.sectors

same_catalogue : (catalogue : Catalogue) (count : ℕ) (entry_sectors : List ℕ) → count ≡ catalogue.count → entry_sectors ≡ catalogue.entry_sectors
    → ◌≡◌ {A = Catalogue} (record { count = count; entry_sectors = entry_sectors }) catalogue
same_catalogue catalogue count entry_sectors e1 e2 = rw (e1, e2) refl

-- the fields of a catalogue's sector are the catalogue's
catalogue_of-catalogue_bytes : (catalogue : Catalogue) → CatalogueHasSpelling catalogue → catalogue_of (catalogue_bytes catalogue) ≡ catalogue
unfolding catalogue_of catalogue_bytes
catalogue_of-catalogue_bytes catalogue fits =
    let count : number_at w16 4 (catalogue_bytes catalogue) ≡ catalogue.count = from_le_bytes-to_le_bytes_2 catalogue.count (omega (arith, fits.sectors.listed.room)) in
    same_catalogue catalogue _ _ count (list_again catalogue fits)

-- two catalogues that the same sector encodes are equal
pub one_catalogue : (bytes : List ℕ) (a b : Catalogue) → SpellsCatalogue bytes a → SpellsCatalogue bytes b → a ≡ b
one_catalogue bytes a b first second =
    sym (catalogue_of-catalogue_bytes a first.has_spelling) ∙ ap catalogue_of (sym first.spelling ∙ second.spelling) ∙ catalogue_of-catalogue_bytes b second.has_spelling

-- a sector that encodes a catalogue has its fields
pub catalogue_of-spelt : (bytes : List ℕ) (catalogue : Catalogue) → SpellsCatalogue bytes catalogue → catalogue_of bytes ≡ catalogue
catalogue_of-spelt bytes catalogue spells = ap catalogue_of spells.spelling ∙ catalogue_of-catalogue_bytes catalogue spells.has_spelling
