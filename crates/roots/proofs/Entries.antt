-- An entry's sector has the entry's fields, so it encodes no other entry.
use Rattle.std.proofs.Common.{◌≡◌, ℕ, ◌<◌, ◌^◌, List, [], ◌++◌, length, take, drop, refl, ap, sym, ◌∙◌, append_assoc, arith, length-append}
use Rattle.std.specs.Prelude.{codes}
use Rattle.std.specs.List.{flat_map}
use Rattle.std.specs.Int.{w16, w32, to_le_bytes}
use Rattle.std.proofs.lemmas.List.{append-nil, drop_at, take_at}
use Rattle.std.proofs.lemmas.Nat.{from_le_bytes-to_le_bytes_2, from_le_bytes-to_le_bytes_4}
use Rattle.extents.specs.declared.extent.Extent.{Extent}
use Rattle.roots.specs.declared.entry.Entry.{Entry}
use Rattle.roots.specs.Fields.{zeros}
use Rattle.roots.specs.Entry.{IsDataExtent, no_extent, extent_bytes, entry_bytes, EntryHasSpelling, SpellsEntry}
use Rattle.roots.specs.inside.Reading.{number_at, values_at, extent_of, entry_of}
use Rattle.roots.proofs.Pieces.{IsReadAgain, values_at-pieces, All-uses_first}

-- an extent whose numbers have 32 bits
record IsNarrow (extent : Extent) : Type 0 where
  start : extent.start < 2 ^ 32
  count : extent.count < 2 ^ 32

same_extent : (extent : Extent) (start count : ℕ) → start ≡ extent.start → count ≡ extent.count → ◌≡◌ {A = Extent} (record { start = start; count = count }) extent
same_extent extent start count e1 e2 = rw (e1, e2) refl

extents32 : IsReadAgain extent_of extent_bytes 8 IsNarrow
extents32 = record {
  len = λ extent. refl;
  again = λ extent rest narrow. same_extent extent _ _ (from_le_bytes-to_le_bytes_4 extent.start narrow.start) (from_le_bytes-to_le_bytes_4 extent.count narrow.count);
}

-- the fields before the name
abbrev head : Entry → List ℕ
head entry = codes "LIBE" ++ to_le_bytes w32 entry.file_length ++ to_le_bytes w16 entry.name_length ++ to_le_bytes w16 entry.extent_count ++ zeros 4

name_again : (entry : Entry) → EntryHasSpelling entry → take 240 (drop 16 (entry_bytes entry)) ≡ entry.name
unfolding entry_bytes
name_again entry fits =
    let rest = flat_map extent_bytes entry.extents in
    let regrouped : drop 16 (head entry ++ entry.name ++ rest) ≡ entry.name ++ rest =
    ap (drop 16) (append_assoc (head entry) entry.name rest) ∙ drop_at (head entry) (entry.name ++ rest) 16 refl in
    ap (take 240) regrouped ∙ take_at entry.name rest 240 fits.name.listed.size

extents_again : (entry : Entry) → EntryHasSpelling entry → values_at extent_of 8 32 256 (entry_bytes entry) ≡ entry.extents
unfolding entry_bytes
extents_again entry fits =
    let front = head entry ++ entry.name in
    let front_len : length front ≡ 256 = omega (arith, length-append (head entry) entry.name, fits.name.listed.size) in
    let narrow = All-uses_first 32 entry.extent_count IsDataExtent IsNarrow no_extent entry.extents fits.extents.listed
    (λ extent inside. record { start = omega (arith, inside.high); count = omega (arith, inside.high) }) (record { start = omega arith; count = omega arith }) in
    ap (values_at extent_of 8 32 256) (sym (append-nil (front ++ flat_map extent_bytes entry.extents)))
    ∙ values_at-pieces extent_of extent_bytes 8 IsNarrow extents32 front entry.extents [] 32 256 no_extent front_len fits.extents.listed.size narrow

same_entry : (entry : Entry) (file_length name_length extent_count : ℕ) (name : List ℕ) (extents : List Extent)
    → file_length ≡ entry.file_length → name_length ≡ entry.name_length → extent_count ≡ entry.extent_count → name ≡ entry.name → extents ≡ entry.extents
    → ◌≡◌ {A = Entry} (record { file_length = file_length; name_length = name_length; extent_count = extent_count; name = name; extents = extents }) entry
same_entry entry f n c name extents e1 e2 e3 e4 e5 = rw (e1, e2, e3, e4, e5) refl

-- the fields of an entry's sector are the entry's
entry_of-entry_bytes : (entry : Entry) → EntryHasSpelling entry → entry_of (entry_bytes entry) ≡ entry
unfolding entry_of entry_bytes
entry_of-entry_bytes entry fits =
    let file_length : number_at w32 4 (entry_bytes entry) ≡ entry.file_length = from_le_bytes-to_le_bytes_4 entry.file_length (omega (arith, fits.file_length)) in
    let name_length : number_at w16 8 (entry_bytes entry) ≡ entry.name_length = from_le_bytes-to_le_bytes_2 entry.name_length (omega (arith, fits.name.listed.room)) in
    let extent_count : number_at w16 10 (entry_bytes entry) ≡ entry.extent_count = from_le_bytes-to_le_bytes_2 entry.extent_count (omega (arith, fits.extents.listed.room)) in
    same_entry entry _ _ _ _ _ file_length name_length extent_count (name_again entry fits) (extents_again entry fits)

-- two entries that the same sector encodes are equal
pub one_entry : (bytes : List ℕ) (a b : Entry) → SpellsEntry bytes a → SpellsEntry bytes b → a ≡ b
one_entry bytes a b first second =
    sym (entry_of-entry_bytes a first.has_spelling) ∙ ap entry_of (sym first.spelling ∙ second.spelling) ∙ entry_of-entry_bytes b second.has_spelling

-- a sector that encodes an entry has its fields
pub entry_of-spelt : (bytes : List ℕ) (entry : Entry) → SpellsEntry bytes entry → entry_of bytes ≡ entry
entry_of-spelt bytes entry spells = ap entry_of spells.spelling ∙ entry_of-entry_bytes entry spells.has_spelling
