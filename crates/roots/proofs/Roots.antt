-- A root's sector has the root's fields, so it encodes no other root.
use Rattle.std.proofs.Common.{◌≡◌, ℕ, ◌<◌, ◌≤◌, ◌^◌, List, [], ◌∷◌, ◌++◌, length, take, drop, refl, ap, sym, subst, ◌∙◌, arith, length-append}
use Rattle.std.specs.Int.{w16, w32, w64, to_le_bytes, from_le_bytes}
use Rattle.std.proofs.lemmas.List.{drop_at}
use Rattle.std.proofs.lemmas.Nat.{from_le_bytes-to_le_bytes_2, from_le_bytes-to_le_bytes_4, from_le_bytes-to_le_bytes_8}
use Rattle.std.specs.Prelude.{codes}
use Rattle.roots.specs.declared.entry_list.EntryList.{EntryList}
use Rattle.roots.specs.declared.entry_list.EntryList.TheVariants.{InRoot, InCatalogues}
use Rattle.roots.specs.declared.root.Root.{Root}
use Rattle.roots.specs.Fields.{zeros, numbers, ListsSectors}
use Rattle.roots.specs.Root.{magic_of, list_bytes, root_bytes, HasMagic, ListFits, CatalogueListFits, RootHasSpelling, SpellsRoot}
use Rattle.roots.specs.inside.Reading.{number_at, values_at, list_of, root_of}
use Rattle.roots.proofs.Listed.{three_behind, four_behind}
use Rattle.roots.proofs.Numbers.{numbers16, sectors_again}
use Rattle.roots.proofs.Pieces.{length-pieces, values_at-pieces, All-uses_first}

-- the fields before the preloads
abbrev pub head : Root → List ℕ
head root =
    magic_of root.list ++ to_le_bytes w64 root.generation ++ to_le_bytes w32 root.sectors ++ to_le_bytes w16 root.library_count ++ to_le_bytes w16 root.preload_count

-- a magic has eight bytes
eight : (list : EntryList) → length (magic_of list) ≡ 8
eight (InRoot sectors) = refl
eight (InCatalogues count sectors) = refl

-- a root counts so few libraries that its positions are numbers of 16 bits
count_fits : (libraries disk : ℕ) (list : EntryList) → ListFits libraries disk list → libraries ≤ 2048
count_fits libraries disk (InRoot sectors) fits = omega (arith, fits.listed.room)
count_fits libraries disk (InCatalogues count sectors) fits = fits.few

head_len : (root : Root) → length (head root) ≡ 24
head_len root = omega (
  arith,
  eight root.list,
  length-append (magic_of root.list ++ to_le_bytes w64 root.generation ++ to_le_bytes w32 root.sectors ++ to_le_bytes w16 root.library_count) (to_le_bytes w16 root.preload_count),
  length-append (magic_of root.list ++ to_le_bytes w64 root.generation ++ to_le_bytes w32 root.sectors) (to_le_bytes w16 root.library_count),
  length-append (magic_of root.list ++ to_le_bytes w64 root.generation) (to_le_bytes w32 root.sectors),
  length-append (magic_of root.list) (to_le_bytes w64 root.generation),
)

preloads_again : (root : Root) → RootHasSpelling root → values_at (from_le_bytes w16) 2 16 24 (root_bytes root) ≡ root.preloads
unfolding root_bytes
preloads_again root fits =
    let small = All-uses_first 16 root.preload_count (λ position. position < root.library_count) (λ n. n < 2 ^ 16) 0 root.preloads fits.preloads.listed
    (λ n below. omega (arith, count_fits root.library_count root.sectors root.list fits.list)) (omega arith) in
    values_at-pieces (from_le_bytes w16) (to_le_bytes w16) 2 (λ n. n < 2 ^ 16) numbers16 (head root) root.preloads (list_bytes root.list) 16 24 0 (head_len root) fits.preloads.listed.size small

-- the fields before the list
abbrev front : Root → List ℕ
front root = head root ++ numbers w16 root.preloads

front_len : (root : Root) → RootHasSpelling root → length (front root) ≡ 56
front_len root fits = omega (
  arith,
  length-append (head root) (numbers w16 root.preloads),
  head_len root,
  length-pieces (to_le_bytes w16) 2 numbers16.len root.preloads,
  fits.preloads.listed.size,
)

-- the sector of a root, but with the magic of one list and the bytes of another list
abbrev spelt_by : EntryList → Root → EntryList → List ℕ
spelt_by version root list =
    magic_of version ++ to_le_bytes w64 root.generation ++ to_le_bytes w32 root.sectors ++ to_le_bytes w16 root.library_count
    ++ to_le_bytes w16 root.preload_count ++ numbers w16 root.preloads ++ list_bytes list

spelt : (root : Root) (list : EntryList) → root.list ≡ list → root_bytes root ≡ spelt_by list root list
unfolding root_bytes
spelt root list is = ap (λ l. spelt_by l root l) is

-- a list of sectors of entries is read back
entries_again : (root : Root) (sectors : List ℕ) → root.list ≡ InRoot sectors → RootHasSpelling root → values_at (from_le_bytes w32) 4 100 64 (root_bytes root) ≡ sectors
unfolding root_bytes
entries_again root sectors is fits =
    let listed : ListsSectors 100 root.library_count root.sectors sectors = subst (ListFits root.library_count root.sectors) is fits.list in
    let len : length (front root ++ zeros 8) ≡ 64 = omega (arith, length-append (front root) (zeros 8), front_len root fits) in
    let regrouped : front root ++ list_bytes root.list ≡ front root ++ zeros 8 ++ numbers w32 sectors ++ zeros 48 =
    ap (λ l. front root ++ list_bytes l) is ∙ sym (three_behind (front root) (zeros 8) (numbers w32 sectors) (zeros 48)) in
    ap (values_at (from_le_bytes w32) 4 100 64) regrouped
    ∙ sectors_again (front root ++ zeros 8) sectors (zeros 48) 100 root.library_count root.sectors 64 len (omega (arith, fits.sectors)) listed

-- a list of sectors of catalogues is read back
catalogues_again : (root : Root) (count : ℕ) (sectors : List ℕ) → root.list ≡ InCatalogues count sectors → RootHasSpelling root → values_at (from_le_bytes w32) 4 32 64 (root_bytes root) ≡ sectors
unfolding root_bytes
catalogues_again root count sectors is fits =
    let fit : CatalogueListFits root.library_count root.sectors count sectors = subst (ListFits root.library_count root.sectors) is fits.list in
    let before = front root ++ to_le_bytes w16 count ++ zeros 6 in
    let len : length before ≡ 64 = omega (arith, length-append (front root ++ to_le_bytes w16 count) (zeros 6), length-append (front root) (to_le_bytes w16 count), front_len root fits) in
    let regrouped : front root ++ list_bytes root.list ≡ before ++ numbers w32 sectors ++ zeros 320 =
    ap (λ l. front root ++ list_bytes l) is ∙ sym (four_behind (front root) (to_le_bytes w16 count) (zeros 6) (numbers w32 sectors) (zeros 320)) in
    ap (values_at (from_le_bytes w32) 4 32 64) regrouped
    ∙ sectors_again before sectors (zeros 320) 32 count root.sectors 64 len (omega (arith, fits.sectors)) fit.listed

-- the number of these catalogues is read back
count_again : (root : Root) (count : ℕ) (sectors : List ℕ) → root.list ≡ InCatalogues count sectors → RootHasSpelling root → number_at w16 56 (root_bytes root) ≡ count
unfolding root_bytes
count_again root count sectors is fits =
    let fit : CatalogueListFits root.library_count root.sectors count sectors = subst (ListFits root.library_count root.sectors) is fits.list in
    let behind : drop 56 (front root ++ list_bytes root.list) ≡ list_bytes (InCatalogues count sectors) =
    drop_at (front root) (list_bytes root.list) 56 (front_len root fits) ∙ ap list_bytes is in
    ap (from_le_bytes w16) behind ∙ from_le_bytes-to_le_bytes_2 count (omega (arith, fit.listed.listed.room))

-- the list in a root's sector is the root's
list_again : (root : Root) (list : EntryList) → root.list ≡ list → RootHasSpelling root → list_of (root_bytes root) ≡ root.list
unfolding list_of
list_again root (InRoot sectors) is fits =
    let same = spelt root (InRoot sectors) is in
    ap list_of same
    ∙ ap (λ bytes. InRoot (values_at (from_le_bytes w32) 4 100 64 bytes)) (sym same)
    ∙ ap (λ l. InRoot l) (entries_again root sectors is fits)
    ∙ sym is
list_again root (InCatalogues count sectors) is fits =
    let same = spelt root (InCatalogues count sectors) is in
    ap list_of same
    ∙ ap (λ bytes. InCatalogues (number_at w16 56 bytes) (values_at (from_le_bytes w32) 4 32 64 bytes)) (sym same)
    ∙ ap (λ n. InCatalogues n (values_at (from_le_bytes w32) 4 32 64 (root_bytes root))) (count_again root count sectors is fits)
    ∙ ap (λ l. InCatalogues count l) (catalogues_again root count sectors is fits)
    ∙ sym is

same_root : (root : Root) (generation sectors library_count preload_count : ℕ) (preloads : List ℕ) (list : EntryList)
    → generation ≡ root.generation → sectors ≡ root.sectors → library_count ≡ root.library_count → preload_count ≡ root.preload_count → preloads ≡ root.preloads → list ≡ root.list
    → ◌≡◌ {A = Root} (record { generation = generation; sectors = sectors; library_count = library_count; preload_count = preload_count; preloads = preloads; list = list }) root
same_root root g s l p ps es e1 e2 e3 e4 e5 e6 = rw (e1, e2, e3, e4, e5, e6) refl

-- if the list is the root's, the fields of a root's sector are the root's, whatever the eight bytes of the magic are
fields_again : (root : Root) (a b c d e f g h : ℕ)
    → root_bytes root ≡ (a ∷ b ∷ c ∷ d ∷ e ∷ f ∷ g ∷ h ∷ []) ++ to_le_bytes w64 root.generation ++ to_le_bytes w32 root.sectors
    ++ to_le_bytes w16 root.library_count ++ to_le_bytes w16 root.preload_count ++ numbers w16 root.preloads ++ list_bytes root.list
    → RootHasSpelling root → list_of (root_bytes root) ≡ root.list → root_of (root_bytes root) ≡ root
unfolding root_of
fields_again root a b c d e f g h same fits list =
    let bytes = root_bytes root in
    let generation : number_at w64 8 bytes ≡ root.generation = ap (number_at w64 8) same ∙ from_le_bytes-to_le_bytes_8 root.generation fits.generation in
    let sectors : number_at w32 16 bytes ≡ root.sectors = ap (number_at w32 16) same ∙ from_le_bytes-to_le_bytes_4 root.sectors (omega (arith, fits.sectors)) in
    let library_count : number_at w16 20 bytes ≡ root.library_count = ap (number_at w16 20) same
    ∙ from_le_bytes-to_le_bytes_2 root.library_count (omega (arith, count_fits root.library_count root.sectors root.list fits.list)) in
    let preload_count : number_at w16 22 bytes ≡ root.preload_count = ap (number_at w16 22) same ∙ from_le_bytes-to_le_bytes_2 root.preload_count (omega (arith, fits.preloads.listed.room)) in
    same_root root _ _ _ _ _ _ generation sectors library_count preload_count (preloads_again root fits) list

-- the fields of a root's sector are the root's, whichever magic the root has
by_magic : (root : Root) (list : EntryList) → root.list ≡ list → RootHasSpelling root → root_of (root_bytes root) ≡ root
by_magic root (InRoot places) is fits =
    fields_again root 82 76 73 66 82 69 71 49 (spelt root (InRoot places) is ∙ ap (λ l. spelt_by (InRoot places) root l) (sym is)) fits (list_again root (InRoot places) is fits)
by_magic root (InCatalogues count places) is fits =
    fields_again root 82 76 73 66 82 69 71 50
    (spelt root (InCatalogues count places) is ∙ ap (λ l. spelt_by (InCatalogues count places) root l) (sym is)) fits
    (list_again root (InCatalogues count places) is fits)

root_of-root_bytes : (root : Root) → RootHasSpelling root → root_of (root_bytes root) ≡ root
root_of-root_bytes root fits = by_magic root root.list refl fits

-- a root's sector begins with a magic
begins_with : (root : Root) (list : EntryList) → root.list ≡ list → HasMagic (root_bytes root)
begins_with root (InRoot places) is =
    let first : take 8 (root_bytes root) ≡ codes "RLIBREG1" = ap (take 8) (spelt root (InRoot places) is) in
    (0, omega arith, sym first)
begins_with root (InCatalogues count places) is =
    let first : take 8 (root_bytes root) ≡ codes "RLIBREG2" = ap (take 8) (spelt root (InCatalogues count places) is) in
    (1, omega arith, sym first)

pub spelt_has_magic : (bytes : List ℕ) (root : Root) → SpellsRoot bytes root → HasMagic bytes
spelt_has_magic bytes root spells = subst HasMagic (sym spells.spelling) (begins_with root root.list refl)

-- two roots that the same sector encodes are equal
pub one_root : (bytes : List ℕ) (a b : Root) → SpellsRoot bytes a → SpellsRoot bytes b → a ≡ b
one_root bytes a b first second =
    sym (root_of-root_bytes a first.has_spelling) ∙ ap root_of (sym first.spelling ∙ second.spelling) ∙ root_of-root_bytes b second.has_spelling

-- a sector that encodes a root has its fields
pub root_of-spelt : (bytes : List ℕ) (root : Root) → SpellsRoot bytes root → root_of bytes ≡ root
root_of-spelt bytes root spells = ap root_of spells.spelling ∙ root_of-root_bytes root spells.has_spelling
