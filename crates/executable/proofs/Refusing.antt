-- The refusal of the first test that applies.
use Rattle.std.proofs.Common.{◌≡◌, ℕ, ◌+◌, ◌<◌, ◌≤◌, Bool, true, false, cond, take, List, [], ◌∷◌, Option, Some, None, refl, ap, ◌∙◌, arith}
use Rattle.std.specs.Prelude.{not, nat_lt, nat_le, is_none, ◌&&◌, ◌==◌}
use Rattle.std.specs.List.{list_any}
use Rattle.std.specs.Option.{option_map}
use Rattle.std.proofs.lemmas.Bool.Decides.{nat_tests}
use Rattle.elf_file.specs.FirstOf.{◌when◌, first_of}
use Rattle.image.specs.Constant.{MEMORY_LIMIT}
use Rattle.image.specs.Image.{MemoryImage, ImageSegment}
use Rattle.image.specs.declared.object.ImageObject.{ImageObject}
use Rattle.executable.specs.Constant.{MOST_HEADERS}
use Rattle.executable.specs.Entry.{entry_of, entry_among, is_code}
use Rattle.executable.specs.inside.Calls.{HasNoCalls}
use Rattle.executable.specs.Piece.{pieces_of}
use Rattle.executable.specs.Place.{header_count_of, place_of}
use Rattle.executable.specs.Refusal.{executable_refusal}
use Rattle.executable.specs.StaticPie.{is_static_pie}
use Rattle.executable.specs.Uncalled.{first_uninitialized, first_unfinalized, is_uncalled_before}
use Rattle.executable.specs.WritableCode.{first_unasked}
use Rattle.executable.specs.declared.refusal.ExecutableRefusal.{ExecutableRefusal}
use Rattle.executable.specs.declared.refusal.ExecutableRefusal.TheVariants.{NoEntry, StaticPie, PreInitializers, Initializers, Finalizers, TooManyHeaders, WritableCode, NoPages}

abbrev refusal_by : Option ℕ → Bool → Bool → Option (List ℕ) → Option (List ℕ) → Bool → Option (List ℕ) → Option ℕ → Option ExecutableRefusal
refusal_by entry static before name last many code place =
    first_of ((NoEntry when is_none entry) ∷ (StaticPie when static) ∷ (PreInitializers when before) ∷ option_map Initializers name ∷ option_map Finalizers last
    ∷ (TooManyHeaders when many) ∷ option_map WritableCode code ∷ (NoPages when is_none place) ∷ [])

abbrev are_many : MemoryImage → Bool
are_many image = nat_lt MOST_HEADERS (header_count_of (pieces_of image.segments))

abbrev place_in : MemoryImage → Option ℕ
place_in image = place_of (pieces_of image.segments)

-- the refusal of an image that has an entry, with the results of the next four tests put in
with-entry : (image : MemoryImage) (entry : ℕ) (static before : Bool) (name last : Option (List ℕ)) → entry_of image ≡ Some entry → is_static_pie image ≡ static → is_uncalled_before image ≡ before
    → first_uninitialized image ≡ name → first_unfinalized image ≡ last
    → executable_refusal image ≡ refusal_by (Some entry) static before name last (are_many image) (first_unasked image) (place_in image)
unfolding executable_refusal
with-entry image entry static before name last e t b n l =
    ap (λ x. refusal_by x (is_static_pie image) (is_uncalled_before image) (first_uninitialized image) (first_unfinalized image) (are_many image) (first_unasked image) (place_in image)) e
    ∙ ap (λ x. refusal_by (Some entry) x (is_uncalled_before image) (first_uninitialized image) (first_unfinalized image) (are_many image) (first_unasked image) (place_in image)) t
    ∙ ap (λ x. refusal_by (Some entry) static x (first_uninitialized image) (first_unfinalized image) (are_many image) (first_unasked image) (place_in image)) b
    ∙ ap (λ x. refusal_by (Some entry) static before x (first_unfinalized image) (are_many image) (first_unasked image) (place_in image)) n
    ∙ ap (λ x. refusal_by (Some entry) static before name x (are_many image) (first_unasked image) (place_in image)) l

-- the refusal of an image with an entry and without functions that nobody would call, with the results
-- of the last three tests put in
uncalled : (image : MemoryImage) (entry : ℕ) (many : Bool) (code : Option (List ℕ)) (place : Option ℕ) → entry_of image ≡ Some entry → HasNoCalls image
    → are_many image ≡ many → first_unasked image ≡ code → place_in image ≡ place
    → executable_refusal image ≡ refusal_by (Some entry) false false None None many code place
uncalled image entry many code place e c m w p =
    with-entry image entry false false None None e c.static c.before c.initialized c.finalized
    ∙ ap (λ x. refusal_by (Some entry) false false None None x (first_unasked image) (place_in image)) m
    ∙ ap (λ x. refusal_by (Some entry) false false None None many x (place_in image)) w
    ∙ ap (λ x. refusal_by (Some entry) false false None None many code x) p

pub no-entry : (image : MemoryImage) → entry_of image ≡ None → executable_refusal image ≡ Some NoEntry
unfolding executable_refusal
no-entry image e =
    ap (λ x. refusal_by x (is_static_pie image) (is_uncalled_before image) (first_uninitialized image) (first_unfinalized image) (are_many image) (first_unasked image) (place_in image)) e

pub static-pie : (image : MemoryImage) (entry : ℕ) → entry_of image ≡ Some entry → is_static_pie image ≡ true → executable_refusal image ≡ Some StaticPie
static-pie image entry e t = with-entry image entry true _ _ _ e t refl refl refl

pub pre-initializers : (image : MemoryImage) (entry : ℕ) → entry_of image ≡ Some entry → is_static_pie image ≡ false → is_uncalled_before image ≡ true → executable_refusal image ≡ Some PreInitializers
pre-initializers image entry e t b = with-entry image entry false true _ _ e t b refl refl

pub initializers : (image : MemoryImage) (entry : ℕ) (name : List ℕ) → entry_of image ≡ Some entry → is_static_pie image ≡ false → is_uncalled_before image ≡ false → first_uninitialized image ≡ Some name
    → executable_refusal image ≡ Some (Initializers name)
initializers image entry name e t b n = with-entry image entry false false (Some name) _ e t b n refl

pub finalizers : (image : MemoryImage) (entry : ℕ) (name : List ℕ) → entry_of image ≡ Some entry → is_static_pie image ≡ false → is_uncalled_before image ≡ false → first_uninitialized image ≡ None
    → first_unfinalized image ≡ Some name → executable_refusal image ≡ Some (Finalizers name)
finalizers image entry name e t b n l = with-entry image entry false false None (Some name) e t b n l

pub too-many : (image : MemoryImage) (entry : ℕ) → entry_of image ≡ Some entry → HasNoCalls image
    → MOST_HEADERS < header_count_of (pieces_of image.segments) → executable_refusal image ≡ Some TooManyHeaders
too-many image entry e c m = uncalled image entry true _ _ e c (grind (arith, nat_tests)) refl refl

pub writable-code : (image : MemoryImage) (entry : ℕ) (name : List ℕ) → entry_of image ≡ Some entry → HasNoCalls image
    → header_count_of (pieces_of image.segments) ≤ MOST_HEADERS → first_unasked image ≡ Some name → executable_refusal image ≡ Some (WritableCode name)
writable-code image entry name e c m w = uncalled image entry false (Some name) _ e c (grind (arith, nat_tests)) w refl

pub no-room : (image : MemoryImage) (entry : ℕ) → entry_of image ≡ Some entry → HasNoCalls image
    → header_count_of (pieces_of image.segments) ≤ MOST_HEADERS → first_unasked image ≡ None → place_of (pieces_of image.segments) ≡ None → executable_refusal image ≡ Some NoPages
no-room image entry e c m w p = uncalled image entry false None None e c (grind (arith, nat_tests)) w p

pub none-applies : (image : MemoryImage) (entry place : ℕ) → entry_of image ≡ Some entry → HasNoCalls image
    → header_count_of (pieces_of image.segments) ≤ MOST_HEADERS → first_unasked image ≡ None → place_of (pieces_of image.segments) ≡ Some place → executable_refusal image ≡ None
none-applies image entry place e c m w p = uncalled image entry false None (Some place) e c (grind (arith, nat_tests)) w p

entry-by : (a entry : ℕ) (x t y : Bool) → nat_le a MEMORY_LIMIT ≡ t → cond (x && t && y) (Some a) None ≡ Some entry → entry ≤ MEMORY_LIMIT
entry-by a entry true true true e h = let same : a ≡ entry = cc in let low : a ≤ MEMORY_LIMIT = grind (arith, nat_tests) in omega (arith, same, low)
entry-by a entry true true false e h = cc
entry-by a entry true false y e h = cc
entry-by a entry false t y e h = cc

entry-among-low : (objects : List ImageObject) (segments : List ImageSegment) (entry : ℕ) → entry_among objects segments ≡ Some entry → entry ≤ MEMORY_LIMIT
entry-among-low [] segments entry h = cc
entry-among-low (p ∷ rest) segments entry h =
    entry-by (p.base + p.addresses.entry) entry (not (p.addresses.entry == 0)) (nat_le (p.base + p.addresses.entry) MEMORY_LIMIT)
    (list_any (is_code (p.base + p.addresses.entry)) (take p.segment_count segments)) refl h

-- the entry of an image isn't above the limit
pub entry-low : (image : MemoryImage) (entry : ℕ) → entry_of image ≡ Some entry → entry ≤ MEMORY_LIMIT
entry-low image entry h = entry-among-low image.objects image.segments entry h
