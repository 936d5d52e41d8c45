use Rattle.std.proofs.Common.{◌≡◌, ℕ, ◌<◌, ◌≤◌, List, length, inl, inr, sym, ap, ◌∙◌, subst, arith, Option, Some, None}
use Rattle.std.specs.List.{All, find}
use Rattle.std.specs.Option.{option_map}
use Rattle.image.specs.Constant.{MEMORY_LIMIT}
use Rattle.image.specs.Image.{AreRising, ImageSegment, MemoryImage}
use Rattle.image.specs.Loading.{Loaded}
use Rattle.executable.specs.Constant.{MOST_HEADERS}
use Rattle.executable.specs.File.{file_with, front_of, table_of}
use Rattle.executable.specs.Piece.{end_of, pieces_of}
use Rattle.executable.specs.Place.{header_count_of, headers_room, place_of}
use Rattle.executable.specs.WritableCode.{first_unasked, is_unasked, owner_among}
use Rattle.executable.proofs.Final.{Promised, promised, file_at}
use Rattle.executable.proofs.Merged.{fine-of}
use Rattle.executable.proofs.Placing.{ends-low, contents-low, place-low}
use Rattle.executable.proofs.Refusing.{too-many, writable-code, no-room, none-applies, entry-low}
use Rattle.executable.proofs.executable.executable_of.Goals as goal

pub returns-then-len-gt-MOST_HEADERS-clause-refused : goal.returns-then-len-gt-MOST_HEADERS-clause-refused
returns-then-len-gt-MOST_HEADERS-clause-refused c =
    let e : c.in_ok-pieces.pieces.items ≡ pieces_of c.args.image.now.segments = c.in_ok-pieces.ensures ∙ ap pieces_of c.segments.ensures.segments in
    let many : MOST_HEADERS < header_count_of (pieces_of c.args.image.now.segments) = omega (arith, ap length e, c.len.ensures, c.if-len-gt-MOST_HEADERS.true) in
    inl (too-many c.args.image.now c.in_ok-entry.entry c.in_ok-entry.ensures.entry c.in_ok-entry.ensures.called many)

-- the object of the first piece that may be written and executed without a request is the owner of the
-- piece that the code found
unasked : (image : MemoryImage) (segments : List ImageSegment) (pieces : List Loaded) (found : Option Loaded)
    → segments ≡ image.segments → pieces ≡ pieces_of image.segments → found ≡ find (is_unasked segments) pieces
    → first_unasked image ≡ option_map (λ p. owner_among p image.objects image.segments) found
unasked image segments pieces found s p f =
    ap (λ (o : Option Loaded). option_map (λ p. owner_among p image.objects image.segments) o)
    (ap (λ (xs : List ImageSegment). find (is_unasked xs) (pieces_of image.segments)) (sym s) ∙ ap (λ (ps : List Loaded). find (is_unasked segments) ps) (sym p) ∙ sym f)

pub returns-in-Some-clause-refused : goal.returns-in-Some-clause-refused
returns-in-Some-clause-refused c =
    let image = c.args.image.now in
    let e : c.in_ok-pieces.pieces.items ≡ pieces_of image.segments = c.in_ok-pieces.ensures ∙ ap pieces_of c.segments.ensures.segments in
    let few : header_count_of (pieces_of image.segments) ≤ MOST_HEADERS = omega (arith, ap length e, c.len.ensures, c.if-len-gt-MOST_HEADERS.false) in
    let name = c.owner.result.now in
    let first : first_unasked image ≡ Some name =
    unasked image c.segments-2.result.now c.deref.result.now (Some c.in-Some.piece.now) c.segments-2.ensures.segments (c.deref.ensures.value ∙ e) c.in-Some.ensures
    ∙ ap (λ (n : List ℕ). Some n) (sym c.owner.ensures) in
    elim c.writable_code.ensures [
      | inl f ↦ inl (writable-code image c.in_ok-entry.entry name c.in_ok-entry.ensures.entry c.in_ok-entry.ensures.called few first ∙ ap (λ r. Some r) (sym f))
      | inr f ↦ inr f
    ]

pub place_of-requires-clause-pieces : goal.place_of-requires-clause-pieces
place_of-requires-clause-pieces c =
    let e : c.deref-2.result.now ≡ pieces_of c.args.image.now.segments = c.deref-2.ensures.value ∙ c.in_ok-pieces.ensures ∙ ap pieces_of c.segments.ensures.segments in
    subst (λ (ps : List Loaded). All (λ p. end_of p ≤ MEMORY_LIMIT) ps) (sym e)
    (ends-low 0 (pieces_of c.args.image.now.segments) (fine-of 0 c.args.image.now.segments c.segments.ensures.rising))

pub returns-in_default-place_of-clause-refused : goal.returns-in_default-place_of-clause-refused
returns-in_default-place_of-clause-refused c =
    let image = c.args.image.now in
    let e : c.in_ok-pieces.pieces.items ≡ pieces_of image.segments = c.in_ok-pieces.ensures ∙ ap pieces_of c.segments.ensures.segments in
    let few : header_count_of (pieces_of image.segments) ≤ MOST_HEADERS = omega (arith, ap length e, c.len.ensures, c.if-len-gt-MOST_HEADERS.false) in
    let none : first_unasked image ≡ None =
    unasked image c.segments-2.result.now c.deref.result.now None c.segments-2.ensures.segments (c.deref.ensures.value ∙ e) c.in_default.ensures in
    inl (no-room image c.in_ok-entry.entry c.in_ok-entry.ensures.entry c.in_ok-entry.ensures.called few none
    (ap place_of (sym (c.deref-2.ensures.value ∙ e)) ∙ sym c.in_default-place_of.ensures))

pub file_of-requires-clause-place : goal.file_of-requires-clause-place
file_of-requires-clause-place c =
    let segments = c.args.image.now.segments in
    let e : c.deref-2.result.now ≡ pieces_of segments = c.deref-2.ensures.value ∙ c.in_ok-pieces.ensures ∙ ap pieces_of c.segments.ensures.segments in
    place-low (headers_room (header_count_of (pieces_of segments))) 0 c.in-Some-place_of.place (pieces_of segments) (fine-of 0 segments c.segments.ensures.rising)
    (ap place_of (sym e) ∙ sym c.in-Some-place_of.ensures)

pub file_of-requires-clause-contents : goal.file_of-requires-clause-contents
file_of-requires-clause-contents c =
    let segments = c.args.image.now.segments in
    let e : c.in_ok-pieces.pieces.items ≡ pieces_of segments = c.in_ok-pieces.ensures ∙ ap pieces_of c.segments.ensures.segments in
    subst (λ (ps : List Loaded). All (λ p. length p.contents ≤ MEMORY_LIMIT) ps) (sym e)
    (contents-low 0 (pieces_of segments) (fine-of 0 segments c.segments.ensures.rising))

-- the file made of an image's pieces, its headers and its entry is an executable of the segments
the-file : (segments : List ImageSegment) (entry place : ℕ) (pieces : List Loaded) (file : List ℕ) → pieces ≡ pieces_of segments
    → file ≡ file_with (front_of entry (table_of place pieces)) pieces → AreRising 0 segments → entry ≤ MEMORY_LIMIT
    → header_count_of (pieces_of segments) ≤ MOST_HEADERS → place_of pieces ≡ Some place → Promised segments entry file
the-file segments entry place pieces file e f rising low few free =
    let is : file ≡ file_at entry place segments = f ∙ ap (λ (ps : List Loaded). file_with (front_of entry (table_of place ps)) ps) e in
    subst (λ (bytes : List ℕ). Promised segments entry bytes) (sym is) (promised segments entry place rising low few (ap place_of (sym e) ∙ free))

pub returns : goal.returns
returns c =
    let image = c.args.image.now in
    let segments = image.segments in
    let e : c.in_ok-pieces.pieces.items ≡ pieces_of segments = c.in_ok-pieces.ensures ∙ ap pieces_of c.segments.ensures.segments in
    let few : header_count_of (pieces_of segments) ≤ MOST_HEADERS = omega (arith, ap length e, c.len.ensures, c.if-len-gt-MOST_HEADERS.false) in
    let free : place_of c.in_ok-pieces.pieces.items ≡ Some c.in-Some-place_of.place = ap place_of (sym c.deref-2.ensures.value) ∙ sym c.in-Some-place_of.ensures in
    let none : first_unasked image ≡ None =
    unasked image c.segments-2.result.now c.deref.result.now None c.segments-2.ensures.segments (c.deref.ensures.value ∙ e) c.in_default.ensures in
    let entry = c.in_ok-entry.ensures.entry in
    let initialized = c.in_ok-entry.ensures.called in
    let rising = c.segments.ensures.rising in
    let file = the-file segments c.in_ok-entry.entry c.in-Some-place_of.place c.in_ok-pieces.pieces.items c.in_ok-file_of.field-0 e c.in_ok-file_of.ensures rising
    (entry-low image c.in_ok-entry.entry entry) few free in
    record {
      accepted = none-applies image c.in_ok-entry.entry c.in-Some-place_of.place entry initialized few none (ap place_of (sym e) ∙ free);
      refused = tt;
      header = file.executable;
      entry = entry ∙ ap (λ (n : ℕ). Some n) (sym file.begins);
      ok = file.ok;
      congruent = file.congruent;
      loads = file.loads;
      only = file.only;
      apart = file.apart;
    }
