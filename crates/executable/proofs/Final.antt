-- The facts about the file that is made of segments.
use Rattle.std.proofs.Common.{◌≡◌, ℕ, ◌-◌, ◌<◌, ◌≤◌, inl, inr, List, replicate, refl, sym, ap, ◌∙◌, subst, arith, Some}
use Rattle.std.proofs.lemmas.List.{get_or-take}
use Rattle.elf_file.specs.Header.{entry_address}
use Rattle.elf_file.specs.Segment.{loads}
use Rattle.elf_file.specs.declared.segment.ProgramHeader.{ProgramHeader}
use Rattle.std.specs.List.{All}
use Rattle.executable.proofs.Congruent.{in-order-congruent}
use Rattle.image.specs.Constant.{MEMORY_LIMIT}
use Rattle.image.specs.Image.{AreRising, ImageSegment, segments_byte}
use Rattle.image.specs.Loading.{Loaded, loaded_byte_at}
use Rattle.executable.specs.Constant.{MOST_HEADERS}
use Rattle.executable.specs.File.{file_with, front_of, table_of, put_in_order, is_below}
use Rattle.executable.specs.Meaning.{IsExecutable, IsFileOf, IsFrom, IsOfHeaders, IsApart, IsCongruent, file_byte, loaded_by, headers_at}
use Rattle.executable.specs.Piece.{pieces_of}
use Rattle.executable.specs.Place.{header_count_of, headers_size, headers_room, place_of}
use Rattle.executable.proofs.Bytes.{Loads}
use Rattle.executable.proofs.Merged.{fine-of, keeps-all, only-all}
use Rattle.executable.proofs.Exact.{made, own_piece}
use Rattle.executable.proofs.Placing.{ordered, place-low, place-whole}

-- the file of segments, with its headers mapped at address `place`
abbrev pub file_at : ℕ → ℕ → List ImageSegment → List ℕ
file_at entry place segments = file_with (front_of entry (table_of place (pieces_of segments))) (pieces_of segments)

pub record Promised (segments : List ImageSegment) (entry : ℕ) (file : List ℕ) : Type 0 where
  pub ok : IsFileOf segments file
  pub executable : IsExecutable file
  pub begins : entry_address file ≡ entry
  pub congruent : All IsCongruent (loads file)
  pub loads : (a b : ℕ) → segments_byte segments a ≡ Some b → file_byte file a ≡ Some b
  pub only : (a b : ℕ) → file_byte file a ≡ Some b → IsFrom segments file a b
  pub apart : IsApart 0 (loaded_by file)

own-byte : (segments : List ImageSegment) (file : List ℕ) (place a b : ℕ) → place_of (pieces_of segments) ≡ Some place → Loads (headers_at place (pieces_of segments) file) a b
    → IsOfHeaders segments file a b
own-byte segments file place a b free h = record {
  place = place;
  free = free;
  from = h.from;
  to = h.to;
  is = sym (get_or-take (headers_size (header_count_of (pieces_of segments))) file (a - place) 0 (omega (arith, h.from, h.to))) ∙ h.is;
}

pub promised : (segments : List ImageSegment) (entry place : ℕ) → AreRising 0 segments → entry ≤ MEMORY_LIMIT
    → header_count_of (pieces_of segments) ≤ MOST_HEADERS → place_of (pieces_of segments) ≡ Some place → Promised segments entry (file_at entry place segments)
promised segments entry place rising small few free =
    let pieces = pieces_of segments in
    let file = file_at entry place segments in
    let n = header_count_of pieces in
    let fine = fine-of 0 segments rising in
    let low = place-low (headers_room n) 0 place pieces fine free in
    let m = made entry place pieces fine low small few in
    let own = headers_at place pieces file in
    let loaded : loaded_by file ≡ put_in_order (is_below place pieces) own pieces =
    m.loaded ∙ ap (λ front. put_in_order (is_below place pieces) (own_piece place n front) pieces) (sym m.front) in
    let o = ordered own place (headers_room n) pieces refl (room-holds n) (room-some n) fine free in
    record {
      ok = record { place = place; free = free; table = m.headers; loaded = loaded };
      executable = m.executable;
      begins = m.begins;
      loads = λ a b h. ap (λ xs. loaded_byte_at xs a) loaded ∙ o.keeps a b (keeps-all 0 segments a b rising h);
      only = λ a b h. elim (o.only a b (sym (ap (λ xs. loaded_byte_at xs a) loaded) ∙ h)) [
        | inl mine ↦ inr (inl (own-byte segments file place a b free mine))
        | inr piece ↦ elim (only-all 0 segments a b rising piece) [ inl same ↦ inl same | inr zero ↦ inr (inr zero) ]
      ];
      apart = apart-as loaded o.apart;
      congruent = subst (λ (hs : List ProgramHeader). All IsCongruent hs) (sym m.loads)
          (in-order-congruent (is_below place pieces) place n (replicate (headers_size n) 0) pieces (place-whole (headers_size n) place pieces free));
    }
  where
    room-holds : (n : ℕ) → headers_size n ≤ headers_room n
    room-holds n = omega arith

    room-some : (n : ℕ) → 0 < headers_room n
    room-some n = omega arith

    apart-as : {xs ys : List Loaded} → xs ≡ ys → IsApart 0 ys → IsApart 0 xs
    apart-as {xs} {ys} e h = subst (λ (zs : List Loaded). IsApart 0 zs) (sym e) h
