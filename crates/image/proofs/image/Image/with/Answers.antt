use Rattle.std.proofs.Common.{◌≡◌, ◌+◌, ◌≤◌, ◌++◌, [], ◌∷◌, List, ℕ, length, map, ap, ◌∙◌, sym, subst}
use Rattle.std.specs.List.{All, filter_map}
use Rattle.std.specs.Option.{option_or}
use Rattle.elf_file.specs.Segment.{loads}
use Rattle.elf_dynamic.specs.Relocation.{relocations}
use Rattle.image.specs.Bound.{bound_writes, placed_as, value_in}
use Rattle.image.specs.Byte.{byte_after}
use Rattle.image.specs.Image.{ImageSegment, MemoryImage, heading, image_byte, segments_byte}
use Rattle.image.specs.Loading.{heading_at, loaded_at, loaded_of}
use Rattle.image.specs.Relocating.{write_with}
use Rattle.image.specs.declared.object.ImageObject.{ImageObject}
use Rattle.image.specs.inside.Segments.{IsWhole}
use Rattle.image.proofs.Filled.{segments_byte-append, whole-more}
use Rattle.image.proofs.image.Image.with.Goals as goal

pub new-requires : goal.new-requires
new-requires c =
    let os : List ImageObject = c.self.inside.objects.items in
    let ss : List ImageSegment = c.self.inside.segments.items in
    let own : List ImageSegment = c.in_ok-own.own.items in
    let o : ImageObject = c.in_ok-image_object.field-0 in
    let base = c.args.bound.now.base in
    let file = c.args.object.now in
    let above : All (λ s. s.address + length s.bytes ≤ base) ss =
    subst (λ (m : MemoryImage). All (λ s. s.address + length s.bytes ≤ base) m.segments) (sym c.self.view_is) c.requires.above in
    let lie : map heading own ≡ map (heading_at base) (loads file) = c.in_ok-own.ensures.headings ∙ ap (λ n. map (heading_at n) (loads file)) c.base.ensures in
    let count : o.segment_count ≡ length (loads file) = ap (λ (x : ImageObject). x.segment_count) c.in_ok-image_object.ensures in
    subst (λ (xs : List ImageObject). IsWhole xs c.append.new.self.items) (sym c.in_ok-push.ensures.items)
    (subst (λ (ys : List ImageSegment). IsWhole (os ++ o ∷ []) ys) (sym c.in_ok-append.ensures.items)
    (whole-more os ss own o base file c.self.invariant c.in_ok-own.ensures.accepted c.requires.fits above lie count))

pub returns-clause-bytes : goal.returns-clause-bytes
returns-clause-bytes c =
    let ss : List ImageSegment = c.self.inside.segments.items in
    let own : List ImageSegment = c.in_ok-own.own.items in
    let b = c.args.bound.now in
    let file = c.args.object.now in
    λ a.
    ap (λ (m : MemoryImage). image_byte m a) c.new.ensures
    ∙ ap (λ (l : List ImageSegment). segments_byte l a) c.in_ok-append.ensures.items
    ∙ segments_byte-append ss own a
    ∙ ap (λ o. option_or (segments_byte ss a) o) (c.in_ok-own.ensures.bytes a)
    ∙ ap (λ n. option_or (segments_byte ss a)
    (byte_after (map (loaded_at n file) (loads file)) (filter_map (write_with n (value_in c.values.result.now)) (relocations file)) a)) c.base.ensures
    ∙ ap (λ (vs : List ℕ). option_or (segments_byte ss a)
    (byte_after (map (loaded_at b.base file) (loads file)) (filter_map (write_with b.base (value_in vs)) (relocations file)) a)) c.values.ensures
    ∙ ap (λ (m : MemoryImage). option_or (image_byte m a) (byte_after (loaded_of (placed_as b file)) (bound_writes b file) a)) c.self.view_is
