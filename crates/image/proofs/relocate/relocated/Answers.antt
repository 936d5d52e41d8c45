use Rattle.std.proofs.Common.{[], List, map, ap, ◌∙◌}
use Rattle.std.specs.List.{filter_map}
use Rattle.elf_dynamic.specs.Relocation.{relocations}
use Rattle.image.specs.Bound.{value_in}
use Rattle.image.specs.Image.{ImageSegment, heading, segments_byte}
use Rattle.image.specs.Placement.{Placed}
use Rattle.image.specs.Relocating.{Write, last_write_at, write_with, written_or}
use Rattle.image.proofs.Whole.{bytes-loaded, lie-loaded, refilled}
use Rattle.image.proofs.relocate.relocated.Goals as goal

pub relocate-requires-clause-headings : goal.relocate-requires-clause-headings
relocate-requires-clause-headings c =
    let p : Placed = record { name = []; file = c.args.object.now; base = c.args.base } in
    ap (map heading) (c.deref_mut.ensures.value ∙ c.in_ok-segments.ensures.ok) ∙ lie-loaded p c.load.ensures.accepted

pub returns-clause-headings : goal.returns-clause-headings
returns-clause-headings c =
    let p : Placed = record { name = []; file = c.args.object.now; base = c.args.base } in
    let old = c.in_ok-segments.segments in
    ap (map heading) (refilled old.len c.relocate.new.segments old.items (c.relocate.auto.segments ∙ c.deref_mut.ensures.len))
    ∙ c.relocate.ensures.headings ∙ ap (map heading) (c.deref_mut.ensures.value ∙ c.in_ok-segments.ensures.ok) ∙ lie-loaded p c.load.ensures.accepted

pub returns-clause-bytes : goal.returns-clause-bytes
returns-clause-bytes c =
    let p : Placed = record { name = []; file = c.args.object.now; base = c.args.base } in
    let old = c.in_ok-segments.segments in
    let new : List ImageSegment = c.relocate.new.segments in
    let ws : List Write = filter_map (write_with c.args.base (value_in c.args.values.now)) (relocations c.args.object.now) in
    λ a.
    ap (λ (ss : List ImageSegment). segments_byte ss a) (refilled old.len new old.items (c.relocate.auto.segments ∙ c.deref_mut.ensures.len))
    ∙ c.in_ok-relocate.ensures.bytes a
    ∙ ap (λ (ss : List ImageSegment). written_or (last_write_at ws a) (segments_byte ss a) a) (c.deref_mut.ensures.value ∙ c.in_ok-segments.ensures.ok)
    ∙ ap (λ o. written_or (last_write_at ws a) o a) (bytes-loaded p c.load.ensures.accepted a)
