use Rattle.std.proofs.Common.{◌≡◌, ◌+◌, ◌++◌, [], ◌∷◌, List, Some, length, map, ap, ◌∙◌, refl, sym, arith}
use Rattle.std.specs.Prelude.{slice_get}
use Rattle.std.proofs.lemmas.Iterator.Consumers.{YieldsList-from_first, YieldsList-turn, YieldsList-end}
use Rattle.std.proofs.lemmas.List.{map_push, map-id, length-append}
use Rattle.std.proofs.lemmas.Option.{slice_get_read}
use Rattle.elf_file.specs.Segment.{loads, contents}
use Rattle.elf_file.specs.declared.segment.ProgramHeader.{ProgramHeader}
use Rattle.image.specs.Image.{ImageSegment}
use Rattle.image.specs.Loading.{loaded_at}
use Rattle.image.specs.inside.Segments.{fresh, padded}
use Rattle.image.proofs.Placing.{contents-fit, memory-small, reach-bounds}
use Rattle.image.proofs.load.load.Goals as goal

pub overflow_cast-size : goal.overflow_cast-size
overflow_cast-size c =
    let file = c.args.object.now in
    let h : ProgramHeader = c.in-Some.header in
    let road = YieldsList-from_first (λ (x : ProgramHeader). x) (λ (hs : List ProgramHeader). hs) (loads file)
    (c.into_iter-header-iterator.ensures.into_iter_gives ∙ c.segments-header-items.ensures.segments) in
    let turn = YieldsList-turn road c.loop-header.yielded _ c.loop-header.yielded_by _ _ h c.in-Some.is c.next.ensures.steps in
    let at : slice_get (loads file) (length c.loop-header.yielded) ≡ Some h = slice_get_read (loads file) (length (loads file)) (length c.loop-header.yielded) h refl turn.0 turn.1 in
    omega (arith, memory-small file (length c.loop-header.yielded) h c.contents_of.ensures.accepted at)

pub new-requires : goal.new-requires
new-requires c =
    let file = c.args.object.now in
    let h : ProgramHeader = c.in-Some.header in
    let road = YieldsList-from_first (λ (x : ProgramHeader). x) (λ (hs : List ProgramHeader). hs) (loads file)
    (c.into_iter-header-iterator.ensures.into_iter_gives ∙ c.segments-header-items.ensures.segments) in
    let turn = YieldsList-turn road c.loop-header.yielded _ c.loop-header.yielded_by _ _ h c.in-Some.is c.next.ensures.steps in
    let at : slice_get (loads file) (length c.loop-header.yielded) ≡ Some h = slice_get_read (loads file) (length (loads file)) (length c.loop-header.yielded) h refl turn.0 turn.1 in
    omega (arith, ap length c.in_ok-front.ensures.items, ap length c.contents_of.ensures.contents, contents-fit file (length c.loop-header.yielded) h c.contents_of.ensures.accepted at)

pub overflow_add-base : goal.overflow_add-base
overflow_add-base c =
    let file = c.args.object.now in
    let h : ProgramHeader = c.in-Some.header in
    let road = YieldsList-from_first (λ (x : ProgramHeader). x) (λ (hs : List ProgramHeader). hs) (loads file)
    (c.into_iter-header-iterator.ensures.into_iter_gives ∙ c.segments-header-items.ensures.segments) in
    let turn = YieldsList-turn road c.loop-header.yielded _ c.loop-header.yielded_by _ _ h c.in-Some.is c.next.ensures.steps in
    let at : slice_get (loads file) (length c.loop-header.yielded) ≡ Some h = slice_get_read (loads file) (length (loads file)) (length c.loop-header.yielded) h refl turn.0 turn.1 in
    omega (arith, reach-bounds file (length c.loop-header.yielded) h at, c.requires)

pub loop-header-preserved : goal.loop-header-preserved
loop-header-preserved c =
    let file = c.args.object.now in
    let base = c.args.base in
    let h : ProgramHeader = c.in-Some.header in
    let done : List ProgramHeader = c.loop-header.yielded in
    let bytes : c.in_ok-front.front.items ≡ contents file h = c.in_ok-front.ensures.items ∙ c.contents_of.ensures.contents in
    let new : ImageSegment = c.new.result in
    let view : new ≡ fresh (loaded_at base file h) =
    c.new.ensures
    ∙ ap (λ p. let s : ImageSegment = record { address = base + h.address; permissions = p; bytes = padded c.in_ok-front.front.items h.memory_size } in s) c.of_flags-permissions.ensures
    ∙ ap (λ bs. let s : ImageSegment = record (fresh (loaded_at base file h)) { bytes = padded bs h.memory_size } in s) bytes in
    record {
      items = c.push_reserved.ensures.items
          ∙ ap (λ l. l ++ new ∷ []) c.loop-header.invariant.items
          ∙ ap (λ s. map fresh (map (loaded_at base file) done) ++ s ∷ []) view
          ∙ sym (map_push fresh (map (loaded_at base file) done) (loaded_at base file h)) ∙ sym (ap (map fresh) (map_push (loaded_at base file) done h));
      len = omega (arith, c.push_reserved.ensures.len, c.loop-header.invariant.len, length-append done (h ∷ []));
      room = omega (arith, c.push_reserved.ensures.capacity, c.loop-header.invariant.room);
    }

pub push_reserved-requires : goal.push_reserved-requires
push_reserved-requires c =
    let file = c.args.object.now in
    let road = YieldsList-from_first (λ (x : ProgramHeader). x) (λ (hs : List ProgramHeader). hs) (loads file)
    (c.into_iter-header-iterator.ensures.into_iter_gives ∙ c.segments-header-items.ensures.segments) in
    let turn = YieldsList-turn road c.loop-header.yielded _ c.loop-header.yielded_by _ _ c.in-Some.header c.in-Some.is c.next.ensures.steps in
    omega (arith, turn.0, c.loop-header.invariant.len, c.loop-header.invariant.room)

pub returns-clause-ok : goal.returns-clause-ok
returns-clause-ok c =
    let file = c.args.object.now in
    let base = c.args.base in
    let road = YieldsList-from_first (λ (x : ProgramHeader). x) (λ (hs : List ProgramHeader). hs) (loads file)
    (c.into_iter-header-iterator.ensures.into_iter_gives ∙ c.segments-header-items.ensures.segments) in
    let end = YieldsList-end road c.loop-header.yielded _ c.loop-header.yielded_by _ _ c.in-None.is c.next.ensures.steps in
    c.loop-header.invariant.items
    ∙ ap (λ (hs : List ProgramHeader). map fresh (map (loaded_at base file) hs)) (sym (map-id c.loop-header.yielded) ∙ end.0)
