use Rattle.std.proofs.Common.{◌≡◌, ◌∙◌, ◌+◌, ◌++◌, ◌∷◌, ◌<◌, List, [], get_or, inr, subst, ap, length, take, arith}
use Rattle.std.proofs.lemmas.List.{take_all, take_more_set}
use Rattle.image.specs.declared.object.ImageObject.{ImageObject}
use Rattle.c_answers.specs.Objects.{object_names, object_places}
use Rattle.c_answers.proofs.Objects.{end_more, names_more, places_more, room_lacks, segments_le, segments_more}
use Rattle.c_answers.proofs.Rows.{none_holds, none_given}
use Rattle.c_answers.proofs.buffers.put_objects.Goals as goal

pub returns-in_err-at-clause-small : goal.returns-in_err-at-clause-small
returns-in_err-at-clause-small c =
    let objects = c.args.image.now.objects in
    let i = c.loop-i.i in
    let o : ImageObject = c.object-item.result in
    let lt : i < length objects = omega (arith, ap length c.objects-object-items.ensures.objects) in
    let is : o ≡ get_or objects i o = subst (λ (l : List ImageObject). o ≡ get_or l i o) c.objects-object-items.ensures.objects c.object-item.is in
    none_holds c.from_residual.result
    (inr (room_lacks c.args.from objects i o lt is c.loop-i.at c.loop-i.invariant.at (length c.args.bytes.now) (omega (arith, c.in_err-at.ensures.small, c.loop-i.auto.bytes))))

pub loop-i-preserved : goal.loop-i-preserved
loop-i-preserved c =
    let objects = c.args.image.now.objects in
    let i = c.loop-i.i in
    let o : ImageObject = c.object-item.result in
    let was = c.loop-i.invariant in
    let lt : i < length objects = omega (arith, ap length c.objects-object-items.ensures.objects) in
    let is : o ≡ get_or objects i o = subst (λ (l : List ImageObject). o ≡ get_or l i o) c.objects-object-items.ensures.objects c.object-item.is in
    let own = ap (λ (x : ImageObject). x.segment_count) is in
    record {
      at = end_more c.args.from objects i o lt is c.loop-i.at was.at c.in_ok-at.at c.in_ok-at.ensures.end;
      first = omega (
        arith,
        was.first,
        own,
        segments_more objects i o lt,
        segments_le objects (i + 1),
        c.objects-object-items.ensures.counted,
        c.objects-object-items.ensures.fits,
        c.saturating_add-first_segment.ensures,
      );
      places = take_more_set c.loop-i.places i c.object_place.result (omega arith)
          ∙ ap (λ l. l ++ c.object_place.result ∷ []) was.places
          ∙ ap (λ p. object_places c.args.from 0 (take i objects) ++ p ∷ []) c.object_place.ensures
          ∙ places_more c.args.from objects i o lt is c.loop-i.at was.at c.loop-i.first_segment was.first;
      names = names_more c.args.from objects i o lt is c.loop-i.at was.at (take c.args.from c.args.bytes.now) c.loop-i.bytes c.put_name.new.names c.in_ok-at.at was.names c.in_ok-at.ensures.front;
    }

pub returns-clause-bytes : goal.returns-clause-bytes
returns-clause-bytes c =
    c.loop-i.invariant.names
    ∙ ap (λ (l : List ImageObject). take c.args.from c.args.bytes.now ++ object_names l)
    (take_all c.loop-i.i c.args.image.now.objects (omega (arith, ap length c.objects-object-items.ensures.objects)))

pub returns-in_err-at-clause-end : goal.returns-in_err-at-clause-end
returns-in_err-at-clause-end c = none_given c.from_residual.result c.from_residual.ensures _

pub returns-in_err-at-clause-bytes : goal.returns-in_err-at-clause-bytes
returns-in_err-at-clause-bytes c = none_given c.from_residual.result c.from_residual.ensures _

pub returns-in_err-at-clause-places : goal.returns-in_err-at-clause-places
returns-in_err-at-clause-places c = none_given c.from_residual.result c.from_residual.ensures _
