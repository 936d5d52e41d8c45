use Rattle.std.proofs.Common.{◌≡◌, [], ◌∷◌, List, length, map, None, refl, sym, ◌∙◌, subst, arith}
use Rattle.std.proofs.lemmas.Iterator.Adapters.{YieldsList-from_vec}
use Rattle.std.proofs.lemmas.Iterator.Consumers.{YieldsList-turn, YieldsList-end}
use Rattle.std.proofs.lemmas.List.{length-append}
use Rattle.image.specs.Bound.{AreBound}
use Rattle.image.specs.Refusal.{placed_refusal}
use Rattle.image.specs.inside.Bound.{IsFilled}
use Rattle.image.proofs.Filled.{filled-all, filled-more, filled-none, next-above, next-fits}
use Rattle.states.specs.State.{Library}
use Rattle.registry.specs.inside.Walked.{walked_objects}
use Rattle.registry.proofs.Owned.{IsNext, IsTurn, count-walked, next-among, next-file, next-program}
use Rattle.registry.proofs.bound.bind_owned.Goals as goal
use Rattle.registry.proofs.bound.bind_owned.Goals.{In_ok-objects, In-Some, After-object-in-loop-file}

are : (c : In_ok-objects) → AreBound (walked_objects c.args.program.now c.args.base c.args.files.items) c.in_ok-objects.objects.items
are c = subst (λ (fs : List Library). AreBound (walked_objects c.args.program.now c.args.base fs) c.in_ok-objects.objects.items) c.deref.ensures.value c.in_ok-objects.ensures.bound

turn : (c : In-Some) → IsTurn c.args.files.items c.loop-file.yielded c.in-Some.file
turn c =
    let h = c.into_iter-file-iterator.ensures.into_iter_gives in
    YieldsList-turn (YieldsList-from_vec c.args.files.items h.0 (h.1 ∙ c.args.files.ok.0)) c.loop-file.yielded c.loop-file.file-iterator c.loop-file.yielded_by
    c.next.result c.next.new.self c.in-Some.file c.in-Some.is c.next.ensures.steps

-- the object that the next file fills
next : (c : After-object-in-loop-file) → AreBound (walked_objects c.args.program.now c.args.base c.args.files.items) c.in_ok-objects.objects.items
    → IsTurn c.args.files.items c.loop-file.yielded c.in-Some.file
    → IsNext (walked_objects c.args.program.now c.args.base c.args.files.items) c.loop-file.place c.index-in-loop-file.result.now c.object-in-loop-file.result.now
next c are turn =
    next-file c.args.program.now c.args.base c.args.files.items c.in_ok-objects.objects.items are c.loop-file.yielded c.in-Some.file turn c.loop-file.place c.loop-file.invariant.place
    c.index-in-loop-file.result.now c.object-in-loop-file.result.now c.index-in-loop-file.ensures (c.object-in-loop-file.ensures.same ∙ c.admitted.ensures)

pub loop-file-init : goal.loop-file-init
loop-file-init c =
    let e = c.in_ok-image.ensures in
    let n = next-program c.args.program.now c.args.base c.args.files.items c.in_ok-objects.objects.items (are (goal.at.loop-file-init c).In_ok-objects)
    c.index.result.now c.object.result.now c.index.ensures c.object.ensures.same in
    record {
      place = refl;
      filled = filled-more _ _ _ _ n.inside n.stacked n.bound n.same c.empty.result c.in_ok-image.image
          (subst (IsFilled _ 0) (sym c.empty.ensures) (filled-none _)) e.objects e.headings e.bytes;
    }

pub index-requires-in-loop-file : goal.index-requires-in-loop-file
index-requires-in-loop-file c =
    let at = goal.at.index-requires-in-loop-file c in
    let among = next-among c.args.program.now c.args.base c.args.files.items c.in_ok-objects.objects.items (are at.In_ok-objects)
    c.loop-file.yielded c.in-Some.file (turn at.In-Some) c.loop-file.place c.loop-file.invariant.place in
    omega (arith, among, c.in_ok-objects.objects.ok.0)

pub with-requires-in-loop-file-clause-fits : goal.with-requires-in-loop-file-clause-fits
with-requires-in-loop-file-clause-fits c =
    let at = goal.at.with-requires-in-loop-file-clause-fits c in
    let n = next at.After-object-in-loop-file (are at.In_ok-objects) (turn at.In-Some) in
    next-fits _ _ _ _ n.inside n.stacked n.bound n.same

pub with-requires-in-loop-file-clause-above : goal.with-requires-in-loop-file-clause-above
with-requires-in-loop-file-clause-above c =
    let at = goal.at.with-requires-in-loop-file-clause-above c in
    let n = next at.After-object-in-loop-file (are at.In_ok-objects) (turn at.In-Some) in
    next-above _ _ _ _ n.inside n.stacked n.bound n.same c.loop-file.image c.loop-file.invariant.filled

pub loop-file-preserved : goal.loop-file-preserved
loop-file-preserved c =
    let at = goal.at.loop-file-preserved c in
    let n = next at.After-object-in-loop-file (are at.In_ok-objects) (turn at.In-Some) in
    let e = c.in_ok-image-2.ensures in
    record {
      place = omega (arith, c.loop-file.invariant.place, length-append c.loop-file.yielded (c.in-Some.file ∷ []));
      filled = filled-more _ _ _ _ n.inside n.stacked n.bound n.same c.loop-file.image c.in_ok-image-2.image c.loop-file.invariant.filled e.objects e.headings e.bytes;
    }

pub returns : goal.returns
returns c =
    let program = c.args.program.now in
    let base = c.args.base in
    let files : List Library = c.args.files.items in
    let these = are (goal.at.returns c).In_ok-objects in
    let h = c.into_iter-file-iterator.ensures.into_iter_gives in
    let end : (map (λ (y : Library). y) c.loop-file.yielded ≡ files) × (length c.loop-file.yielded ≡ length files) =
    YieldsList-end (YieldsList-from_vec files h.0 (h.1 ∙ c.args.files.ok.0)) c.loop-file.yielded c.loop-file.file-iterator c.loop-file.yielded_by
    c.next.result c.next.new.self c.in-None.is c.next.ensures.steps in
    let count : c.loop-file.place ≡ length (walked_objects program base files) = omega (arith, end.1, c.loop-file.invariant.place, count-walked program base files) in
    let whole = filled-all (walked_objects program base files) c.loop-file.image c.loop-file.place count these.stacked these.accepted c.loop-file.invariant.filled in
    let accepted = subst (λ (fs : List Library). placed_refusal (walked_objects program base fs) ≡ None) c.deref.ensures.value c.in_ok-objects.ensures.tested.accepted in
    record { tested = record { accepted = accepted; refused = tt }; ok = whole.0; bytes = whole.1 }
