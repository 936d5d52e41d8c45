use Rattle.std.proofs.Common.{◌≡◌, ◌+◌, ◌-◌, ◌<◌, true, false, List, length, get_or, sym, ap, subst, ◌∙◌, arith}
use Rattle.extents.specs.inside.Kept.{IsKept, IsRising, flags_of}
use Rattle.extents.specs.Layout.{IsInside, AllUnused, AllClaimed, with_flag, unused_count}
use Rattle.extents.proofs.layout.Layout.claim_unused.Goals as goal
use Rattle.extents.proofs.layout.Layout.claim_unused.Goals.{After-place_of-place}
use Rattle.extents.proofs.Apart.{HasAll}
use Rattle.extents.specs.declared.extent.Extent.{Extent}
use Rattle.extents.proofs.AtPlace.{IsPlace, apart_rise, run_apart, cut_at}
use Rattle.extents.proofs.Kept.{unused_has_all, cut_flags, kept_cut, room_cut, count_is}
use Rattle.extents.proofs.Marks.{all_claimed, count_claimed, claim_undone}

pub place_of-place-requires : goal.place_of-place-requires
place_of-place-requires c = subst IsRising (sym c.as_slice.ensures) (apart_rise 2 c.self.inside.sectors c.self.inside.runs.items c.self.invariant.apart)

inside : (c : After-place_of-place) → IsInside (flags_of c.self.inside.sectors c.self.inside.runs.items) c.args.extent
inside c = subst (λ flags. IsInside flags c.args.extent) (sym c.self.view_is) c.requires.inside

unused : (c : After-place_of-place) → AllUnused (flags_of c.self.inside.sectors c.self.inside.runs.items) c.args.extent
unused c = subst (λ flags. AllUnused flags c.args.extent) (sym c.self.view_is) c.requires.unused

-- the extent lies in the run at its place
found : (c : After-place_of-place) → (c.place_of-place.result < length c.self.inside.runs.items) × HasAll (get_or c.self.inside.runs.items c.place_of-place.result c.args.extent) c.args.extent
found c =
    let place = c.place_of-place.ensures in
    unused_has_all c.self.inside.sectors c.place_of-place.result c.self.inside.runs.items c.args.extent c.self.invariant.apart
    (subst (λ runs. IsPlace runs c.args.extent.start c.place_of-place.result) c.as_slice.ensures (place.within, place.before, place.behind)) c.requires.inside.0 (unused c)

pub cut-requires-clause-within : goal.cut-requires-clause-within
cut-requires-clause-within c = omega (arith, (found (goal.at.cut-requires-clause-within c).After-place_of-place).0)

pub cut-requires-clause-front : goal.cut-requires-clause-front
cut-requires-clause-front c = (found (goal.at.cut-requires-clause-front c).After-place_of-place).1.1

pub cut-requires-clause-back : goal.cut-requires-clause-back
cut-requires-clause-back c = (found (goal.at.cut-requires-clause-back c).After-place_of-place).1.2

pub cut-requires-clause-fits : goal.cut-requires-clause-fits
cut-requires-clause-fits c = omega (
  arith,
  (run_apart c.self.inside.sectors c.place_of-place.result c.self.inside.runs.items c.args.extent c.self.invariant.apart
      (found (goal.at.cut-requires-clause-fits c).After-place_of-place).0).2,
  c.self.invariant.fits,
)

pub cut-requires-clause-room : goal.cut-requires-clause-room
cut-requires-clause-room c = λ front back. omega (
  arith,
  room_cut c.self.inside.sectors c.place_of-place.result c.self.inside.runs.items c.args.extent c.self.inside.unused
      c.self.inside.runs.capacity c.self.invariant (found (goal.at.cut-requires-clause-room c).After-place_of-place).0
      (found (goal.at.cut-requires-clause-room c).After-place_of-place).1 front back,
)

-- cutting the extent out of the runs sets the extent's flags
written : (c : After-place_of-place) (items : List Extent) → items ≡ cut_at c.place_of-place.result c.args.extent c.self.inside.runs.items
    → flags_of c.self.inside.sectors items ≡ with_flag true c.args.extent c.args.self.now
written c items is =
    ap (flags_of c.self.inside.sectors) is
    ∙ cut_flags c.self.inside.sectors c.place_of-place.result c.self.inside.runs.items c.args.extent c.self.invariant.apart (inside c) (found c).0 (found c).1
    ∙ ap (with_flag true c.args.extent) c.self.view_is

pub overflow_sub-self : goal.overflow_sub-self
overflow_sub-self c = omega (
  arith,
  c.self.invariant.count,
  count_is c.self.inside.sectors c.self.inside.runs.items c.self.invariant.apart,
  ap unused_count c.self.view_is,
  count_claimed c.args.extent c.args.self.now c.requires.inside c.requires.unused,
)

pub invariant_of-self : goal.invariant_of-self
invariant_of-self c =
    let at = c.self.inside in
    subst (λ runs. IsKept at.sectors runs (at.unused - c.args.extent.count) c.cut.new.runs.capacity) (sym c.cut.ensures.items)
    (kept_cut at.sectors c.place_of-place.result at.runs.items c.args.extent at.unused at.runs.capacity
    c.cut.new.runs.capacity c.self.invariant (omega (arith, c.cut.ensures.capacity))
    (inside (goal.at.invariant_of-self c).After-place_of-place) (unused (goal.at.invariant_of-self c).After-place_of-place)
    (found (goal.at.invariant_of-self c).After-place_of-place).0 (found (goal.at.invariant_of-self c).After-place_of-place).1)

pub returns-clause-now : goal.returns-clause-now
returns-clause-now c = written (goal.at.returns-clause-now c).After-place_of-place c.cut.new.runs.items c.cut.ensures.items

pub returns-clause-claimed : goal.returns-clause-claimed
returns-clause-claimed c =
    let extent = c.args.extent in
    record {
      inside = c.requires.inside;
      unused = c.requires.unused;
      claimed = subst (λ l. AllClaimed l extent)
          (sym (written (goal.at.returns-clause-claimed c).After-place_of-place c.cut.new.runs.items c.cut.ensures.items))
          (all_claimed extent c.args.self.now c.requires.inside);
      count = ap (λ l. unused_count l + extent.count)
          (written (goal.at.returns-clause-claimed c).After-place_of-place c.cut.new.runs.items c.cut.ensures.items)
          ∙ count_claimed extent c.args.self.now c.requires.inside c.requires.unused;
      undone = ap (with_flag false extent) (written (goal.at.returns-clause-claimed c).After-place_of-place c.cut.new.runs.items c.cut.ensures.items)
          ∙ claim_undone extent c.args.self.now c.requires.inside c.requires.unused;
    }
