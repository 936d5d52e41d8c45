use Rattle.std.proofs.Common.{rules, ◌≡◌, ◌+◌, length, sym, ap, subst, ◌∙◌, arith}
use Rattle.snapshots.specs.Snapshot.{LetsAllGo}
use Rattle.snapshots.specs.inside.HoldsAll.{HoldsFirst}
use Rattle.snapshots.proofs.HoldsAll.{memory_refused, more_held, none_held, undone_held, undone_beside}
use Rattle.snapshots.proofs.hold_all.hold_all.Goals as goal

pub hold-requires : goal.hold-requires
hold-requires g c = omega (arith, c.loop-position-test.true, c.count-position-end.ensures.value, ap length c.loop-position.invariant.held.beside.kept.2)

pub unreachable-requires : goal.unreachable-requires
unreachable-requires g c = omega (arith, c.in-Err-push.ensures.full, c.loop-position.invariant.count, c.loop-position.invariant.room, c.loop-position-test.true, c.count-position-end.ensures.value)

pub loop-position-init : goal.loop-position-init
loop-position-init g c = record {
  sound = c.requires.sound;
  count = search rules;
  room = c.requires.room;
  held = subst (HoldsFirst g.D.Disk.facts c.args.store.now c.args.store.now 0) (sym c.requires.empty) (none_held g.D.Disk.facts c.requires.sound.flags);
}

pub loop-position-preserved : goal.loop-position-preserved
loop-position-preserved g c = record {
  sound = c.loop-position.invariant.sound;
  count = search rules;
  room = omega (arith, c.loop-position.invariant.room, c.push.ensures.capacity);
  held = subst (HoldsFirst g.D.Disk.facts c.args.store.now c.hold.new.self (c.loop-position.position + 1)) (sym c.in-Ok-push.ensures.items)
      (more_held g.D.Disk.facts c.loop-position.position c.in-Ok.held c.loop-position.handles.items c.loop-position.invariant.held c.in-Ok.ensures);
}

pub returns-in-Err : goal.returns-in-Err
returns-in-Err g c =
    let held = c.loop-position.invariant.held in
    let gone = subst (λ store. LetsAllGo g.D.Disk.facts store c.release.new.store c.loop-position.handles.items) c.in-Err.ensures.err c.release.ensures in
    record {
      ok = tt;
      err = (
        memory_refused g.D.Disk.facts (held.beside.kept.3 ∙ c.requires.usable) c.in-Err.ensures,
        undone_held g.D.Disk.facts c.loop-position.invariant.sound held gone c.holds_are_sound.ensures,
      );
      beside = undone_beside g.D.Disk.facts c.loop-position.invariant.sound held gone;
    }

pub returns : goal.returns
returns g c =
    let all : c.loop-position.position ≡ length c.args.store.now.entries = omega (arith, c.loop-position-test.false, c.loop-position.auto.position-end, c.count-position-end.ensures.value) in
    record {
      ok = subst (λ n. HoldsFirst g.D.Disk.facts c.args.store.now c.loop-position.store n c.loop-position.handles.items) all c.loop-position.invariant.held;
      err = tt;
      beside = c.loop-position.invariant.held.beside;
    }
