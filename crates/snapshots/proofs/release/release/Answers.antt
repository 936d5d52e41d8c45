use Rattle.std.proofs.Common.{rules, ◌≡◌, ◌++◌, ◌∷◌, [], sym, ap, subst, ◌∙◌}
use Rattle.std.proofs.lemmas.List.{append-nil, append_assoc}
use Rattle.snapshots.specs.Snapshot.{LetsAllGo}
use Rattle.snapshots.proofs.Releases.{none_gone, one_gone}
use Rattle.snapshots.proofs.release.release.Goals as goal

pub loop-held-init : goal.loop-held-init
loop-held-init g c = ([], append-nil c.args.handles.items, none_gone g.D.Disk.facts c.holds_are_sound.ensures)

pub loop-held-preserved : goal.loop-held-preserved
loop-held-preserved g c =
    let gone = c.loop-held.invariant.0 in
    let handle = c.in-Some.held in (
      handle ∷ gone,
      sym (append_assoc c.pop.new.self.items (handle ∷ []) gone) ∙ ap (λ l. l ++ gone) (sym c.in-Some.ensures.items) ∙ c.loop-held.invariant.1,
      one_gone g.D.Disk.facts handle gone c.loop-held.invariant.2 c.let_go.ensures,
    )

pub returns : goal.returns
returns g c =
    let none : c.loop-held.left.items ≡ [] = search rules in
    subst (LetsAllGo g.D.Disk.facts c.args.store.now c.loop-held.store) (ap (λ l. l ++ c.loop-held.invariant.0) (sym none) ∙ c.loop-held.invariant.1) c.loop-held.invariant.2
