use Rattle.std.proofs.Common.{◌≡◌, ◌⊎◌, inl, ◌+◌, ◌<◌, ◌^◌, [], length, OnOk, refl, sym, ap, subst, ◌∙◌, arith}
use Rattle.std.proofs.lemmas.Result.{on_err_weaker, on_ok_weaker}
use Rattle.sector_disk.specs.Disk.{LeavesOnly}
use Rattle.roots.specs.Root.{listed_preloads}
use Rattle.states.specs.Changes.{next}
use Rattle.states.specs.State.{State}
use Rattle.store.specs.declared.refusal.StoreRefusal.TheVariants.{Device, Reopen}
use Rattle.store.specs.Changed.{Changed}
use Rattle.store.specs.Draft.{IsDraftedAt, commit_calls, committed}
use Rattle.store.specs.Opened.{IsAt}
use Rattle.store.specs.Stands.{Stands, catalogues_of}
use Rattle.store.specs.inside.Draft.{drafting}
use Rattle.store.specs.inside.Next.{IsNext, next_root}
use Rattle.store.specs.inside.Prepared.{Makes}
use Rattle.store.specs.inside.Stored.{opened}
use Rattle.store.proofs.DraftCommits.{choice, chosen_makes, chosen_next, chosen_ready, commit_later, preloads_alone, preloads_changed}
use Rattle.store.proofs.Following.{next_catalogues, next_preloads}
use Rattle.store.proofs.Preparing.{made_changed, same_shown}
use Rattle.store.proofs.kept.Kept.commit_preloads.Given as given
use Rattle.store.proofs.kept.Kept.commit_preloads.Goals.{After-root_over-root}
use Rattle.store.proofs.kept.Kept.commit_preloads.Goals as goal

-- the draft has the current list
same : (g : given.Over) (c : After-root_over-root g) → c.args.draft.now.entries.items ≡ c.args.self.now.entries.items
same g c = c.requires.drafting.same (preloads_alone c.args.draft.now.touched c.requires.preloads)

-- the result of `root_over` is the next root
root_is : (g : given.Over) (c : After-root_over-root g)
    → c.root_over-root.result ≡ next_root c.args.self.now.root (length c.args.self.now.entries.items) (catalogues_of c.args.self.now.root) c.args.draft.now.preloads.items
root_is g c =
    let root = c.args.self.now.root in
    let count : c.len.result ≡ length c.args.self.now.entries.items = omega (arith, c.len.ensures) in
    c.root_over-root.ensures
    ∙ ap (λ n. next_root root n c.catalogues-listed.result.now c.as_slice-preloads.result.now) count
    ∙ ap (λ l. next_root root (length c.args.self.now.entries.items) l c.as_slice-preloads.result.now) c.catalogues-listed.ensures
    ∙ ap (next_root root (length c.args.self.now.entries.items) (catalogues_of root)) c.as_slice-preloads.ensures.value

later : (g : given.Over) (c : After-root_over-root g) → c.args.self.now.root.generation + 1 < 2 ^ 64
later g c = commit_later c.requires.drafting (preloads_changed c.args.draft.now.touched c.requires.preloads)

listing : (g : given.Over) (c : After-root_over-root g)
    → IsNext c.args.self.now.root c.args.self.now.entries.items (catalogues_of c.args.self.now.root) c.args.draft.now.preloads.items c.root_over-root.result
listing g c = chosen_next c.requires.drafting (same g c) (root_is g c) (later g c)

makes : (g : given.Over) (c : After-root_over-root g) (s d : State) → (at : IsDraftedAt g.D.Disk.facts (drafting c.args.disk.now c.args.self.now c.args.draft.now) s d)
    → Makes (g.D.Disk.facts c.args.disk.now).now [] c.args.self.now (choice c.requires.drafting (same g c) (root_is g c) (later g c)) [] s (next s d.libraries d.preloads)
makes g c s d at = chosen_makes c.requires.drafting (same g c) (root_is g c) (later g c) at (g.met.D.Disk.holds_now _ at.stands.honest)

pub make-requires : goal.make-requires
make-requires g c =
    let before = (goal.at.make-requires g c).After-root_over-root in
    chosen_ready c.requires.drafting (same g before) (root_is g before) (later g before) c.requires.usable

pub returns-clause-commits : goal.returns-clause-commits
returns-clause-commits g c =
    let before = (goal.at.returns-clause-commits g c).After-root_over-root in
    let is = c.requires.drafting in
    let kept = c.args.self.now in
    let draft = c.args.draft.now in
    let facts = g.D.Disk.facts in
    let after = c.make.new.disk in
    let new = opened after c.make.new.self in
    let did = c.make.ensures in
    let result = c.make.result in
    record {
      any_moment = λ s d at. subst (λ t. LeavesOnly (facts c.args.disk.now) (facts after) (λ m. Stands m s ⊎ Stands m (committed t s d))) (sym c.requires.preloads)
          (did.any_moment [] s (next s d.libraries d.preloads) at.stands (makes g before s d at));
      ok = λ s d at. subst (λ t. OnOk result (IsAt facts new (committed t s d))) (sym c.requires.preloads)
          (did.ok [] s (next s d.libraries d.preloads) at.stands (makes g before s d at));
      held = did.held;
      on_any_disk = subst (λ t. Changed facts Device Reopen (opened c.args.disk.now kept) new (commit_calls t (length draft.entries.items)) (λ e. (e ≡ Device) ⊎ (e ≡ Reopen)) result) (sym c.requires.preloads)
          (made_changed facts refl (same_shown kept) result did.on_any_disk refl (inl refl));
      entries = on_ok_weaker result (λ made. made.entries ∙ sym (same g before)) did.made;
      preloads = on_ok_weaker result (λ made. ap listed_preloads made.root ∙ next_preloads (listing g before) is.staged.stands.root_fits) did.made;
      placed = on_ok_weaker result (λ _. λ list. absurd (preloads_alone draft.touched c.requires.preloads list)) did.made;
      catalogues = on_ok_weaker result (λ made. λ _. ap catalogues_of made.root ∙ next_catalogues (listing g before) is.staged.stands.root_fits) did.made;
      given_up = on_err_weaker result (λ all. (all.0, ap (λ v. v.items) all.1, all.2)) did.given_up;
      same = λ nothing. absurd (preloads_changed draft.touched c.requires.preloads nothing);
    }
