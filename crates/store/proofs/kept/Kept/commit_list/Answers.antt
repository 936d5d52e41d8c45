use Rattle.std.proofs.Common.{◌≡◌, ◌⊎◌, ◌+◌, ℕ, ◌<◌, ◌^◌, inl, [], List, length, true, IsTrue, Ok, Err, refl, sym, ap, subst, ◌∙◌, arith}
use Rattle.sector_disk.specs.Disk.{LeavesOnly}
use Rattle.roots.specs.declared.version.Version.TheVariants.{Two}
use Rattle.roots.specs.Root.{listed_preloads, version_of}
use Rattle.states.specs.Changes.{next}
use Rattle.states.specs.Cost.{catalogues_for}
use Rattle.states.specs.State.{State}
use Rattle.store.specs.declared.change.Staged.TheVariants.{Catalogues}
use Rattle.store.specs.declared.refusal.StoreRefusal.TheVariants.{Device, Reopen}
use Rattle.store.specs.Changed.{Changed}
use Rattle.store.specs.Draft.{IsDraftedAt, commit_calls, committed, layout_drafted, staged}
use Rattle.store.specs.NameOrder.{IsOrderOf, entry_names}
use Rattle.store.specs.Opened.{IsAt, Opened}
use Rattle.store.specs.Stands.{Stands, StandsBy, catalogues_of, entry_sectors}
use Rattle.store.specs.Taken.{AreTaken}
use Rattle.store.specs.inside.Change.{CanBeStaged, IsFollowed}
use Rattle.store.specs.inside.Committed.{Commits}
use Rattle.store.specs.inside.Draft.{drafting, own_sectors_in}
use Rattle.store.specs.inside.Kept.{IsKept}
use Rattle.store.specs.inside.Next.{IsNext, next_root}
use Rattle.store.specs.inside.Room.{AreClaimedOnce, IsReleased}
use Rattle.store.specs.inside.Stored.{IsStored, opened}
use Rattle.store.proofs.DraftCommits.{back_all, back_own, commit_can, commit_enough, commit_followed, commit_kept, commit_later, commit_next, commit_place, commit_taken, list_changed}
use Rattle.store.proofs.DraftWrites.{beside_free}
use Rattle.store.proofs.Following.{following_fits, next_catalogues, next_preloads, next_version}
use Rattle.store.proofs.KeepsHolders.{keeps_rows, keeps_table}
use Rattle.store.proofs.Outcomes.{answers_carried_out, answers_device}
use Rattle.store.proofs.Preparing.{made_changed, same_shown}
use Rattle.store.proofs.kept.Kept.commit_list.Given as given
use Rattle.store.proofs.kept.Kept.commit_list.Goals.{After-root_over-root}
use Rattle.store.proofs.kept.Kept.commit_list.Goals as goal

-- the result of `root_over` is the next root
root_is : (g : given.Over) (c : After-root_over-root g)
    → c.root_over-root.result ≡ next_root c.args.self.now.root (length c.args.draft.entries.items) c.take_catalogues-taken.result c.args.draft.preloads.items
root_is g c =
    let root = c.args.self.now.root in
    let count : c.len-libraries.result ≡ length c.args.draft.entries.items = omega (arith, c.len-libraries.ensures) in
    c.root_over-root.ensures
    ∙ ap (λ n. next_root root n c.as_slice.result.now c.as_slice-preloads.result.now) count
    ∙ ap (λ l. next_root root (length c.args.draft.entries.items) l c.as_slice-preloads.result.now) c.as_slice.ensures.value
    ∙ ap (next_root root (length c.args.draft.entries.items) c.take_catalogues-taken.result) c.as_slice-preloads.ensures.value

count_is : (g : given.Over) (c : After-root_over-root g) → length c.take_catalogues-taken.result ≡ catalogues_for (length c.args.draft.entries.items)
count_is g c =
    let count : c.len-libraries.result ≡ length c.args.draft.entries.items = omega (arith, c.len-libraries.ensures) in
    c.take_catalogues-taken.ensures.count ∙ c.catalogues_for.ensures ∙ ap catalogues_for count

later : (g : given.Over) (c : After-root_over-root g) → c.args.self.now.root.generation + 1 < 2 ^ 64
later g c = commit_later c.requires.drafting (list_changed c.args.draft.touched c.requires.list)

-- the next root lists the draft
listing : (g : given.Over) (c : After-root_over-root g)
    → IsNext c.args.self.now.root c.args.draft.entries.items c.take_catalogues-taken.result c.args.draft.preloads.items c.root_over-root.result
listing g c = commit_next c.requires.drafting c.take_catalogues-taken.ensures.claimed (root_is g c) (count_is g c) (later g c)

-- the catalogues and the next root turn the current state into the draft's state
follows : (g : given.Over) (c : After-root_over-root g) (places : List ℕ) → places ≡ c.args.draft.sectors.items → (s d : State)
    → IsDraftedAt g.D.Disk.facts (drafting c.args.disk.now c.args.self.now c.args.draft) s d
    → IsFollowed Two c.args.self.now.root c.args.self.now.entries.items s (g.D.Disk.facts c.args.disk.now).now (staged (drafting c.args.disk.now c.args.self.now c.args.draft))
    (record { staged = Catalogues c.take_catalogues-taken.result; root = c.root_over-root.result }) [] places c.args.draft.entries.items (next s d.libraries d.preloads)
follows g c places are s d at =
    commit_followed c.requires.drafting at (g.met.D.Disk.holds_now _ at.stands.honest) c.take_catalogues-taken.ensures.claimed (root_is g c) (count_is g c) (later g c) places are

pub take_catalogues-taken-requires-clause-enough : goal.take_catalogues-taken-requires-clause-enough
take_catalogues-taken-requires-clause-enough g c =
    omega (arith, c.catalogues_for.ensures, c.len-libraries.ensures, commit_enough c.requires.drafting)

pub carry_out-made-requires-clause-root : goal.carry_out-made-requires-clause-root
carry_out-made-requires-clause-root g c =
    following_fits (listing g (goal.at.carry_out-made-requires-clause-root g c).After-root_over-root) c.requires.drafting.staged.stands.root_fits

pub carry_out-made-requires-clause-room : goal.carry_out-made-requires-clause-room
carry_out-made-requires-clause-room g c =
    let before = (goal.at.carry_out-made-requires-clause-room g c).After-root_over-root in
    subst (CanBeStaged (g.D.Disk.facts c.args.disk.now).sectors (Catalogues c.take_catalogues-taken.result)) (sym c.deref.ensures.value)
    (commit_place c.requires.drafting c.take_catalogues-taken.ensures.claimed (root_is g before) (count_is g before) (later g before))

pub leave_all-requires-clause-held : goal.leave_all-requires-clause-held
leave_all-requires-clause-held g c =
    let before = (goal.at.leave_all-requires-clause-held g c).After-root_over-root in
    subst (λ l. AreClaimedOnce c.give_back.new.layout (own_sectors_in c.args.self.now.entries.items l)) (sym c.deref-in-Err.ensures.value)
    (back_own c.requires.drafting c.take_catalogues-taken.ensures.claimed (root_is g before) c.give_back.ensures)

pub returns-in-Err-clause-stored : goal.returns-in-Err-clause-stored
returns-in-Err-clause-stored g c =
    let before = (goal.at.returns-in-Err-clause-stored g c).After-root_over-root in
    let is = c.requires.drafting in
    let freed = subst (λ l. IsReleased c.give_back.new.layout c.leave_all.new.self.layout (own_sectors_in c.args.self.now.entries.items l)) c.deref-in-Err.ensures.value c.leave_all.ensures.freed in
    subst (IsStored (g.D.Disk.facts c.carry_out-made.new.disk).sectors) (sym c.leave_all.ensures.kept) (
      back_all is c.take_catalogues-taken.ensures.claimed (root_is g before) c.give_back.ensures freed,
      is.indexed,
      c.carry_out-made.ensures.calls.sectors ∙ is.size,
      λ _. is.listed,
      is.two,
    )

pub returns-in-Err-clause-commits : goal.returns-in-Err-clause-commits
returns-in-Err-clause-commits g c =
    let before = (goal.at.returns-in-Err-clause-commits g c).After-root_over-root in
    let is = c.requires.drafting in
    let kept = c.args.self.now in
    let u = drafting c.args.disk.now kept c.args.draft in
    let facts = g.D.Disk.facts in
    let after = c.carry_out-made.new.disk in
    let taken = c.take_catalogues-taken in
    let failed : Opened g.row.D.Denot = record { disk = after; root = kept.root; entries = kept.entries.items; held = kept.held; failed = true } in
    subst (λ k. Commits facts u (opened after k) (Err c.from.result)) (sym c.leave_all.ensures.kept) (record {
      any_moment = λ s d at. subst (λ t. LeavesOnly (facts c.args.disk.now) (facts after) (λ m. Stands m s ⊎ Stands m (committed t s d))) (sym c.requires.list)
          ((c.carry_out-made.ensures.carried_out at.stands.honest).any_moment
          (record { version = Two; root = kept.root; entries = kept.entries.items; before = s; written = staged u; others = c.args.draft.entries.items; after = next s d.libraries d.preloads })
          (record { stands = at.stands.stands; followed = follows g before c.deref.result.now c.deref.ensures.value s d at }));
      ok = λ s d at. tt;
      held = keeps_table is.staged.stands taken.result (beside_free is.staged.stands is.staged.claimed taken.ensures.claimed) c.carry_out-made.ensures.others;
      on_any_disk = subst (λ t. Changed facts Device Reopen (opened c.args.disk.now kept) failed (commit_calls t (length c.args.draft.entries.items)) (λ e. (e ≡ Device) ⊎ (e ≡ Reopen)) (Err c.from.result)) (sym c.requires.list)
          (made_changed facts refl (same_shown kept) (Err c.from.result) (answers_device facts {new = failed} c.requires.usable c.from.result c.from.ensures c.in-Err.ensures.calls refl)
          (omega (arith, count_is g before)) (inl refl));
      entries = tt;
      preloads = tt;
      placed = tt;
      catalogues = tt;
      given_up = (refl, refl, refl);
      same = λ nothing. absurd (list_changed c.args.draft.touched c.requires.list nothing);
    })

pub enter-requires-clause-can : goal.enter-requires-clause-can
enter-requires-clause-can g c =
    let before = (goal.at.enter-requires-clause-can g c).After-root_over-root in
    commit_can c.requires.drafting c.take_catalogues-taken.ensures.claimed (root_is g before) (count_is g before) (later g before)

pub returns-clause-stored : goal.returns-clause-stored
returns-clause-stored g c =
    let before = (goal.at.returns-clause-stored g c).After-root_over-root in
    let is = c.requires.drafting in
    let its = c.enter.ensures in
    let new = c.enter.new.self in
    let draft = c.args.draft in (
      subst (λ r. IsKept r new.entries.items new.held new.layout) (sym its.root)
          (subst (λ l. IsKept c.root_over-root.result l.items new.held new.layout) (sym its.entries)
          (commit_kept is c.take_catalogues-taken.ensures.claimed (root_is g before) (count_is g before) (later g before) its.settled)),
      subst (λ l. IsOrderOf (entry_names l.items) new.index.positions) (sym its.entries)
          (subst (λ x. IsOrderOf (entry_names draft.entries.items) x.positions) (sym its.index) is.index),
      c.carry_out-made.ensures.calls.sectors ∙ is.size ∙ sym (ap (λ r. r.sectors) (its.root ∙ root_is g before)),
      λ _. ap (λ v. v.items) its.sectors ∙ is.places ∙ ap (λ v. entry_sectors v.items) (sym its.entries),
      ap version_of its.root ∙ next_version (listing g before) is.staged.stands.root_fits,
    )

pub returns-clause-commits : goal.returns-clause-commits
returns-clause-commits g c =
    let before = (goal.at.returns-clause-commits g c).After-root_over-root in
    let is = c.requires.drafting in
    let kept = c.args.self.now in
    let u = drafting c.args.disk.now kept c.args.draft in
    let facts = g.D.Disk.facts in
    let after = c.carry_out-made.new.disk in
    let taken = c.take_catalogues-taken in
    let its = c.enter.ensures in
    let new = opened after c.enter.new.self in
    record {
      any_moment = λ s d at. subst (λ t. LeavesOnly (facts c.args.disk.now) (facts after) (λ m. Stands m s ⊎ Stands m (committed t s d))) (sym c.requires.list)
          ((c.carry_out-made.ensures.carried_out at.stands.honest).any_moment
          (record { version = Two; root = kept.root; entries = kept.entries.items; before = s; written = staged u; others = c.args.draft.entries.items; after = next s d.libraries d.preloads })
          (record { stands = at.stands.stands; followed = follows g before c.deref.result.now c.deref.ensures.value s d at }));
      ok = λ s d at. subst (λ t. IsAt facts new (committed t s d)) (sym c.requires.list) (record {
        honest = subst IsTrue (sym c.carry_out-made.ensures.calls.honest) at.stands.honest;
        usable = its.usable;
        stands = λ m mixture. subst (λ r. StandsBy Two m r new.entries (next s d.libraries d.preloads)) (sym its.root)
            (subst (λ l. StandsBy Two m c.root_over-root.result l.items (next s d.libraries d.preloads)) (sym its.entries)
            ((c.in_default.ensures.carried_out at.stands.honest).done
            (record { version = Two; root = kept.root; entries = kept.entries.items; before = s; written = staged u; others = c.args.draft.entries.items; after = next s d.libraries d.preloads })
            (record { stands = at.stands.stands; followed = follows g before c.deref.result.now c.deref.ensures.value s d at }) m mixture));
      });
      held = keeps_rows is.staged.stands taken.result (beside_free is.staged.stands is.staged.claimed taken.ensures.claimed) c.carry_out-made.ensures.others its.settled.keeps;
      on_any_disk = subst (λ t. Changed facts Device Reopen (opened c.args.disk.now kept) new (commit_calls t (length c.args.draft.entries.items)) (λ e. (e ≡ Device) ⊎ (e ≡ Reopen)) (Ok tt)) (sym c.requires.list)
          (made_changed facts refl (same_shown kept) (Ok tt) (answers_carried_out facts c.requires.usable c.in_default.ensures.calls its.usable)
          (omega (arith, count_is g before)) (inl refl));
      entries = ap (λ v. v.items) its.entries;
      preloads = ap listed_preloads its.root ∙ next_preloads (listing g before) is.staged.stands.root_fits;
      placed = λ _. subst (AreTaken (layout_drafted u)) (sym (ap catalogues_of its.root ∙ next_catalogues (listing g before) is.staged.stands.root_fits))
          (commit_taken is taken.result taken.ensures.taken);
      catalogues = λ other. absurd (other c.requires.list);
      given_up = tt;
      same = λ nothing. absurd (list_changed c.args.draft.touched c.requires.list nothing);
    }
