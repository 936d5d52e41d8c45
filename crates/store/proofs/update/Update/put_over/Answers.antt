use Rattle.std.proofs.Common.{ℕ, ◌≡◌, ◌≢◌, ◌<◌, All, IsFalse, List, length, get_or, set, Err, Ok, refl, sym, subst, ap, ◌∙◌, arith}
use Rattle.std.proofs.lemmas.List.{length-set}
use Rattle.std.proofs.lemmas.Result.{err_from_is_err_and}
use Rattle.states.specs.State.{State}
use Rattle.store.specs.declared.edit.Edit.TheVariants.{Replace}
use Rattle.store.specs.declared.placed_entry.PlacedEntry.{PlacedEntry}
use Rattle.store.specs.Draft.{IsDraftedAt, IsDraftedNamed, IsDraftedOver}
use Rattle.store.specs.Names.{IsName}
use Rattle.store.specs.Stands.{catalogues_of, entry_sectors, name_of}
use Rattle.store.specs.Step.{IsExactAnswer, refusal_of_put}
use Rattle.store.specs.inside.Draft.{ArePreloads, IsDraftCounted, IsDraftList, IsStagedIn, KeepsList, drafting, own_in, spare_of}
use Rattle.store.specs.inside.Room.{AreClaimedOnce, IsReleased}
use Rattle.store.proofs.DraftCounted.{refused_as, taken_drafted}
use Rattle.store.proofs.DraftKept.{drafting_as, keeps_both, layout_keeps, redrafted, took_usable}
use Rattle.store.proofs.DraftLists.{list_set, preloads_within}
use Rattle.store.proofs.DraftPuts.{back_staged, over_held, over_staged, put_apart, put_bytes, put_failed, put_library, put_line, put_place, put_stands, put_still, put_unlisted}
use Rattle.store.proofs.DraftStates.{set_at}
use Rattle.store.proofs.Libraries.{name_fits}
use Rattle.store.proofs.Preparing.{answered_exactly, edited_map}
use Rattle.store.proofs.UsedAlone.{no_entry}
use Rattle.store.proofs.update.Update.put_over.Given as given
use Rattle.store.proofs.update.Update.put_over.Goals.{After-take_over, After-write_draft, After-index, After-leave}
use Rattle.store.proofs.update.Update.put_over.Goals as goal

-- the position of the entry with the name is in the list
there : (g : given.Over) (c : After-take_over g) → c.in-Some.position < length c.self.inside.draft.entries.items
there g c = omega (arith, c.in-Some.ensures.some.0, ap length c.deref.ensures.value)

named : (g : given.Over) (c : After-take_over g) (d : PlacedEntry) → name_of (get_or c.self.inside.draft.entries.items c.in-Some.position d).entry ≡ c.args.name.now
named g c d = subst (λ (l : List PlacedEntry). name_of (get_or l c.in-Some.position d).entry ≡ c.args.name.now) c.deref.ensures.value (c.in-Some.ensures.some.1 d)

count_is : (g : given.Over) (c : After-take_over g) → c.len-libraries.result ≡ length c.self.inside.draft.entries.items
count_is g c = omega (arith, c.len-libraries.ensures)

counted : (g : given.Over) (c : After-take_over g) (sectors : ℕ) (d : State) → IsDraftCounted c.self.inside.kept (length c.self.inside.draft.entries.items) sectors d
    → IsDraftCounted c.self.inside.kept c.len-libraries.result sectors d
counted g c sectors d is = subst (λ n. IsDraftCounted c.self.inside.kept n sectors d) (sym (count_is g c)) is

-- the current list is kept by taking room and by the writes
keeps : (g : given.Over) (c : After-write_draft g) → KeepsList c.self.inside.kept c.write_draft.new.self
keeps g c = keeps_both (layout_keeps c.self.inside.kept c.take_over.new.self c.in_ok-put.ensures.takes.kept) c.write_draft.ensures.kept

-- the current list is kept by freeing sectors too
keeps_all : (g : given.Over) (c : After-leave g) → KeepsList c.self.inside.kept c.leave.new.self
keeps_all g c = keeps_both (keeps_both (layout_keeps c.self.inside.kept c.take_over.new.self c.in_ok-put.ensures.takes.kept) c.write_draft.ensures.kept)
    (layout_keeps c.write_draft.new.self c.leave.new.self c.leave.ensures.kept)

pub unreachable-requires : goal.unreachable-requires
unreachable-requires g c =
    let at = subst (λ u. IsDraftedNamed u c.args.name.now c.requires.present.0) (sym c.self.view_is) c.requires.present.1 in
    let none = subst (All (λ (placed : PlacedEntry). name_of placed.entry ≢ c.args.name.now)) c.deref.ensures.value (c.in_default.ensures.none refl) in
    none c.requires.present.0 no_entry at.inside (at.named no_entry)

pub take_over-requires-clause-name : goal.take_over-requires-clause-name
take_over-requires-clause-name g c =
    let at = subst (λ u. IsDraftedNamed u c.args.name.now c.requires.present.0) (sym c.self.view_is) c.requires.present.1 in
    let position = c.requires.present.0 in
    subst IsName (at.named no_entry) (name_fits (get_or c.self.inside.draft.entries.items position no_entry).entry (c.self.invariant.list.fit position no_entry at.inside))

pub returns-in_err-put-clause-refused : goal.returns-in_err-put-clause-refused
returns-in_err-put-clause-refused g c =
    let here = (goal.at.returns-in_err-put-clause-refused g c).After-take_over in
    let p = err_from_is_err_and c.from_residual.result c.from_residual.ensures.1 in
    rw (p.1, p.2) (refused_as c.self.invariant g.D.Disk.facts c.self.inside.disk (g.met.D.Disk.holds_now c.self.inside.disk) (g.met.D.Disk.whole_sectors c.self.inside.disk) c.self.view_is
    (λ sectors longest d. refusal_of_put sectors longest d c.args.bytes.now) (λ first. IsExactAnswer first (Err c.in_err-put.field-0.0))
    (λ usable sectors d is. c.in_err-put.ensures.refused usable sectors d (counted g here sectors d is)))

pub write_draft-requires-clause-place : goal.write_draft-requires-clause-place
write_draft-requires-clause-place g c = put_place c.self.invariant c.in_ok-put.ensures.takes.taken

pub invariant_of-self-in_err-write_draft : goal.invariant_of-self-in_err-write_draft
invariant_of-self-in_err-write_draft g c =
    let same = keeps g (goal.at.invariant_of-self-in_err-write_draft g c).After-write_draft in
    drafting_as c.self.invariant same c.write_draft.ensures.calls.sectors
    (back_staged c.self.invariant c.in_ok-put.ensures.takes.taken same c.in_err-write_draft.ensures.given_back) refl refl refl refl refl

pub returns-in_err-write_draft-clause-line : goal.returns-in_err-write_draft-clause-line
returns-in_err-write_draft-clause-line g c =
    let p = err_from_is_err_and c.from_residual-in_err-write_draft.result c.from_residual-in_err-write_draft.ensures.1 in
    let takes = c.in_ok-put.ensures.takes in
    let wrote = c.in_err-write_draft.ensures in
    rw (p.1, p.2) (put_failed c.self.invariant takes.taken g.D.Disk.facts c.self.inside.disk c.write_draft.new.disk c.self.inside.draft c.self.view_is
    (keeps g (goal.at.returns-in_err-write_draft-clause-line g c).After-write_draft) wrote.any_moment
    (took_usable takes) c.in_err-write_draft.field-0.0 wrote.refusals wrote.calls wrote.failed tt (record { entries = refl; preloads = refl; touched = refl }))

pub returns-in_err-write_draft-clause-refused : goal.returns-in_err-write_draft-clause-refused
returns-in_err-write_draft-clause-refused g c =
    let here = (goal.at.returns-in_err-write_draft-clause-refused g c).After-take_over in
    let p = err_from_is_err_and c.from_residual-in_err-write_draft.result c.from_residual-in_err-write_draft.ensures.1 in
    let e = c.in_err-write_draft.field-0.0 in
    rw (p.1, p.2) (refused_as c.self.invariant g.D.Disk.facts c.self.inside.disk (g.met.D.Disk.holds_now c.self.inside.disk) (g.met.D.Disk.whole_sectors c.self.inside.disk) c.self.view_is
    (λ sectors longest d. refusal_of_put sectors longest d c.args.bytes.now) (λ first. IsExactAnswer first (Err e))
    (λ usable sectors d is. answered_exactly _ (Err e) (c.in_ok-put.ensures.refused usable sectors d (counted g here sectors d is)) c.in_err-write_draft.ensures.refusals))

pub leave-requires-clause-held : goal.leave-requires-clause-held
leave-requires-clause-held g c =
    let here = goal.at.leave-requires-clause-held g c in
    let same = keeps g here.After-write_draft in
    let placed = c.index.result.now in
    subst (λ l. AreClaimedOnce l (own_in c.write_draft.new.self.entries.items placed)) (sym c.in_ok-write_draft.ensures.layout)
    (subst (λ v. AreClaimedOnce c.take_over.new.self.layout (own_in v.items placed)) (sym same.entries)
    (over_held c.self.invariant c.in_ok-put.ensures.takes.taken c.in-Some.position placed (there g here.After-take_over) c.index.ensures))

pub invariant_of-self-2 : goal.invariant_of-self-2
invariant_of-self-2 g c =
    let here = goal.at.invariant_of-self-2 g c in
    let is = c.self.invariant in
    let kept = c.self.inside.kept in
    let entries = c.self.inside.draft.entries.items in
    let place = c.in-Some.position in
    let placed = c.index.result.now in
    let put = c.in_ok-put.put in
    let taken = c.in_ok-put.ensures.takes.taken in
    let same = keeps_all g here.After-leave in
    let lt = there g here.After-take_over in
    let its = c.edit.ensures.entries in
    let freed = subst (λ v. IsReleased c.take_over.new.self.layout c.leave.new.self.layout (own_in v.items placed)) (keeps g here.After-write_draft).entries
    (subst (λ l. IsReleased l c.leave.new.self.layout (own_in c.write_draft.new.self.entries.items placed)) c.in_ok-write_draft.ensures.layout c.leave.ensures.freed) in
    redrafted is same c.write_draft.ensures.calls.sectors
    (subst (IsStagedIn c.leave.new.self) (sym its)
    (over_staged is taken place placed lt c.index.ensures same freed (ap (spare_of (length (catalogues_of kept.root))) (count_is g here.After-take_over))))
    (subst (IsDraftList kept.entries.items) (sym its) (list_set is.list put taken.fits (put_unlisted is taken) (put_apart is taken) place lt (λ d. named g here.After-take_over d ∙ sym taken.its_name)))
    c.edit.ensures.index
    (c.edit.ensures.sectors ∙ ap (λ l. set l place put.at) is.places ∙ edited_map (λ (p : PlacedEntry). p.at) (Replace place put) entries ∙ ap entry_sectors (sym its))
    (subst (λ v. ArePreloads (length c.edit.new.self.entries.items) v.items) (sym c.edit.ensures.preloads)
    (preloads_within is.preloads (omega (arith, ap length its, length-set entries place put))))
    (λ _. c.in_ok-put.ensures.later)
    (λ other. absurd (other c.edit.ensures.touched))
    (λ nothing. absurd (cc (c.edit.ensures.touched, nothing)))

usable : (g : given.Over) (c : After-leave g) → IsFalse c.leave.new.self.failed
usable g c = ap (λ k. k.failed) c.leave.ensures.kept ∙ c.in_ok-write_draft.ensures.usable

pub returns-clause-line : goal.returns-clause-line
returns-clause-line g c =
    let here = (goal.at.returns-clause-line g c).After-leave in
    let takes = c.in_ok-put.ensures.takes in
    let wrote = c.in_ok-write_draft.ensures in
    put_line c.self.invariant takes.taken g.D.Disk.facts c.self.inside.disk c.write_draft.new.disk c.edit.new.self c.self.view_is (keeps_all g here) wrote.any_moment
    (took_usable takes) wrote.calls (usable g here)

pub returns-clause-ok : goal.returns-clause-ok
returns-clause-ok g c s d at =
    let here = goal.at.returns-clause-ok g c in
    let facts = g.D.Disk.facts in
    let is = c.self.invariant in
    let taken = c.in_ok-put.ensures.takes.taken in
    let wrote = c.in_ok-write_draft.ensures in
    let was = subst (λ u. IsDraftedAt facts u s d) (sym c.self.view_is) at in
    let honest = was.stands.honest in
    set_at facts (drafting c.self.inside.disk c.self.inside.kept c.self.inside.draft) (drafting c.write_draft.new.disk c.leave.new.self c.edit.new.self) was
    (put_stands is taken facts c.self.inside.disk c.write_draft.new.disk c.edit.new.self c.self.view_is (keeps_all g here.After-leave) wrote.any_moment wrote.calls (usable g here.After-leave) was.stands)
    (put_still is taken (wrote.now honest)) c.args.name.now c.args.bytes.now c.in_ok-put.put (wrote.entry honest)
    (put_library is taken (facts c.write_draft.new.disk).now (wrote.written honest))
    c.in-Some.position (there g here.After-take_over) (named g here.After-take_over) taken.its_name is.list.names
    c.edit.ensures.entries (ap (λ v. v.items) c.edit.ensures.preloads)

pub returns-clause-refused : goal.returns-clause-refused
returns-clause-refused g c =
    let here = (goal.at.returns-clause-refused g c).After-take_over in
    refused_as c.self.invariant g.D.Disk.facts c.self.inside.disk (g.met.D.Disk.holds_now c.self.inside.disk) (g.met.D.Disk.whole_sectors c.self.inside.disk) c.self.view_is
    (λ sectors longest d. refusal_of_put sectors longest d c.args.bytes.now) (λ first. IsExactAnswer first (Ok tt))
    (λ usable sectors d is. c.in_ok-put.ensures.refused usable sectors d (counted g here sectors d is))

pub returns-clause-placed : goal.returns-clause-placed
returns-clause-placed g c =
    let here = goal.at.returns-clause-placed g c in
    let facts = g.D.Disk.facts in
    let taken = c.in_ok-put.ensures.takes.taken in
    subst (λ u. IsDraftedOver facts u (drafting c.write_draft.new.disk c.leave.new.self c.edit.new.self) c.args.name.now c.args.bytes.now) c.self.view_is (record {
      position = c.in-Some.position;
      at = record { inside = there g here.After-take_over; named = named g here.After-take_over };
      put = c.in_ok-put.put;
      taken = taken_drafted c.self.invariant facts c.self.inside.disk taken.filled taken.on_disk taken.taken;
      entries = c.edit.ensures.entries;
      preloads = ap (λ v. v.items) c.edit.ensures.preloads;
      touched = c.edit.ensures.touched;
      written = λ honest. put_bytes c.self.invariant taken (facts c.write_draft.new.disk).now (c.in_ok-write_draft.ensures.written (sym c.write_draft.ensures.calls.honest ∙ honest));
    })
