use Rattle.std.proofs.Common.{◌≡◌, ◌≢◌, ◌+◌, All, length, Err, Ok, refl, sym, subst, ap, ◌∙◌, arith, [], ◌∷◌, ◌++◌}
use Rattle.std.specs.Int.{div_ceil}
use Rattle.std.proofs.lemmas.List.{length-append}
use Rattle.std.proofs.lemmas.Result.{err_from_is_err_and}
use Rattle.sector_disk.specs.Disk.{sector_bytes}
use Rattle.store.specs.declared.edit.Edit.TheVariants.{Append}
use Rattle.store.specs.declared.placed_entry.PlacedEntry.{PlacedEntry}
use Rattle.store.specs.Draft.{IsDraftedAt, IsDraftedBehind, IsLine, IsNewToDraft, IsSameDraft}
use Rattle.store.specs.Stands.{entry_sectors, name_of}
use Rattle.store.specs.Step.{IsAnswer, IsRefusalOfPutNew, refusal_of_new}
use Rattle.store.specs.inside.Draft.{ArePreloads, IsDraftList, IsStagedIn, KeepsList, drafting}
use Rattle.store.specs.inside.Stored.{opened}
use Rattle.store.proofs.DraftCounted.{refused_as, taken_drafted}
use Rattle.store.proofs.DraftKept.{drafting_as, keeps_both, layout_keeps, redrafted, took_keeps, took_nothing, took_usable}
use Rattle.store.proofs.DraftLines.{line_refused}
use Rattle.store.proofs.DraftLists.{list_more, preloads_within}
use Rattle.store.proofs.DraftPuts.{back_staged, more_staged, put_apart, put_bytes, put_failed, put_held, put_library, put_line, put_place, put_stands, put_still, put_unlisted}
use Rattle.store.proofs.DraftStates.{more_at}
use Rattle.store.proofs.Holding.{err_is}
use Rattle.store.proofs.Preparing.{answered, edited_map}
use Rattle.store.proofs.update.Update.put_new.Given as given
use Rattle.store.proofs.update.Update.put_new.Goals.{After-take_new, After-write_draft, After-edit}
use Rattle.store.proofs.update.Update.put_new.Goals as goal

-- the draft has more memory, and is otherwise unchanged
same_draft : (g : given.Over) (c : After-take_new g)
    → IsSameDraft (drafting c.self.inside.disk c.self.inside.kept c.self.inside.draft) (drafting c.self.inside.disk c.take_new.new.self c.take_new.new.draft)
same_draft g c = record { entries = c.take_new.ensures.entries; preloads = ap (λ v. v.items) c.take_new.ensures.preloads; touched = c.take_new.ensures.touched }

-- the current list is kept
keeps : (g : given.Over) (c : After-write_draft g) → KeepsList c.self.inside.kept c.write_draft.new.self
keeps g c = keeps_both (layout_keeps c.self.inside.kept c.take_new.new.self c.in_ok-put.ensures.takes.kept) c.write_draft.ensures.kept

-- the new entry is the last of the draft's entries
behind : (g : given.Over) (c : After-edit g) → c.edit.new.self.entries.items ≡ c.self.inside.draft.entries.items ++ c.in_ok-put.put ∷ []
behind g c = c.edit.ensures.entries ∙ ap (λ l. l ++ c.in_ok-put.put ∷ []) c.take_new.ensures.entries

still_preloads : (g : given.Over) (c : After-edit g) → c.edit.new.self.preloads.items ≡ c.self.inside.draft.preloads.items
still_preloads g c = ap (λ v. v.items) c.edit.ensures.preloads ∙ ap (λ v. v.items) c.take_new.ensures.preloads

pub returns-in_err-put-clause-line : goal.returns-in_err-put-clause-line
returns-in_err-put-clause-line g c =
    let p = err_from_is_err_and c.from_residual.result c.from_residual.ensures.1 in
    let facts = g.D.Disk.facts in
    let takes = c.in_err-put.ensures.takes in
    rw (p.1, p.2) (subst (λ u. IsLine facts u (drafting c.self.inside.disk c.take_new.new.self c.take_new.new.draft)
    (div_ceil (length c.args.bytes.now) sector_bytes + 1) IsRefusalOfPutNew (Err c.in_err-put.field-0.0)) c.self.view_is
    (line_refused facts {old = drafting c.self.inside.disk c.self.inside.kept c.self.inside.draft} {new = drafting c.self.inside.disk c.take_new.new.self c.take_new.new.draft}
    (ap (opened c.self.inside.disk) (took_nothing takes))
    c.in_err-put.field-0.0 (λ is. takes.reopen.0 (ap Err is), λ failed. err_is (takes.reopen.1 failed)) takes.early takes.refusals
    (same_draft g (goal.at.returns-in_err-put-clause-line g c).After-take_new)))

pub returns-in_err-put-clause-refused : goal.returns-in_err-put-clause-refused
returns-in_err-put-clause-refused g c =
    let p = err_from_is_err_and c.from_residual.result c.from_residual.ensures.1 in
    rw (p.1, p.2) (refused_as c.self.invariant g.D.Disk.facts c.self.inside.disk (g.met.D.Disk.holds_now c.self.inside.disk) (g.met.D.Disk.whole_sectors c.self.inside.disk) c.self.view_is
    (λ sectors longest d. refusal_of_new sectors longest d c.args.bytes.now) (λ first. IsAnswer first (Err c.in_err-put.field-0.0)) c.in_err-put.ensures.refused)

pub invariant_of-self : goal.invariant_of-self
invariant_of-self g c =
    let took = c.take_new.ensures in
    let takes = c.in_err-put.ensures.takes in
    drafting_as c.self.invariant (layout_keeps c.self.inside.kept c.take_new.new.self takes.kept) refl (took_keeps takes c.self.invariant.staged)
    took.entries took.sectors took.index (ap (λ v. v.items) took.preloads) took.touched

pub write_draft-requires-clause-place : goal.write_draft-requires-clause-place
write_draft-requires-clause-place g c = put_place c.self.invariant c.in_ok-put.ensures.takes.taken

pub write_draft-requires-clause-held : goal.write_draft-requires-clause-held
write_draft-requires-clause-held g c = put_held c.self.invariant c.in_ok-put.ensures.takes.taken

pub invariant_of-self-in_err-write_draft : goal.invariant_of-self-in_err-write_draft
invariant_of-self-in_err-write_draft g c =
    let same = keeps g (goal.at.invariant_of-self-in_err-write_draft g c).After-write_draft in
    let took = c.take_new.ensures in
    drafting_as c.self.invariant same c.write_draft.ensures.calls.sectors
    (back_staged c.self.invariant c.in_ok-put.ensures.takes.taken same c.in_err-write_draft.ensures.given_back)
    took.entries took.sectors took.index (ap (λ v. v.items) took.preloads) took.touched

pub returns-in_err-write_draft-clause-line : goal.returns-in_err-write_draft-clause-line
returns-in_err-write_draft-clause-line g c =
    let here = goal.at.returns-in_err-write_draft-clause-line g c in
    let p = err_from_is_err_and c.from_residual-in_err-write_draft.result c.from_residual-in_err-write_draft.ensures.1 in
    let takes = c.in_ok-put.ensures.takes in
    let wrote = c.in_err-write_draft.ensures in
    let draft = same_draft g here.After-take_new in
    rw (p.1, p.2) (put_failed c.self.invariant takes.taken g.D.Disk.facts c.self.inside.disk c.write_draft.new.disk c.take_new.new.draft c.self.view_is (keeps g here.After-write_draft) wrote.any_moment
    (took_usable takes) c.in_err-write_draft.field-0.0 wrote.refusals wrote.calls wrote.failed tt (record { entries = draft.entries; preloads = draft.preloads; touched = draft.touched }))

pub returns-in_err-write_draft-clause-refused : goal.returns-in_err-write_draft-clause-refused
returns-in_err-write_draft-clause-refused g c =
    let p = err_from_is_err_and c.from_residual-in_err-write_draft.result c.from_residual-in_err-write_draft.ensures.1 in
    let e = c.in_err-write_draft.field-0.0 in
    rw (p.1, p.2) (refused_as c.self.invariant g.D.Disk.facts c.self.inside.disk (g.met.D.Disk.holds_now c.self.inside.disk) (g.met.D.Disk.whole_sectors c.self.inside.disk) c.self.view_is
    (λ sectors longest d. refusal_of_new sectors longest d c.args.bytes.now) (λ first. IsAnswer first (Err e))
    (λ usable sectors d counted. answered _ (Err e) (c.in_ok-put.ensures.refused usable sectors d counted) c.in_err-write_draft.ensures.refusals))

pub invariant_of-self-2 : goal.invariant_of-self-2
invariant_of-self-2 g c =
    let here = goal.at.invariant_of-self-2 g c in
    let is = c.self.invariant in
    let entries = c.self.inside.draft.entries.items in
    let put = c.in_ok-put.put in
    let taken = c.in_ok-put.ensures.takes.taken in
    let same = keeps g here.After-write_draft in
    let its = behind g here.After-edit in
    let new = subst (λ u. IsNewToDraft u c.args.name.now) (sym c.self.view_is) c.requires.new in
    redrafted is same c.write_draft.ensures.calls.sectors
    (subst (IsStagedIn c.write_draft.new.self) (sym its) (more_staged is taken same c.in_ok-write_draft.ensures.layout refl))
    (subst (IsDraftList c.self.inside.kept.entries.items) (sym its) (list_more is.list put taken.fits (put_unlisted is taken) (put_apart is taken)
    (subst (λ name. All (λ (other : PlacedEntry). name_of other.entry ≢ name) entries) (sym taken.its_name) new) c.in_ok-put.ensures.few))
    c.edit.ensures.index
    (c.edit.ensures.sectors ∙ ap (λ l. l ++ put.at ∷ []) (c.take_new.ensures.sectors ∙ is.places) ∙ edited_map (λ (p : PlacedEntry). p.at) (Append put) entries ∙ ap entry_sectors (sym its))
    (subst (ArePreloads (length c.edit.new.self.entries.items)) (sym (still_preloads g here.After-edit))
    (preloads_within is.preloads (omega (arith, ap length its, length-append entries (put ∷ [])))))
    (λ _. c.in_ok-put.ensures.later)
    (λ other. absurd (other c.edit.ensures.touched))
    (λ nothing. absurd (cc (c.edit.ensures.touched, nothing)))

pub returns-clause-line : goal.returns-clause-line
returns-clause-line g c =
    let takes = c.in_ok-put.ensures.takes in
    let wrote = c.in_ok-write_draft.ensures in
    put_line c.self.invariant takes.taken g.D.Disk.facts c.self.inside.disk c.write_draft.new.disk c.edit.new.self c.self.view_is (keeps g (goal.at.returns-clause-line g c).After-write_draft) wrote.any_moment
    (took_usable takes) wrote.calls wrote.usable

pub returns-clause-ok : goal.returns-clause-ok
returns-clause-ok g c s d at =
    let here = goal.at.returns-clause-ok g c in
    let facts = g.D.Disk.facts in
    let is = c.self.invariant in
    let taken = c.in_ok-put.ensures.takes.taken in
    let wrote = c.in_ok-write_draft.ensures in
    let was = subst (λ u. IsDraftedAt facts u s d) (sym c.self.view_is) at in
    let honest = was.stands.honest in
    more_at facts (drafting c.self.inside.disk c.self.inside.kept c.self.inside.draft) (drafting c.write_draft.new.disk c.write_draft.new.self c.edit.new.self) was
    (put_stands is taken facts c.self.inside.disk c.write_draft.new.disk c.edit.new.self c.self.view_is (keeps g here.After-write_draft) wrote.any_moment wrote.calls wrote.usable was.stands)
    (put_still is taken (wrote.now honest)) c.args.name.now c.args.bytes.now c.in_ok-put.put (wrote.entry honest)
    (put_library is taken (facts c.write_draft.new.disk).now (wrote.written honest))
    (behind g here.After-edit) (still_preloads g here.After-edit) is.preloads.inside

pub returns-clause-refused : goal.returns-clause-refused
returns-clause-refused g c =
    refused_as c.self.invariant g.D.Disk.facts c.self.inside.disk (g.met.D.Disk.holds_now c.self.inside.disk) (g.met.D.Disk.whole_sectors c.self.inside.disk) c.self.view_is
    (λ sectors longest d. refusal_of_new sectors longest d c.args.bytes.now) (λ first. IsAnswer first (Ok tt)) c.in_ok-put.ensures.refused

pub returns-clause-placed : goal.returns-clause-placed
returns-clause-placed g c =
    let here = goal.at.returns-clause-placed g c in
    let facts = g.D.Disk.facts in
    let taken = c.in_ok-put.ensures.takes.taken in
    subst (λ u. IsDraftedBehind facts u (drafting c.write_draft.new.disk c.write_draft.new.self c.edit.new.self) c.args.bytes.now) c.self.view_is (record {
      put = c.in_ok-put.put;
      taken = taken_drafted c.self.invariant facts c.self.inside.disk taken.filled taken.on_disk taken.taken;
      entries = behind g here.After-edit;
      preloads = still_preloads g here.After-edit;
      touched = c.edit.ensures.touched;
      written = λ honest. put_bytes c.self.invariant taken (facts c.write_draft.new.disk).now (c.in_ok-write_draft.ensures.written (sym c.write_draft.ensures.calls.honest ∙ honest));
    })
