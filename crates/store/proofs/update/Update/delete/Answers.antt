use Rattle.std.proofs.Common.{◌≡◌, ◌≢◌, ◌<◌, All, List, length, get_or, map, refl, sym, subst, ap, ◌∙◌, arith}
use Rattle.std.specs.List.{refill, remove}
use Rattle.std.proofs.lemmas.List.Edits.{length-remove}
use Rattle.store.specs.declared.placed_entry.PlacedEntry.{PlacedEntry}
use Rattle.store.specs.declared.edit.Edit.TheVariants.{Remove}
use Rattle.store.specs.Draft.{IsDraftedAt, IsDraftedNamed, IsNoPreloadOfDraft}
use Rattle.store.specs.Opened.{IsAt}
use Rattle.store.specs.Stands.{entry_sectors, name_of}
use Rattle.store.specs.inside.Draft.{ArePreloads, IsDraftList, IsStagedIn, drafting}
use Rattle.store.specs.inside.NameIndex.{closed_up}
use Rattle.store.specs.inside.Stored.{opened}
use Rattle.store.proofs.DraftKept.{layout_keeps, redrafted}
use Rattle.store.proofs.DraftLists.{closed_there, list_less, others_named, preloads_closed}
use Rattle.store.proofs.DraftPuts.{left_held, left_staged}
use Rattle.store.proofs.DraftStates.{less_at}
use Rattle.store.proofs.Preparing.{edited_map}
use Rattle.store.proofs.UsedAlone.{no_entry}
use Rattle.store.proofs.update.Update.delete.Given as given
use Rattle.store.proofs.update.Update.delete.Goals.{After-index, After-close_up}
use Rattle.store.proofs.update.Update.delete.Goals as goal

-- the position of the entry with the name is in the list
there : (g : given.Over) (c : After-index g) → c.in-Some.position < length c.self.inside.draft.entries.items
there g c = omega (arith, c.in-Some.ensures.some.0, ap length c.deref.ensures.value)

named : (g : given.Over) (c : After-index g) (d : PlacedEntry) → name_of (get_or c.self.inside.draft.entries.items c.in-Some.position d).entry ≡ c.args.name.now
named g c d = subst (λ (l : List PlacedEntry). name_of (get_or l c.in-Some.position d).entry ≡ c.args.name.now) c.deref.ensures.value (c.in-Some.ensures.some.1 d)

-- no preload is at the removed position, and the preloads after it move up
others : (g : given.Over) (c : After-index g) → All (λ position. position ≢ c.in-Some.position) c.self.inside.draft.preloads.items
others g c = others_named c.self.inside.draft.entries.items c.self.inside.draft.preloads.items c.args.name.now c.in-Some.position
    (subst (λ u. IsNoPreloadOfDraft u c.args.name.now) (sym c.self.view_is) c.requires.no_preload) (named g c)

closed : (g : given.Over) (c : After-close_up g)
    → refill (length c.edit.new.self.preloads.items) c.edit.new.self.preloads.items c.close_up.new.positions ≡ map (closed_up c.in-Some.position) c.self.inside.draft.preloads.items
closed g c = closed_there c.in-Some.position c.edit.new.self.preloads.items c.as_mut_slice.result.now c.close_up.new.positions c.as_mut_slice.ensures.value c.close_up.ensures
    ∙ ap (λ v. map (closed_up c.in-Some.position) v.items) c.edit.ensures.preloads

pub unreachable-requires : goal.unreachable-requires
unreachable-requires g c =
    let at = subst (λ u. IsDraftedNamed u c.args.name.now c.requires.present.0) (sym c.self.view_is) c.requires.present.1 in
    let none = subst (All (λ (placed : PlacedEntry). name_of placed.entry ≢ c.args.name.now)) c.deref.ensures.value (c.in_default.ensures.none refl) in
    none c.requires.present.0 no_entry at.inside (at.named no_entry)

pub leave-requires-clause-held : goal.leave-requires-clause-held
leave-requires-clause-held g c =
    let here = (goal.at.leave-requires-clause-held g c).After-index in
    left_held c.self.invariant.staged c.in-Some.position c.index.result.now (there g here) c.index.ensures

pub invariant_of-self : goal.invariant_of-self
invariant_of-self g c =
    let here = (goal.at.invariant_of-self g c).After-index in
    let is = c.self.invariant in
    let gone = c.in-Some.position in
    let entries = c.self.inside.draft.entries.items in
    let keeps = layout_keeps c.self.inside.kept c.leave.new.self c.leave.ensures.kept in
    let left = c.edit.ensures.entries in
    redrafted is keeps refl
    (subst (IsStagedIn c.leave.new.self) (sym left) (left_staged is.staged gone c.index.result.now (there g here) c.index.ensures keeps c.leave.ensures.freed))
    (subst (IsDraftList c.self.inside.kept.entries.items) (sym left) (list_less is.list gone (there g here)))
    c.edit.ensures.index
    (c.edit.ensures.sectors ∙ ap (λ l. remove l gone) is.places ∙ edited_map (λ (p : PlacedEntry). p.at) (Remove gone) entries ∙ ap entry_sectors (sym left))
    (subst (ArePreloads (length c.edit.new.self.entries.items)) (sym (closed g (goal.at.invariant_of-self g c).After-close_up))
    (preloads_closed gone is.preloads (there g here) (omega (arith, ap length left, length-remove entries gone (there g here))) (others g here)))
    (λ _. c.in_ok-test_change.ensures.later)
    (λ other. absurd (other c.edit.ensures.touched))
    (λ nothing. absurd (cc (c.edit.ensures.touched, nothing)))

pub returns-clause-ok : goal.returns-clause-ok
returns-clause-ok g c s d at =
    let here = (goal.at.returns-clause-ok g c).After-index in
    let facts = g.D.Disk.facts in
    let disk = c.self.inside.disk in
    let was = subst (λ u. IsDraftedAt facts u s d) (sym c.self.view_is) at in
    less_at facts (drafting disk c.self.inside.kept c.self.inside.draft) _ was
    (subst (λ o. IsAt facts o s) (sym (ap (opened disk) c.leave.ensures.kept)) was.stands)
    (λ k found. refl) c.args.name.now c.in-Some.position (there g here) (named g here) c.self.invariant.list.names (others g here)
    c.edit.ensures.entries (closed g (goal.at.returns-clause-ok g c).After-close_up)
