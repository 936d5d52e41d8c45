use Rattle.std.proofs.Common.{◌≡◌, ◌+◌, false, true, get_or, drop, rules, sym, ap, subst, ◌∙◌}
use Rattle.std.proofs.lemmas.List.{drop_all, drop_more}
use Rattle.store.specs.Draft.{lists}
use Rattle.store.specs.inside.Draft.{IsOneOrApart}
use Rattle.store.specs.inside.Edit.{no_entry}
use Rattle.store.specs.inside.Room.{AreClaimedOnce, IsReleased}
use Rattle.store.proofs.DraftSettles.{IsSettledTo, settled_all, settled_catalogues, settled_given, settled_held, settled_listed, settled_none, settled_same}
use Rattle.store.proofs.draft_room.release_unlisted.Goals.{else-not-has_entry, then-not-has_entry}
use Rattle.store.proofs.draft_room.release_unlisted.Goals as goal

pub loop-placed-init : goal.loop-placed-init
loop-placed-init c = settled_none c.requires.can

pub has_entry-requires-clause-same : goal.has_entry-requires-clause-same
has_entry-requires-clause-same c =
    subst (λ l. IsOneOrApart l (get_or c.args.entries.now c.loop-placed.placed-index no_entry)) (sym c.deref.ensures.value)
    (settled_same c.requires.can c.loop-placed.placed-index no_entry c.loop-placed-test.true)

pub give_up-requires-clause-held : goal.give_up-requires-clause-held
give_up-requires-clause-held c =
    let entries = c.args.entries.now in
    let drafted = c.args.draft.now.entries.items in
    let i = c.loop-placed.placed-index in
    let e = get_or entries i no_entry in
    let to = subst (IsSettledTo entries drafted c.args.held.now c.loop-placed.held c.args.layout.now c.loop-placed.layout)
    (drop_more entries i no_entry c.loop-placed-test.true) c.loop-placed.invariant in
    let has : c.has_entry.result ≡ false = search rules in
    let isnt : lists drafted e ≡ false = ap (λ l. lists l e) (sym c.deref.ensures.value) ∙ sym c.has_entry.ensures ∙ has in
    settled_held c.requires.can to isnt

pub loop-placed-preserved : goal.loop-placed-preserved
loop-placed-preserved c =
    let entries = c.args.entries.now in
    let drafted = c.args.draft.now.entries.items in
    let i = c.loop-placed.placed-index in
    let e = get_or entries i no_entry in
    let rest = drop (i + 1) entries in
    let to = subst (IsSettledTo entries drafted c.args.held.now c.loop-placed.held c.args.layout.now c.loop-placed.layout)
    (drop_more entries i no_entry c.loop-placed-test.true) c.loop-placed.invariant in
    let same : lists drafted e ≡ c.has_entry.result = ap (λ l. lists l e) (sym c.deref.ensures.value) ∙ sym c.has_entry.ensures in
    elim c.if-not-has_entry.branch [
      | then-not-has_entry w ↦
          let isnt : c.has_entry.result ≡ false = search rules in
          subst (λ l. IsSettledTo entries drafted c.args.held.now l c.args.layout.now c.if-not-has_entry.layout rest) (sym w.held-is)
          (subst (λ l. IsSettledTo entries drafted c.args.held.now w.give_up.new.held c.args.layout.now l rest) (sym w.layout-is)
          (settled_given c.requires.can to (same ∙ isnt) w.give_up.ensures))
      | else-not-has_entry w ↦
          let is : c.has_entry.result ≡ true = search rules in
          let listed = same ∙ is in
          subst (λ l. IsSettledTo entries drafted c.args.held.now l c.args.layout.now c.if-not-has_entry.layout rest) (sym w.held-is)
          (subst (λ l. IsSettledTo entries drafted c.args.held.now c.loop-placed.held c.args.layout.now l rest) (sym w.layout-is)
          (settled_listed c.requires.can to listed (settled_same c.requires.can i no_entry c.loop-placed-test.true listed)))
    ]

pub release_sectors-requires : goal.release_sectors-requires
release_sectors-requires c =
    let entries = c.args.entries.now in
    let to = subst (IsSettledTo entries c.args.draft.now.entries.items c.args.held.now c.loop-placed.held c.args.layout.now c.loop-placed.layout)
    (drop_all c.loop-placed.placed-index entries c.loop-placed-test.false) c.loop-placed.invariant in
    subst (AreClaimedOnce c.loop-placed.layout) (sym c.catalogues.ensures) (settled_catalogues c.requires.can to)

pub returns : goal.returns
returns c =
    let entries = c.args.entries.now in
    let to = subst (IsSettledTo entries c.args.draft.now.entries.items c.args.held.now c.loop-placed.held c.args.layout.now c.loop-placed.layout)
    (drop_all c.loop-placed.placed-index entries c.loop-placed-test.false) c.loop-placed.invariant in
    settled_all c.requires.can to (subst (IsReleased c.loop-placed.layout c.release_sectors.new.layout) c.catalogues.ensures c.release_sectors.ensures)
