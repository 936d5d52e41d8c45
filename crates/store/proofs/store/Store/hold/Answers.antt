use Rattle.std.proofs.Common.{◌≡◌, ◌<◌, ◌⊎◌, inl, inr, get_or, length, Ok, Err, refl, sym, subst, ap, ◌∙◌}
use Rattle.std.proofs.lemmas.Bool.{false≢true}
use Rattle.std.proofs.lemmas.List.{get_or_default}
use Rattle.std.proofs.lemmas.Result.{err_from_is_err_and}
use Rattle.store.specs.Holds.{TakesHold}
use Rattle.store.specs.Opened.{Opened}
use Rattle.store.specs.inside.Stored.{opened}
use Rattle.store.specs.declared.placed_entry.PlacedEntry.{PlacedEntry}
use Rattle.store.specs.declared.refusal.StoreRefusal.TheVariants.{OutOfMemory, Reopen}
use Rattle.store.specs.inside.HeldRows.{IsHeldMore, IsHeldOnce}
use Rattle.store.proofs.Holding.{hold_done, hold_refused, held_lone, held_rows, kept_held, with_held}
use Rattle.store.proofs.UsedAlone.{no_entry}
use Rattle.store.proofs.store.Store.hold.Given as given
use Rattle.store.proofs.store.Store.hold.Goals.{In_ok-hold}
use Rattle.store.proofs.store.Store.hold.Goals as goal

-- the store before the call
abbrev before : (g : given.Over) (c : In_ok-hold g) → Opened g.row.D.Denot
before g c = opened c.self.inside.disk c.self.inside.kept

pub returns-then-self : goal.returns-then-self
returns-then-self g c =
    subst (λ store. TakesHold g.D.Disk.facts store store c.args.position (Err Reopen)) c.self.view_is
    (hold_refused g.D.Disk.facts (opened c.self.inside.disk c.self.inside.kept) c.self.invariant.0 c.args.position Reopen (λ _. c.if-self.true, λ _. refl) (inl refl))

pub returns-in_err-hold : goal.returns-in_err-hold
returns-in_err-hold g c =
    let store : Opened g.row.D.Denot = opened c.self.inside.disk c.self.inside.kept in
    let refused = hold_refused g.D.Disk.facts store c.self.invariant.0 c.args.position OutOfMemory (λ is. absurd (cc is), λ failed. absurd (false≢true (sym c.if-self.false ∙ failed))) (inr refl) in
    let p = err_from_is_err_and c.from_residual.result c.from_residual.ensures.1 in
    let is : p.0 ≡ OutOfMemory = p.2 ∙ c.in_err-hold.ensures.refusals in
    subst (λ result. TakesHold g.D.Disk.facts c.args.self.now (with_held store c.hold.new.self) c.args.position result) (sym (p.1 ∙ ap (λ e. Err e) is))
    (subst (λ held. TakesHold g.D.Disk.facts c.args.self.now (with_held store held) c.args.position (Err OutOfMemory)) (sym c.in_err-hold.ensures.err)
    (subst (λ old. TakesHold g.D.Disk.facts old store c.args.position (Err OutOfMemory)) c.self.view_is refused))

its : (g : given.Over) (c : In_ok-hold g) → c.index-placed.result.now ≡ get_or c.self.inside.kept.entries.items c.args.position no_entry
its g c =
    let lt = subst (λ store. c.args.position < length store.entries) (sym c.self.view_is) c.requires in
    c.index-placed.ensures ∙ get_or_default c.self.inside.kept.entries.items c.args.position _ no_entry lt

either : (g : given.Over) (c : In_ok-hold g)
    → (IsHeldOnce c.self.inside.kept.held c.hold.new.self (get_or c.self.inside.kept.entries.items c.args.position no_entry))
    ⊎ (IsHeldMore c.self.inside.kept.held c.hold.new.self (get_or c.self.inside.kept.entries.items c.args.position no_entry).at)
either g c = subst (λ (p : PlacedEntry). IsHeldOnce c.self.inside.kept.held c.hold.new.self p ⊎ IsHeldMore c.self.inside.kept.held c.hold.new.self p.at) (its g c) c.in_ok-hold.ensures.ok

pub invariant_of-self-2 : goal.invariant_of-self-2
invariant_of-self-2 g c =
    let lt = subst (λ store. c.args.position < length store.entries) (sym c.self.view_is) c.requires in
    let all = either g c in (
      kept_held c.self.invariant.0 (held_rows g.D.Disk.facts (before g c) c.self.invariant.0 c.args.position lt c.if-self.false all)
          (held_lone g.D.Disk.facts (before g c) c.self.invariant.0 c.args.position lt c.if-self.false all),
      c.self.invariant.1,
      c.self.invariant.2,
      c.self.invariant.3,
      c.self.invariant.4,
    )

pub returns : goal.returns
returns g c =
    let lt = subst (λ store. c.args.position < length store.entries) (sym c.self.view_is) c.requires in
    subst (λ at. TakesHold g.D.Disk.facts c.args.self.now (with_held (before g c) c.hold.new.self) c.args.position (Ok at)) (ap (λ (p : PlacedEntry). p.at) (sym (its g c)))
    (subst (λ old. TakesHold g.D.Disk.facts old (with_held (before g c) c.hold.new.self) c.args.position (Ok (get_or c.self.inside.kept.entries.items c.args.position no_entry).at)) c.self.view_is
    (hold_done g.D.Disk.facts (before g c) c.self.invariant.0 c.args.position lt c.if-self.false (either g c)))
