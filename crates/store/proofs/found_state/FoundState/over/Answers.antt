use Rattle.std.proofs.Common.{rules, ◌≡◌, ◌⊎◌, ◌-◌, List, inl, inr, ⊎_elim, refl, sym, subst, ap, ◌∙◌, arith}
use Rattle.std.specs.Prelude.{IfSome}
use Rattle.std.proofs.lemmas.Result.{err_from_is_err_and}
use Rattle.extents.specs.Used.{ClaimsJust}
use Rattle.store.specs.declared.placed_entry.PlacedEntry.{PlacedEntry}
use Rattle.store.specs.declared.refusal.StoreRefusal.TheVariants.{Damaged, OutOfMemory}
use Rattle.store.specs.Stands.{UsesApart, HasRoom, HaveOwnNames, entry_sectors, used}
use Rattle.store.specs.inside.NameIndex.{IsIndex}
use Rattle.store.proofs.Beside.{no_rows, none_beside, room_more}
use Rattle.store.proofs.found_state.FoundState.over.Goals as goal

pub returns-in_default-clause-refused : goal.returns-in_default-clause-refused
returns-in_default-clause-refused c =
    inr (refl, λ own apart room. c.in_ok-index.ensures.twice (search rules) (subst HaveOwnNames (sym c.deref.ensures.value) own))

pub returns-in_err-layout-clause-refused : goal.returns-in_err-layout-clause-refused
returns-in_err-layout-clause-refused c =
    let root = c.args.root in
    let which = subst (λ (l : List PlacedEntry). c.in_err-layout.field-0.0 ≡ OutOfMemory
    ⊎ ((c.in_err-layout.field-0.0 ≡ Damaged) × (UsesApart root.sectors root l → HasRoom root.sectors root.list l → ⊥))) c.deref-2.ensures.value
    c.in_err-layout.ensures.refused in
    let p = err_from_is_err_and c.from_residual-in_err-layout.result c.from_residual-in_err-layout.ensures.1 in
    rw (p.1, p.2) (⊎_elim (λ memory. inl memory) (λ both. inr (both.0, λ own apart room. both.1 apart room)) which)

pub returns-clause-kept : goal.returns-clause-kept
returns-clause-kept c =
    let root = c.args.root in
    let layout = c.in_ok-layout.layout in
    let items = c.args.entries.items in
    let both = subst (λ o. IfSome o (λ index. IsIndex c.deref.result.now index × HaveOwnNames c.deref.result.now)) c.in-Some.is c.in_ok-index.ensures.own in
    let apart = subst (UsesApart root.sectors root) c.deref-2.ensures.value c.in_ok-layout.ensures.apart in
    record {
      kept = record {
        root_fits = c.requires.root;
        size = c.in_ok-layout.ensures.size;
        counted = c.requires.counted;
        entries_fit = c.requires.entries;
        apart = apart;
        room = room_more root.sectors (root.sectors - 0) root.list items (omega arith) (subst (HasRoom root.sectors root.list) c.deref-2.ensures.value c.in_ok-layout.ensures.room);
        names = subst HaveOwnNames c.deref.ensures.value both.1;
        rows = no_rows items;
        claimed = none_beside (used root items) apart.once (subst (λ (l : List PlacedEntry). ClaimsJust layout (used root l)) c.deref-2.ensures.value c.in_ok-layout.ensures.claims);
      };
      indexed = subst (λ (l : List PlacedEntry). IsIndex l c.in-Some.index) c.deref.ensures.value both.0;
      listed = c.in_ok-sectors.ensures ∙ ap entry_sectors c.deref-3.ensures.value;
    }
