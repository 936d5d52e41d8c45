use Rattle.std.proofs.Common.{List, All, IsTrue, IfOk, IfErr, sym, ap, subst, ◌∙◌, length, ◌≡◌}
use Rattle.std.proofs.lemmas.Result.{err_from_is_err_and}
use Rattle.sector_disk.specs.Disk.{sector}
use Rattle.passes.proofs.Readings.{then_reads}
use Rattle.roots.specs.Entry.{SpellsEntry}
use Rattle.store.specs.declared.placed_entry.PlacedEntry.{PlacedEntry}
use Rattle.store.specs.declared.refusal.StoreRefusal.TheVariants.{Damaged}
use Rattle.store.specs.Stands.{AreListed, entry_sectors}
use Rattle.store.proofs.Broken.{not_listed}
use Rattle.store.proofs.Founds.{entries_calls, entries_counted, entries_listed, entries_damaged}
use Rattle.store.proofs.find.read_listed_entries.Goals as goal

pub returns-in_err-listed-clause-damaged : goal.returns-in_err-listed-clause-damaged
returns-in_err-listed-clause-damaged g c honest =
    let now = (g.D.Disk.facts c.args.disk.now).now in
    let size = c.requires.sectors ∙ sym (g.met.D.Disk.holds_now _ honest).size in
    let p = err_from_is_err_and c.from_residual.result c.from_residual.ensures.1 in
    rw (p.1, p.2) (λ is. not_listed now c.args.root.now size (c.in_err-listed.ensures.unlisted honest is))

pub returns-clause-all_calls : goal.returns-clause-all_calls
returns-clause-all_calls g c = entries_calls _ _ _ _ c.read_entries.result c.deref.result.now c.read_entries.ensures.sectors c.in_ok-listed.ensures.all_calls c.read_entries.ensures.all_calls

pub returns-clause-same : goal.returns-clause-same
returns-clause-same g c honest =
    then_reads (c.read_listed.ensures.same honest) (c.read_entries.ensures.same (subst IsTrue (sym c.read_listed.ensures.calls.some.honest) honest))

pub returns-clause-count : goal.returns-clause-count
returns-clause-count g c =
    entries_counted c.args.root.now.library_count c.read_entries.result c.deref.result.now c.read_entries.ensures.sectors (ap length c.deref.ensures.value ∙ c.in_ok-listed.ensures.count)

pub returns-clause-listed : goal.returns-clause-listed
returns-clause-listed g c honest =
    let root = c.args.root.now in
    let now = (g.D.Disk.facts c.args.disk.now).now in
    let are = subst (AreListed now root.library_count root.list) (sym c.deref.ensures.value) (c.in_ok-listed.ensures.listed honest) in
    let honest_mid = subst IsTrue (sym c.read_listed.ensures.calls.some.honest) honest in
    entries_listed now root c.deref.result.now are c.read_entries.result c.read_entries.ensures.sectors
    (subst (λ m. IfOk c.read_entries.result (λ entries. All (λ placed. SpellsEntry (sector m placed.at) placed.entry) entries.items))
    (c.read_listed.ensures.same honest).same.now (c.read_entries.ensures.spelt honest_mid))

pub returns-clause-damaged : goal.returns-clause-damaged
returns-clause-damaged g c honest =
    let root = c.args.root.now in
    let now = (g.D.Disk.facts c.args.disk.now).now in
    let listed = c.deref.result.now in
    let size = c.requires.sectors ∙ sym (g.met.D.Disk.holds_now _ honest).size in
    let are = subst (AreListed now root.library_count root.list) (sym c.deref.ensures.value) (c.in_ok-listed.ensures.listed honest) in
    let honest_mid = subst IsTrue (sym c.read_listed.ensures.calls.some.honest) honest in
    entries_damaged now root listed are size c.read_entries.result
    (subst (λ m. IfErr c.read_entries.result
    (λ e. e ≡ Damaged → (entries : List PlacedEntry) → entry_sectors entries ≡ listed
    → All (λ placed. SpellsEntry (sector m placed.at) placed.entry) entries → ⊥)) (c.read_listed.ensures.same honest).same.now
    (c.read_entries.ensures.unspelt honest_mid))
