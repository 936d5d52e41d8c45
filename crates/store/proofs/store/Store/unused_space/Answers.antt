use Rattle.std.proofs.Common.{◌≡◌, ◌+◌, ◌-◌, length, sym, ap, ◌∙◌, arith}
use Rattle.extents.specs.Layout.{unused_count}
use Rattle.extents.specs.Runs.{unused_runs}
use Rattle.extents.specs.Used.{layout_of}
use Rattle.extents.proofs.UsedLemmas.{unused_count-same, unused_runs-same}
use Rattle.states.specs.Cost.{catalogues_for, free}
use Rattle.store.specs.Holds.{in_use, layout_in_use, room_of}
use Rattle.store.proofs.Frees.{facts_of, same_layout}
use Rattle.store.proofs.store.Store.unused_space.Goals as goal

pub returns-clause-sectors : goal.returns-clause-sectors
returns-clause-sectors g c =
    let root = c.self.inside.kept.root in
    let entries = c.self.inside.kept.entries.items in
    let used = layout_of root.sectors (in_use root entries c.self.inside.kept.held) in
    c.free_count-sectors.ensures.value
    ∙ sym (unused_count-same used c.self.inside.kept.layout (same_layout root entries c.self.inside.kept.held c.self.inside.kept.layout c.self.invariant.0))
    ∙ ap (λ store. unused_count (layout_in_use store)) c.self.view_is

pub returns-clause-runs : goal.returns-clause-runs
returns-clause-runs g c =
    let root = c.self.inside.kept.root in
    let entries = c.self.inside.kept.entries.items in
    let used = layout_of root.sectors (in_use root entries c.self.inside.kept.held) in
    c.run_count.ensures
    ∙ ap length (sym (unused_runs-same used c.self.inside.kept.layout (same_layout root entries c.self.inside.kept.held c.self.inside.kept.layout c.self.invariant.0)))
    ∙ ap (λ store. length (unused_runs (layout_in_use store))) c.self.view_is

pub returns-clause-free : goal.returns-clause-free
returns-clause-free g c =
    let spare : c.catalogues_for-catalogues.result ≡ catalogues_for (length c.self.inside.kept.entries.items) =
    omega (arith, c.catalogues_for-catalogues.ensures, c.len.ensures) in
    c.saturating_sub.ensures
    ∙ ap (λ n. c.free_count-sectors.result - n) (spare ∙ ap (λ store. catalogues_for (length store.entries)) c.self.view_is)

pub returns-clause-state : goal.returns-clause-state
returns-clause-state g c s at =
    let counted = facts_of g.D.Disk.facts (λ disk honest. g.met.D.Disk.holds_now _ honest) (λ disk honest. g.met.D.Disk.whole_sectors _ honest) c.self.view_is c.self.invariant.0 at in
    let count = counted.count ∙ ap (λ store. length store.entries) c.self.view_is in
    let left : c.free_count-sectors.result ≡ free (room_of c.args.self.now) s + catalogues_for (length s.libraries) =
    c.free_count-sectors.ensures.value
    ∙ sym counted.room
    ∙ ap (λ store. free (room_of store) s + catalogues_for (length store.entries)) c.self.view_is
    ∙ ap (λ n. free (room_of c.args.self.now) s + catalogues_for n) (sym count) in
    (omega (arith, returns-clause-free g c, left, ap catalogues_for count), left)
