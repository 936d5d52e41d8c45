use Rattle.std.proofs.Common.{◌≡◌, ◌≤◌, ◌↔◌, ◌-◌, ◌+◌, ◌*◌, min, length, None, sym, ap, subst, ◌∙◌, arith}
use Rattle.extents.specs.Extent.{sector_count}
use Rattle.extents.specs.Layout.{unused_count}
use Rattle.extents.specs.Longest.{longest_runs}
use Rattle.states.specs.Cost.{catalogues_for}
use Rattle.store.specs.Holds.{room_of}
use Rattle.store.specs.Step.{longest_unused, refusal_of_new}
use Rattle.store.proofs.Frees.{catalogues_enough, facts_of}
use Rattle.store.proofs.UnusedSpaces.{largest_iff}
use Rattle.store.proofs.store.Store.largest.Goals as goal

pub returns-clause-state : goal.returns-clause-state
returns-clause-state g c s at bytes size =
    let entries = c.self.inside.kept.entries.items in
    let layout = c.self.inside.kept.layout in
    let count = c.catalogues_for-count.result in
    let listed = length c.catalogues.result.now in
    let two = c.self.invariant.4 in
    let more : count ≡ catalogues_for (length entries + 1) = omega (arith, c.catalogues_for-count.ensures, c.len-2.ensures) in
    let rest : count - listed ≡ count - catalogues_for (length entries) =
    ap (λ n. count - n) (ap length c.catalogues.ensures
    ∙ catalogues_enough c.self.inside.kept.root entries c.self.inside.kept.held layout c.self.invariant.0 two) in
    let counted = facts_of g.D.Disk.facts (λ disk honest. g.met.D.Disk.holds_now _ honest) (λ disk honest. g.met.D.Disk.whole_sectors _ honest) c.self.view_is c.self.invariant.0 at in
    let most : c.most_bytes.result ≡ min (512 * min (unused_count layout - (1 + count + (count - listed))) (sector_count (longest_runs layout)))
    16777216 = c.most_bytes.ensures ∙ ap (λ n. min (512 * n) 16777216) c.most_sectors-sectors.ensures in
    subst (λ n. (length bytes ≤ n) ↔ (refusal_of_new (room_of c.args.self.now) (longest_unused c.args.self.now) s bytes ≡ None)) (sym most)
    (largest_iff c.self.view_is counted (λ is. omega (arith, is, c.if-self-2.false)) (omega (arith, c.if-len-ge-MOST_LIBRARIES.false, c.len.ensures)) count (count - listed) more rest bytes size)
