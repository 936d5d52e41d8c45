use Rattle.std.proofs.Common.{◌⊎◌, length, sym, subst}
use Rattle.sector_disk.specs.Disk.{LeavesOnly}
use Rattle.store.specs.Draft.{Drafted, IsDraftedAt, begun, commit_calls, committed}
use Rattle.store.specs.Stands.{Stands}
use Rattle.registry.specs.Updating.{Plans}
use Rattle.registry.specs.inside.Reading.{in_words}
use Rattle.registry.proofs.Committing.{commit_made, committed_in_words, ok_in_words, planned}
use Rattle.registry.proofs.update.Update.commit.Goals as goal

pub returns-clause-any_moment : goal.returns-clause-any_moment
returns-clause-any_moment g c s d at =
    let facts = g.D.Disk.facts in
    let here = subst (λ u. IsDraftedAt facts u s d) (sym c.self.view_is) at in
    subst (λ (u : Drafted g.row.D.Denot). LeavesOnly (facts u.store.disk) (facts c.commit-made.result.1.disk) (λ m. Stands m s ⊎ Stands m (committed u.touched s d))) c.self.view_is
    (c.commit-made.ensures.any_moment s d here)

pub returns-clause-made : goal.returns-clause-made
returns-clause-made g c old s requests answers at plans =
    let facts = g.D.Disk.facts in
    let u = c.self.inside.draft in
    let here : Plans facts (begun old) u requests answers = subst (λ (v : Drafted g.row.D.Denot). Plans facts (begun old) v requests answers) (sym c.self.view_is) plans in
    let there = (planned facts old s at (λ honest. g.met.D.Disk.holds_now _ honest) requests answers u here).at in
    let made = c.commit-made in
    rw c.in_words.ensures
    (commit_made facts old s at (λ honest. g.met.D.Disk.holds_now _ honest) requests answers u here made.result.1 (made.ensures.any_moment s _ there) (commit_calls u.touched (length u.entries)) (in_words made.result.0)
    (ok_in_words _ made.result.0 (made.ensures.ok s _ there)) (committed_in_words facts made.result.0 made.ensures.on_any_disk))
