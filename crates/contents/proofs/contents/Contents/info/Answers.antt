use Rattle.std.proofs.Common.{◌≡◌, ◌≤◌, ◌↔◌, None, length, sym, ap, subst, arith}
use Rattle.store.specs.Holds.{lone_sectors, room_of}
use Rattle.store.specs.Opened.{IsAt}
use Rattle.store.specs.Step.{longest_unused, refusal_of_new}
use Rattle.contents.proofs.contents.Contents.info.Goals as goal

pub returns-clause-largest : goal.returns-clause-largest
returns-clause-largest g c s at file size =
    let store = c.self.inside.store in
    let here = subst (λ o. IsAt g.D.Disk.facts o s) (sym c.self.view_is) at in
    let alone : length (lone_sectors store.held) ≡ 0 = ap (λ l. length (lone_sectors l)) c.self.invariant.1 in
    let whole : room_of store ≡ (g.D.Disk.facts store.disk).sectors = omega (arith, alone, c.sectors.ensures.value, c.sectors.ensures.disk) in
    subst (λ o. (length file ≤ c.unused_space.result.largest) ↔ (refusal_of_new (g.D.Disk.facts o.disk).sectors (longest_unused o) s file ≡ None)) c.self.view_is
    (subst (λ sectors. (length file ≤ c.unused_space.result.largest) ↔ (refusal_of_new sectors (longest_unused store) s file ≡ None)) whole
    (c.unused_space.ensures.largest s here file size))
