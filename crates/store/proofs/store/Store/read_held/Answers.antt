use Rattle.std.proofs.Common.{inl, inr, All, Err, refl, sym, subst, ◌∙◌}
use Rattle.std.proofs.lemmas.Bool.{false≢true}
use Rattle.passes.specs.Bytes.{IsOnDisk}
use Rattle.store.specs.Stands.{extents_of}
use Rattle.store.specs.Holds.{ReadsHeld}
use Rattle.store.specs.Opened.{Opened}
use Rattle.store.specs.inside.Stored.{opened}
use Rattle.store.specs.declared.refusal.StoreRefusal.TheVariants.{Damaged}
use Rattle.store.proofs.Holding.{held_fits, held_on_disk, read_done, read_refused}
use Rattle.store.proofs.HeldRows.{holders_unheld}
use Rattle.store.proofs.store.Store.read_held.Given as given
use Rattle.store.proofs.store.Store.read_held.Goals.{After-placed}
use Rattle.store.proofs.store.Store.read_held.Goals as goal

-- the store before the call
abbrev before : (g : given.Over) (c : After-placed g) → Opened g.row.D.Denot
before g c = opened c.self.inside.disk c.self.inside.kept

-- the store after a read
abbrev read_now : (g : given.Over) (c : After-placed g) → g.row.D.Denot → Opened g.row.D.Denot
read_now g c disk = record { disk = disk; root = c.self.inside.kept.root; entries = c.self.inside.kept.entries.items; held = c.self.inside.kept.held; failed = c.self.inside.kept.failed }

pub returns-in_default : goal.returns-in_default
returns-in_default g c =
    let here = (goal.at.returns-in_default g c).After-placed in
    let none = holders_unheld c.self.inside.kept.held c.held.inside.at (c.in_default.ensures.none refl) in
    subst (λ at. ReadsHeld g.D.Disk.facts c.args.self.now c.args.self.now at (Err Damaged)) c.held.view_is
    (subst (λ store. ReadsHeld g.D.Disk.facts store store c.held.inside.at (Err Damaged)) c.self.view_is
    (read_refused g.D.Disk.facts (before g here) c.self.invariant.0 c.held.inside.at Damaged
    (λ is. absurd (cc is), λ failed. absurd (false≢true (sym c.if-self.false ∙ failed))) (λ _. (c.if-self.false, none), λ _. refl)
    (inr (inl refl))))

pub read_file-requires-clause-spelling : goal.read_file-requires-clause-spelling
read_file-requires-clause-spelling g c = held_fits c.self.invariant.0 c.in-Some.ensures.some

pub read_file-requires-clause-inside : goal.read_file-requires-clause-inside
read_file-requires-clause-inside g c =
    subst (λ n. All (IsOnDisk n) (extents_of c.in-Some.placed.now.entry)) (sym c.self.invariant.2) (held_on_disk c.self.invariant.0 c.in-Some.ensures.some)

pub returns : goal.returns
returns g c =
    let here = (goal.at.returns g c).After-placed in
    let read = c.read_file.ensures in
    subst (λ at. ReadsHeld g.D.Disk.facts c.args.self.now (read_now g here c.read_file.new.disk) at c.read_file.result) c.held.view_is
    (subst (λ store. ReadsHeld g.D.Disk.facts store (read_now g here c.read_file.new.disk) c.held.inside.at c.read_file.result) c.self.view_is
    (read_done g.D.Disk.facts (before g here) c.self.invariant.0 c.read_file.new.disk c.held.inside.at c.in-Some.ensures.some c.if-self.false
    (λ honest. g.met.D.Disk.holds_now _ honest) read.calls read.same
    c.read_file.result read.all_calls read.read read.length read.refused))
