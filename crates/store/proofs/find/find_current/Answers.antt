use Rattle.std.proofs.Common.{◌≡◌, ⊎_elim, sym, ap, subst, ◌∙◌}
use Rattle.std.proofs.lemmas.Result.{err_from_is_err_and, IfErr-weaker, IfOk-weaker}
use Rattle.sector_disk.specs.Disk.{AreCallsExactly}
use Rattle.roots.specs.Root.{version_of}
use Rattle.roots.specs.declared.version.Version.TheVariants.{Two}
use Rattle.states.specs.Geometry.{IsGeometry}
use Rattle.store.specs.declared.refusal.StoreRefusal.TheVariants as refusal
use Rattle.store.specs.Opening.{RefusesOpen}
use Rattle.store.specs.Stands.{Stands}
use Rattle.store.specs.inside.Reading.{IsRefusalOfList}
use Rattle.store.proofs.Founds.{finds, finds_none}
use Rattle.store.proofs.Openings.{root_refused_open, entries_refused_open, old_refused}
use Rattle.store.proofs.find.find_current.Goals as goal

pub returns-in_err-root-clause-finds : goal.returns-in_err-root-clause-finds
returns-in_err-root-clause-finds g c =
    let now = (g.D.Disk.facts c.args.disk.now).now in
    let e = c.in_err-root.field-0.0 in
    let read = c.in_err-root.ensures in
    let p = err_from_is_err_and c.from_residual.result c.from_residual.ensures.1 in
    rw (p.1, p.2) (finds_none (RefusesOpen Stands) e c.read_root.ensures.calls read.device c.read_root.ensures.reads
    (λ honest. root_refused_open now (subst IsGeometry (sym (g.met.D.Disk.holds_now _ honest).size) c.requires) e (read.refused honest)))

pub returns-in-One-clause-finds : goal.returns-in-One-clause-finds
returns-in-One-clause-finds g c =
    let now = (g.D.Disk.facts c.args.disk.now).now in
    let read = c.in_ok-root.ensures in
    finds_none (RefusesOpen Stands) refusal.OldFormat c.read_root.ensures.calls (λ is. absurd (cc is)) c.read_root.ensures.reads
    (λ honest. old_refused now (subst IsGeometry (sym (g.met.D.Disk.holds_now _ honest).size) c.requires) c.in_ok-root.root (read.current honest) (sym c.version.ensures ∙ c.in-One.is))

pub returns-in-Two-clause-finds : goal.returns-in-Two-clause-finds
returns-in-Two-clause-finds g c =
    let now = (g.D.Disk.facts c.args.disk.now).now in
    let root = c.in_ok-root.root in
    let read = c.in_ok-root.ensures in
    let found = c.find_entries.ensures in
    finds (RefusesOpen Stands) root c.find_entries.result read.all_calls found.found
    c.read_root.ensures.reads read.synced found.same read.current found.intact found.refused
    (λ honest. entries_refused_open now (subst IsGeometry (sym (g.met.D.Disk.holds_now _ honest).size) c.requires) root (read.current honest) (sym c.version.ensures ∙ c.in-Two.is))

pub returns-in-Two-clause-version : goal.returns-in-Two-clause-version
returns-in-Two-clause-version g c =
    IfOk-weaker c.find_entries.result (λ found. found.root ≡ c.in_ok-root.root) (λ found. version_of found.root ≡ Two)
    (λ found same. ap version_of same ∙ sym c.version.ensures ∙ c.in-Two.is) c.find_entries.ensures.root

pub returns-in-Two-clause-old_calls : goal.returns-in-Two-clause-old_calls
returns-in-Two-clause-old_calls g c =
    IfErr-weaker c.find_entries.result IsRefusalOfList
    (λ e. e ≡ refusal.OldFormat → AreCallsExactly 3 (g.D.Disk.facts c.args.disk.now) (g.D.Disk.facts c.find_entries.new.disk))
    (λ e which is. absurd (⊎_elim (λ a. cc (a, is)) (λ rest. ⊎_elim (λ a. cc (a, is)) (λ a. cc (a, is)) rest) which)) c.find_entries.ensures.refusals
