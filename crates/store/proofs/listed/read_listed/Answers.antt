use Rattle.std.proofs.Common.{rules, ℕ, ◌<◌, All, length, sym, subst, ◌∙◌}
use Rattle.std.specs.Global.{Vec}
use Rattle.sector_disk.specs.Disk.{AreCallsExactly}
use Rattle.sector_disk.proofs.Moments.{exactly_none}
use Rattle.passes.specs.Calls.{AreReads}
use Rattle.passes.proofs.Readings.{no_reads}
use Rattle.store.specs.Stands.{AreListed, catalogues_of}
use Rattle.store.proofs.Listings.{none_listed, one_listing}
use Rattle.store.proofs.listed.read_listed.Goals as goal
use Rattle.store.proofs.listed.read_listed.Goals.{in-One+in_ok-extend_from_slice-in-One, in-Two+in_ok-listed-in-Two}

pub returns-then-not-are_inside-clause-unlisted : goal.returns-then-not-are_inside-clause-unlisted
returns-then-not-are_inside-clause-unlisted g c honest was sectors listed inside =
    let now = (g.D.Disk.facts c.args.disk.now).now in
    let root = c.args.root.now in
    let read = c.match-version.listed.items in
    let here : AreListed now root.library_count root.list read = search rules in
    let same = one_listing now root.library_count root.sectors root.list sectors read c.requires.root.list listed here in
    let all : All (λ k. k < root.sectors) c.deref.result.now = subst (All (λ k. k < root.sectors)) (same ∙ sym c.deref.ensures.value) inside in
    let yes = c.are_inside.ensures.1 all in
    let no = c.if-not-are_inside.true in
    absurd cc

pub returns-then-not-are_inside-clause-same : goal.returns-then-not-are_inside-clause-same
returns-then-not-are_inside-clause-same g c honest =
    let disk = g.D.Disk.facts c.args.disk.now in
    elim c.match-version.branch [
      | in-One+in_ok-extend_from_slice-in-One w ↦ subst (λ d. AreReads disk (g.D.Disk.facts d)) (sym w.disk-is) (no_reads disk)
      | in-Two+in_ok-listed-in-Two w ↦ subst (λ d. AreReads disk (g.D.Disk.facts d)) (sym w.disk-is) (w.read_catalogues.ensures.same honest)
    ]

pub returns-clause-same : goal.returns-clause-same
returns-clause-same g c honest =
    let disk = g.D.Disk.facts c.args.disk.now in
    elim c.match-version.branch [
      | in-One+in_ok-extend_from_slice-in-One w ↦ subst (λ d. AreReads disk (g.D.Disk.facts d)) (sym w.disk-is) (no_reads disk)
      | in-Two+in_ok-listed-in-Two w ↦ subst (λ d. AreReads disk (g.D.Disk.facts d)) (sym w.disk-is) (w.read_catalogues.ensures.same honest)
    ]

pub returns-clause-all_calls : goal.returns-clause-all_calls
returns-clause-all_calls g c =
    let disk = g.D.Disk.facts c.args.disk.now in
    let count = length (catalogues_of c.args.root.now) in
    elim c.match-version.branch [
      | in-One+in_ok-extend_from_slice-in-One w ↦ subst (λ d. AreCallsExactly count disk (g.D.Disk.facts d)) (sym w.disk-is)
          (subst (λ l. AreCallsExactly (length l) disk disk) (sym (none_listed c.args.root.now (sym c.version.ensures ∙ w.in-One.is))) (exactly_none disk))
      | in-Two+in_ok-listed-in-Two w ↦ subst (λ d. AreCallsExactly count disk (g.D.Disk.facts d)) (sym w.disk-is) w.in_ok-listed-in-Two.ensures.all_calls
    ]

pub returns-clause-count : goal.returns-clause-count
returns-clause-count g c = search rules

pub returns-clause-listed : goal.returns-clause-listed
returns-clause-listed g c honest =
    let now = (g.D.Disk.facts c.args.disk.now).now in
    let root = c.args.root.now in
    elim c.match-version.branch [
      | in-One+in_ok-extend_from_slice-in-One w ↦ search rules
      | in-Two+in_ok-listed-in-Two w ↦ subst (λ (l : Vec ℕ). AreListed now root.library_count root.list l.items) (sym w.listed-is) (w.in_ok-listed-in-Two.ensures.listed honest)
    ]
