use Rattle.std.proofs.Common.{◌≡◌, ◌+◌, ◌<◌, ◌++◌, All, get_or, IsTrue, length, inl, inr, refl, sym, ap, subst, ◌∙◌, arith}
use Rattle.std.proofs.lemmas.Result.{err_from_is_err_and}
use Rattle.sector_disk.specs.Disk.{AreCallsExactly}
use Rattle.sector_disk.proofs.Moments.{no_calls}
use Rattle.passes.proofs.Readings.{no_reads, more_reads}
use Rattle.passes.proofs.Rows.{in_row_at_most, in_row_exactly}
use Rattle.roots.proofs.RootLemmas.{length-listed_2}
use Rattle.store.specs.Stands.{AreCatalogued, catalogues_of}
use Rattle.store.proofs.Listings.{catalogues_are, listed_2, places_inside}
use Rattle.store.proofs.CatalogueReads.{CataloguesSoFar, one_call_more, no_catalogues, next_catalogue, no_catalogue_there, wrong_count_there, all_count, all_catalogued}
use Rattle.store.proofs.Refusals.{device-damaged, damaged-device, memory-damaged, memory-device}
use Rattle.store.proofs.listed.read_catalogues.Goals as goal

pub returns-in_err-listed : goal.returns-in_err-listed
returns-in_err-listed g c =
    let disk = g.D.Disk.facts c.args.disk.now in
    let p = err_from_is_err_and c.from_residual.result c.from_residual.ensures.1 in
    rw (p.1, p.2) (record {
      calls = record { some = no_calls disk; time = omega arith };
      all_calls = tt;
      same = λ honest. no_reads disk;
      count = tt;
      listed = λ honest. tt;
      unlisted = λ honest is. absurd (memory-damaged is);
      device = λ is. absurd (memory-device is);
      refusals = inr (inr refl);
    })

pub loop-at-init : goal.loop-at-init
loop-at-init g c =
    let disk = g.D.Disk.facts c.args.disk.now in
    let root = c.args.root.now in
    let none = no_catalogues disk c.listed_sectors-at-items.result.now root.library_count in
    subst (CataloguesSoFar disk disk c.listed_sectors-at-items.result.now root.library_count 0) (sym c.in_ok-listed.ensures.items) none

pub read_catalogue-requires : goal.read_catalogue-requires
read_catalogue-requires g c =
    let root = c.args.root.now in
    let inside = subst (All (λ k. k < root.sectors)) (sym c.listed_sectors-at-items.ensures) (places_inside root.library_count root.sectors root.list c.requires.root.list) in
    subst (λ n. get_or c.listed_sectors-at-items.result.now c.loop-at.at-index 0 < n) (c.requires.sectors ∙ sym c.loop-at.invariant.calls.sectors) (inside c.loop-at.at-index 0 c.loop-at-test.true)

pub returns-in_err-catalogue : goal.returns-in_err-catalogue
returns-in_err-catalogue g c =
    let so_far = c.loop-at.invariant in
    let is = c.listed_sectors-at-items.ensures ∙ catalogues_are c.args.root.now c.requires.version in
    let p = err_from_is_err_and c.from_residual-in_err-catalogue.result c.from_residual-in_err-catalogue.ensures.1 in
    rw (p.1, p.2) (record {
      calls = one_call_more so_far.calls c.read_catalogue.ensures.calls (omega (arith, c.loop-at-test.true, ap length is));
      all_calls = tt;
      same = λ honest. more_reads (so_far.reads honest) c.read_catalogue.ensures.calls (c.read_catalogue.ensures.catalogue.2 (subst IsTrue (sym so_far.calls.honest) honest));
      count = tt;
      listed = λ honest. tt;
      unlisted = λ honest is. absurd (device-damaged is);
      device = λ is. omega (arith, so_far.calls.ok, c.in_err-catalogue.ensures.calls.err);
      refusals = inl refl;
    })

pub returns-in_default : goal.returns-in_default
returns-in_default g c =
    let so_far = c.loop-at.invariant in
    let is = c.listed_sectors-at-items.ensures ∙ catalogues_are c.args.root.now c.requires.version in record {
      calls = one_call_more so_far.calls c.read_catalogue.ensures.calls (omega (arith, c.loop-at-test.true, ap length is));
      all_calls = tt;
      same = λ honest. more_reads (so_far.reads honest) c.read_catalogue.ensures.calls (c.read_catalogue.ensures.catalogue.2 (subst IsTrue (sym so_far.calls.honest) honest));
      count = tt;
      listed = λ honest. tt;
      unlisted = λ honest was sectors listed.
          let now = (g.D.Disk.facts c.args.disk.now).now in
          let root = c.args.root.now in
          let enough = ap length c.listed_sectors-at-items.ensures ∙ length-listed_2 root c.requires.root c.requires.version in
          let both = (listed_2 now root.library_count root.list sectors c.requires.version).0 listed in
          let read = c.in_ok-catalogue.ensures.catalogue in
          no_catalogue_there so_far enough c.loop-at-test.true c.in_ok-catalogue.ensures.calls read.2 read.1 honest sectors both.0
          (subst (λ catalogues. AreCatalogued now catalogues sectors) (sym is) both.1) c.in_default.is;
      device = λ is. absurd (damaged-device is);
      refusals = inr (inl refl);
    }

pub overflow_sub-count : goal.overflow_sub-count
overflow_sub-count g c = omega (arith, c.from-count.ensures, c.len.ensures, c.loop-at.invariant.count)

pub returns-then-sectors-min : goal.returns-then-sectors-min
returns-then-sectors-min g c =
    let so_far = c.loop-at.invariant in
    let is = c.listed_sectors-at-items.ensures ∙ catalogues_are c.args.root.now c.requires.version in record {
      calls = one_call_more so_far.calls c.read_catalogue.ensures.calls (omega (arith, c.loop-at-test.true, ap length is));
      all_calls = tt;
      same = λ honest. more_reads (so_far.reads honest) c.read_catalogue.ensures.calls (c.read_catalogue.ensures.catalogue.2 (subst IsTrue (sym so_far.calls.honest) honest));
      count = tt;
      listed = λ honest. tt;
      unlisted = λ honest was sectors listed.
          let now = (g.D.Disk.facts c.args.disk.now).now in
          let root = c.args.root.now in
          let enough = ap length c.listed_sectors-at-items.ensures ∙ length-listed_2 root c.requires.root c.requires.version in
          let both = (listed_2 now root.library_count root.list sectors c.requires.version).0 listed in
          let read = c.in_ok-catalogue.ensures.catalogue in
          wrong_count_there so_far enough c.loop-at-test.true c.in_ok-catalogue.ensures.calls read.2 read.1 honest sectors both.0
          (subst (λ catalogues. AreCatalogued now catalogues sectors) (sym is) both.1) c.in-Some.catalogue c.in-Some.is
          (λ e. absurd (omega (arith, e, c.if-sectors-min.true, ap length c.sectors.ensures, c.min.ensures, c.from-count.ensures, c.len.ensures)));
      device = λ is. absurd (damaged-device is);
      refusals = inr (inl refl);
    }

pub returns-in_err-extend_from_slice : goal.returns-in_err-extend_from_slice
returns-in_err-extend_from_slice g c =
    let so_far = c.loop-at.invariant in
    let is = c.listed_sectors-at-items.ensures ∙ catalogues_are c.args.root.now c.requires.version in
    let p = err_from_is_err_and c.from_residual-in_err-extend_from_slice.result c.from_residual-in_err-extend_from_slice.ensures.1 in
    rw (p.1, p.2) (record {
      calls = one_call_more so_far.calls c.read_catalogue.ensures.calls (omega (arith, c.loop-at-test.true, ap length is));
      all_calls = tt;
      same = λ honest. more_reads (so_far.reads honest) c.read_catalogue.ensures.calls (c.read_catalogue.ensures.catalogue.2 (subst IsTrue (sym so_far.calls.honest) honest));
      count = tt;
      listed = λ honest. tt;
      unlisted = λ honest is. absurd (memory-damaged is);
      device = λ is. absurd (memory-device is);
      refusals = inr (inr refl);
    })

pub loop-at-preserved : goal.loop-at-preserved
loop-at-preserved g c =
    let root = c.args.root.now in
    let enough = ap length c.listed_sectors-at-items.ensures ∙ length-listed_2 root c.requires.root c.requires.version in
    let read = c.in_ok-catalogue.ensures.catalogue in
    let more = next_catalogue c.loop-at.invariant enough c.loop-at-test.true c.in_ok-catalogue.ensures.calls read.2 read.1 c.in-Some.catalogue c.in-Some.is
    (omega (arith, c.if-sectors-min.false, ap length c.sectors.ensures, c.min.ensures, c.from-count.ensures, c.len.ensures)) in
    subst (CataloguesSoFar (g.D.Disk.facts c.args.disk.now) (g.D.Disk.facts c.read_catalogue.new.disk) c.listed_sectors-at-items.result.now root.library_count (c.loop-at.at-index + 1))
    (sym (c.in_ok-extend_from_slice.ensures.items ∙ ap (λ xs. c.loop-at.listed.items ++ xs) c.sectors-in-loop-at.ensures)) more

pub returns-clause-calls : goal.returns-clause-calls
returns-clause-calls g c =
    let is = c.listed_sectors-at-items.ensures ∙ catalogues_are c.args.root.now c.requires.version in
    in_row_at_most c.loop-at.invariant.calls (omega (arith, c.loop-at.auto.at-index-end, ap length is))

pub returns-clause-all_calls : goal.returns-clause-all_calls
returns-clause-all_calls g c =
    let is = c.listed_sectors-at-items.ensures ∙ catalogues_are c.args.root.now c.requires.version in
    let done : c.loop-at.at-index ≡ length (catalogues_of c.args.root.now) = omega (arith, c.loop-at.auto.at-index-end, c.loop-at-test.false, ap length is) in
    subst (λ n. AreCallsExactly n (g.D.Disk.facts c.args.disk.now) (g.D.Disk.facts c.loop-at.disk)) done (in_row_exactly c.loop-at.invariant.calls)

pub returns-clause-count : goal.returns-clause-count
returns-clause-count g c =
    let root = c.args.root.now in
    let enough = ap length c.listed_sectors-at-items.ensures ∙ length-listed_2 root c.requires.root c.requires.version in
    all_count c.loop-at.invariant c.loop-at-test.false enough

pub returns-clause-listed : goal.returns-clause-listed
returns-clause-listed g c honest =
    let now = (g.D.Disk.facts c.args.disk.now).now in
    let root = c.args.root.now in
    let is = c.listed_sectors-at-items.ensures ∙ catalogues_are root c.requires.version in
    let catalogued = all_catalogued c.loop-at.invariant c.loop-at-test.false honest in
    (listed_2 now root.library_count root.list c.loop-at.listed.items c.requires.version).1
    (returns-clause-count g c, subst (λ catalogues. AreCatalogued now catalogues c.loop-at.listed.items) is catalogued)
