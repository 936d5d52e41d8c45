use Rattle.std.proofs.Common.{◌≡◌, inl, inr, refl, sym, ◌∙◌, arith}
use Rattle.std.proofs.lemmas.Result.{err_from_is_err_and}
use Rattle.sector_disk.proofs.Moments.{exactly_none, exactly_at_most}
use Rattle.passes.proofs.Readings.{no_reads}
use Rattle.store.proofs.Founds.{none_found, found_after, found_root, found_intact, found_refused, found_refusals}
use Rattle.store.proofs.Openings.{entries_refuse}
use Rattle.store.proofs.find.find_entries.Goals as goal

pub returns-then-root-sectors : goal.returns-then-root-sectors
returns-then-root-sectors g c = record {
  found = none_found 0 _ (exactly_at_most (exactly_none _) (omega arith)) (λ is. absurd (cc is));
  root = tt;
  same = λ honest. no_reads _;
  intact = λ honest current. tt;
  refused = λ honest. record {
    may = inr (inl refl);
    damaged = λ is entries intact. c.if-root-sectors.true (intact.size ∙ (g.met.D.Disk.holds_now _ honest).size ∙ sym c.sectors.ensures);
    memory = λ is. absurd (cc is);
  };
  refusals = inr (inl refl);
}

pub returns-in_err-entries : goal.returns-in_err-entries
returns-in_err-entries g c =
    let now = (g.D.Disk.facts c.args.disk.now).now in
    let e = c.in_err-entries.field-0.0 in
    let read = c.in_err-entries.ensures in
    let p = err_from_is_err_and c.from_residual.result c.from_residual.ensures.1 in
    rw (p.1, p.2) (record {
      found = none_found 0 e c.read_listed_entries.ensures.calls read.device;
      root = tt;
      same = c.read_listed_entries.ensures.same;
      intact = λ honest current. tt;
      refused = λ honest. entries_refuse now c.args.root e read.refusals (read.damaged honest)
          (omega (arith, c.if-root-sectors.false, c.sectors.ensures, (g.met.D.Disk.holds_now _ honest).size));
      refusals = read.refusals;
    })

pub returns : goal.returns
returns g c =
    let now = (g.D.Disk.facts c.args.disk.now).now in
    let root = c.args.root in
    let entries = c.in_ok-entries.entries.items in
    let read = c.in_ok-entries.ensures in
    let over = c.over.ensures in
    let sectors : root.sectors ≡ (g.D.Disk.facts c.args.disk.now).sectors = omega (arith, c.if-root-sectors.false, c.sectors.ensures) in
    record {
      found = found_after root entries _ c.over.result over.kept over.same over.refused c.read_listed_entries.ensures.calls read.all_calls sectors;
      root = found_root root entries c.over.result over.same;
      same = c.read_listed_entries.ensures.same;
      intact = λ honest current. found_intact root entries now (omega (arith, sectors, (g.met.D.Disk.holds_now _ honest).size)) (read.listed honest) current c.over.result over.kept over.same;
      refused = λ honest. found_refused root entries now (omega (arith, sectors, (g.met.D.Disk.holds_now _ honest).size)) (read.listed honest) c.over.result over.refused;
      refusals = found_refusals _ c.over.result over.refused;
    }
