use Rattle.std.proofs.Common.{◌∙◌, ◌<◌, ◌≤◌, [], All, ap, arith, length, refl, subst, sym}
use Rattle.std.proofs.lemmas.List.{get_or_read}
use Rattle.std.proofs.lemmas.List.Elements.{All-push}
use Rattle.sector_disk.specs.declared.moment.Moment.{Moment}
use Rattle.sector_disk.specs.Disk.{sector}
use Rattle.sector_disk.specs.inside.WrittenLaws.{length-contents}
use Rattle.sector_disk.proofs.Kept.{keeps_past_to, unchanged}
use Rattle.sector_disk.proofs.memory.MemoryDisk.read.Goals as goal

pub index-requires : goal.index-requires
index-requires c =
    let self = c.args.self.now in
    omega (arith, self.latest.ok.0, ap length self.is_latest, length-contents self.start.items self.writes.items)

pub returns-clause-honest : goal.returns-clause-honest
returns-clause-honest c honest =
    let self = c.args.self.now in
    let in_latest : c.args.at < length self.latest.items = omega (arith, ap length self.is_latest, length-contents self.start.items self.writes.items) in
    record {
      past = keeps_past_to self.start.items self.writes.items self.synced self.past.items self.no_later _ _ _ _
          (record { writes = ap (λ m. m.writes) c.moment-moment.ensures; synced = ap (λ m. m.synced) c.moment-moment.ensures })
          (λ n le. refl) c.and-self.ensures;
      same = unchanged self.start.items self.writes.items self.synced self.past.items c.and-self.result.items;
      ok = get_or_read self.latest.items c.args.at c.index.result.now in_latest c.index.ensures [] ∙ ap (λ l. sector l c.args.at) self.is_latest;
    }

pub invariant_of-self : goal.invariant_of-self
invariant_of-self c =
    let self = c.args.self.now in
    let NoLater = λ (moment : Moment). moment.writes ≤ length self.writes.items in
    record {
      few = self.few;
      written_in_range = self.written_in_range;
      synced_writes = self.synced_writes;
      is_latest = self.is_latest;
      one_count_each = self.one_count_each;
      counted = self.counted;
      whole_start = self.whole_start;
      whole_writes = self.whole_writes;
      no_later = subst (All NoLater) (sym c.and-self.ensures)
          (All-push NoLater self.past.items c.moment-moment.result self.no_later (omega (arith, ap (λ m. m.writes) c.moment-moment.ensures)));
    }
