use Rattle.std.proofs.Common.{All, get_or, drop, ◌≡◌, ◌<◌, ◌∙◌, List, ℕ, ap, sym, subst, arith, length}
use Rattle.std.proofs.lemmas.List.{with_items_is}
use Rattle.std.specs.Vec.{with_items}
use Rattle.sector_disk.specs.declared.written.Written.{Written}
use Rattle.sector_disk.specs.Disk.{Sector, sector, IsWhole}
use Rattle.sector_disk.specs.Written.{contents, written_to, choices}
use Rattle.sector_disk.specs.inside.WrittenLaws.{length-contents}
use Rattle.sector_disk.specs.Memory.{memory_choices, IsPicked}
use Rattle.sector_disk.specs.inside.MemoryLaws.{left_now}
use Rattle.sector_disk.proofs.Whole.{picked_whole}
use Rattle.sector_disk.proofs.Kept.{among_picked, fresh}
use Rattle.sector_disk.proofs.memory.Memory.stop.Goals as goal

pub copy_from_slice-requires : goal.copy_from_slice-requires
copy_from_slice-requires g c =
    let self = c.args.self in
    omega (arith, self.latest.ok.0, ap length self.is_latest, length-contents self.start.items self.writes.items, c.deref-2.ensures.len, self.start.ok.0)

pub returns-clause-picked : goal.returns-clause-picked
returns-clause-picked g c =
    let self = c.args.self in
    let mixture = c.mix.new.sectors in
    let start : List Sector = (with_items self.start mixture).items in
    let now : contents start c.clear.new.self.items ≡ mixture = ap (contents start) c.clear.ensures.items
    ∙ with_items_is self.start mixture (omega (arith, c.mix.auto.sectors, c.deref_mut.ensures.len)) in
    let Picks = λ (old : List Sector) (writes : List Written) (new : List Sector). (at : ℕ) → at < length old
    → IsPicked (goal.F-post g c.args.pick at (length (choices old writes self.synced at))) (choices old writes self.synced at) (sector new at) in
    subst (Picks self.start.items self.writes.items) (sym now)
    (subst (λ ws. Picks self.start.items ws mixture) c.deref.ensures.value (subst (λ l. Picks l c.deref.result.now mixture) c.deref_mut.ensures.value c.mix.ensures.picked))

pub returns-clause-stopped : goal.returns-clause-stopped
returns-clause-stopped g c =
    let self = c.args.self in
    let mixture = c.mix.new.sectors in
    let start : List Sector = (with_items self.start mixture).items in
    let is_start : start ≡ mixture = with_items_is self.start mixture (omega (arith, c.mix.auto.sectors, c.deref_mut.ensures.len)) in
    record {
      mixture = record {
        size = length-contents start c.clear.new.self.items ∙ ap length is_start ∙ omega (arith, c.mix.auto.sectors, ap length c.deref_mut.ensures.value);
        each = λ k lt. left_now self.start.items self.writes.items self.synced self.past.items k _ (among_picked _ (memory_choices self k) _ (omega arith) (returns-clause-picked g c k lt));
      };
      starts = fresh start c.clear.new.self.items c.new.result.items c.clear.ensures.items c.new.ensures;
    }

pub invariant_of-result-clause-whole_start : goal.invariant_of-result-clause-whole_start
invariant_of-result-clause-whole_start g c =
    let self = c.args.self in
    let mixture = c.mix.new.sectors in
    let size : length mixture ≡ length self.start.items = omega (arith, c.mix.auto.sectors, ap length c.deref_mut.ensures.value) in
    let Picks = λ (old : List Sector) (writes : List Written). (at : ℕ) → at < length old
    → IsPicked (goal.F-post g c.args.pick at (length (choices old writes self.synced at))) (choices old writes self.synced at)
    (sector mixture at) in
    let picked : Picks self.start.items self.writes.items =
    subst (Picks self.start.items) c.deref.ensures.value
    (subst (λ l. Picks l c.deref.result.now) c.deref_mut.ensures.value c.mix.ensures.picked) in
    subst (All IsWhole) (sym (with_items_is self.start mixture (omega (arith, c.mix.auto.sectors, c.deref_mut.ensures.len))))
    (picked_whole (λ at. goal.F-post g c.args.pick at (length (choices self.start.items self.writes.items self.synced at))) self.start.items self.writes.items self.synced
    mixture size self.whole_start self.whole_writes picked)

pub invariant_of-result-clause-one_count_each : goal.invariant_of-result-clause-one_count_each
invariant_of-result-clause-one_count_each g c =
    let self = c.args.self in
    omega (
      arith,
      ap length (with_items_is self.start c.mix.new.sectors (omega (arith, c.mix.auto.sectors, c.deref_mut.ensures.len))),
      ap length (with_items_is self.unsynced c.mix.new.counts (omega (arith, c.mix.auto.counts, c.deref_mut-2.ensures.len))),
      c.mix.auto.sectors,
      c.mix.auto.counts,
      self.one_count_each,
      ap length c.deref_mut.ensures.value,
      ap length c.deref_mut-2.ensures.value,
    )

pub invariant_of-result-clause-counted : goal.invariant_of-result-clause-counted
invariant_of-result-clause-counted g c k lt =
    let self = c.args.self in
    let counts = c.mix.new.counts in
    let in_range : k < length c.deref_mut.result.now =
    omega (
      arith,
      lt,
      ap length (with_items_is self.start c.mix.new.sectors (omega (arith, c.mix.auto.sectors, c.deref_mut.ensures.len))),
      c.mix.auto.sectors,
    ) in
    ap (λ l. get_or l k 0) (with_items_is self.unsynced counts (omega (arith, c.mix.auto.counts, c.deref_mut-2.ensures.len)))
    ∙ c.mix.ensures.zero k in_range
    ∙ sym (ap (λ ws. length (written_to k (drop 0 ws))) c.clear.ensures.items)
