use Rattle.std.proofs.Common.{◌≡◌, ◌≤◌, ◌∙◌, inl, [], ◌∷◌, ◌++◌, ap, arith, length, get_or, drop, All, false, refl, sym, subst}
use Rattle.std.proofs.lemmas.List.{append-nil, take_all, drop_all, length_push, with_items_is}
use Rattle.std.proofs.lemmas.List.Elements.{All-push, filter-append}
use Rattle.std.specs.List.{filter}
use Rattle.std.specs.Vec.{with_items}
use Rattle.sector_disk.specs.declared.moment.Moment.{Moment}
use Rattle.sector_disk.specs.Disk.{LeavesNoMore, LeavesNowAlone, sector}
use Rattle.sector_disk.specs.Written.{contents, written_to}
use Rattle.sector_disk.specs.Moments.{facts_of}
use Rattle.sector_disk.proofs.Kept.{keeps_past_to, no_more, alone}
use Rattle.sector_disk.proofs.memory.MemoryDisk.sync.Goals as goal

pub returns-clause-honest : goal.returns-clause-honest
returns-clause-honest c honest =
    let self = c.args.self.now in
    let all : c.len-self.result ≡ length self.writes.items = c.len-self.ensures ∙ self.writes.ok.0 in
    record {
      past = keeps_past_to self.start.items self.writes.items self.synced self.past.items self.no_later _ _ _ _
          (record { writes = ap (λ m. m.writes) c.moment-moment.ensures; synced = ap (λ m. m.synced) c.moment-moment.ensures })
          (λ n le. refl) c.and-self.ensures;
      now = refl;
      log = record { either = inl refl };
      stop = subst (λ n. LeavesNoMore (facts_of self.start.items self.writes.items self.synced self.past.items)
          (facts_of self.start.items self.writes.items n c.and-self.result.items)) (sym all)
          (no_more self.start.items self.writes.items self.synced self.past.items c.and-self.result.items);
      stop_ok = subst (λ n. LeavesNowAlone (facts_of self.start.items self.writes.items n c.and-self.result.items)) (sym all)
          (alone self.start.items self.writes.items self.synced self.past.items c.and-self.result.items);
    }

pub invariant_of-self : goal.invariant_of-self
invariant_of-self c =
    let self = c.args.self.now in
    let counts = c.uncount.new.counts in
    let all : length self.writes.items ≤ c.len-self.result = omega (arith, c.len-self.ensures, self.writes.ok.0) in
    let is : (with_items self.unsynced counts).items ≡ counts = with_items_is self.unsynced counts (omega (arith, c.uncount.auto.counts, c.deref_mut.ensures.len)) in
    let size : length c.deref_mut.result.now ≡ length self.start.items = ap length c.deref_mut.ensures.value ∙ self.one_count_each in
    let NoLater = λ (moment : Moment). moment.writes ≤ length self.writes.items in
    record {
      few = self.few;
      written_in_range = self.written_in_range;
      synced_writes = omega (arith, c.len-self.ensures, self.writes.ok.0);
      is_latest = self.is_latest;
      one_count_each = ap length is ∙ c.uncount.auto.counts ∙ size;
      counted = λ k lt. ap (λ l. get_or l k 0) is ∙ c.uncount.ensures.zero k (omega (arith, lt, size))
          ∙ sym (ap (λ ws. length (written_to k ws)) (drop_all c.len-self.result self.writes.items all));
      whole_start = self.whole_start;
      whole_writes = self.whole_writes;
      no_later = subst (All NoLater) (sym c.and-self.ensures)
          (All-push NoLater self.past.items c.moment-moment.result self.no_later (omega (arith, ap (λ m. m.writes) c.moment-moment.ensures)));
    }

pub returns-clause-choices : goal.returns-clause-choices
returns-clause-choices c =
    let start = c.args.self.now.start.items in
    let writes = c.args.self.now.writes.items in
    let n = c.len-self.result in
    let all : length writes ≤ n = omega (arith, c.len-self.ensures, c.args.self.now.writes.ok.0) in
    record {
      each = λ k lt. ap (λ ws. sector (contents start ws) k ∷ written_to k (drop n writes)) (take_all n writes all)
          ∙ ap (λ ws. sector (contents start writes) k ∷ written_to k ws) (drop_all n writes all);
    }

pub returns-clause-calls : goal.returns-clause-calls
returns-clause-calls c =
    let past = c.args.self.now.past.items in
    let failed = λ (moment : Moment). moment.failed in
    let this : Moment = record { writes = length c.args.self.now.writes.items; synced = c.args.self.now.synced; failed = false } in
    record {
      honest = refl;
      sectors = refl;
      plans = refl;
      log = record { more = []; few = omega arith; grown = refl };
      time = ap length c.and-self.ensures ∙ length_push past c.moment-moment.result;
      ok = ap (λ p. length (filter failed p)) c.and-self.ensures
          ∙ ap (λ m. length (filter failed (past ++ m ∷ []))) c.moment-moment.ensures
          ∙ ap length (filter-append failed past (this ∷ []) ∙ append-nil (filter failed past));
      err = tt;
    }
