use Rattle.std.proofs.Common.{◌≡◌, ◌+◌, ◌<◌, ◌≤◌, ◌∙◌, inl, [], ◌∷◌, ◌++◌, List, ℕ, ap, arith, length, get_or, set, take, drop, All, refl, sym, subst}
use Rattle.std.proofs.lemmas.List.{append-nil, get_or_read, length-append, length-drop, length-set, length_push, take-append-le}
use Rattle.std.proofs.lemmas.List.Elements.{All-push, All-weaker, filter-append}
use Rattle.std.specs.List.{filter}
use Rattle.sector_disk.specs.declared.moment.Moment.{Moment}
use Rattle.sector_disk.specs.declared.written.Written.{Written}
use Rattle.sector_disk.specs.Disk.{GrowsBy, IsUnchanged, IsWhole}
use Rattle.sector_disk.specs.Written.{contents, written_to, choices}
use Rattle.sector_disk.specs.inside.WrittenLaws.{length-contents, written_to_same, written_to_other}
use Rattle.sector_disk.specs.Memory.{memory_facts}
use Rattle.sector_disk.specs.Moments.{facts_of}
use Rattle.sector_disk.proofs.Contents.{contents-append}
use Rattle.sector_disk.proofs.Kept.{keeps_past_to, unchanged, grows, length-written_to, counted_more, choices-append}
use Rattle.sector_disk.proofs.Whole.{is_whole}
use Rattle.sector_disk.proofs.memory.MemoryDisk.write.Goals as goal

pub index_mut-requires : goal.index_mut-requires
index_mut-requires c =
    let self = c.args.self.now in
    omega (arith, self.latest.ok.0, ap length self.is_latest, length-contents self.start.items self.writes.items)

pub overflow_add-index_mut : goal.overflow_add-index_mut
overflow_add-index_mut c =
    let self = c.args.self.now in
    let in_counts : c.args.at < length self.unsynced.items = omega (arith, self.one_count_each) in
    let loose = drop self.synced self.writes.items in
    omega (
      arith,
      get_or_read self.unsynced.items c.args.at c.index_mut-in-Ok.result.now in_counts c.index_mut-in-Ok.ensures.value 0,
      self.counted c.args.at c.requires,
      length-written_to c.args.at loose,
      length-drop self.synced self.writes.items,
      self.writes.ok,
      self.writes.small,
    )

pub invariant_of-self-clause-written_in_range : goal.invariant_of-self-clause-written_in_range
invariant_of-self-clause-written_in_range c =
    let self = c.args.self.now in
    let InRange = λ (write : Written). write.at < length self.start.items in
    subst (All InRange) (sym c.in-Ok.ensures.items) (All-push InRange self.writes.items (record { at = c.args.at; content = c.args.from.now }) self.written_in_range c.requires)

pub invariant_of-self-clause-is_latest : goal.invariant_of-self-clause-is_latest
invariant_of-self-clause-is_latest c =
    let self = c.args.self.now in
    ap (λ l. set l c.args.at c.args.from.now) self.is_latest
    ∙ sym (ap (contents self.start.items) c.in-Ok.ensures.items ∙ contents-append self.start.items self.writes.items (record { at = c.args.at; content = c.args.from.now }))

pub invariant_of-self-clause-one_count_each : goal.invariant_of-self-clause-one_count_each
invariant_of-self-clause-one_count_each c =
    length-set c.args.self.now.unsynced.items c.args.at (c.index_mut-in-Ok.result.now + 1) ∙ c.args.self.now.one_count_each

pub invariant_of-self-clause-counted : goal.invariant_of-self-clause-counted
invariant_of-self-clause-counted c k lt =
    let self = c.args.self.now in
    let write : Written = record { at = c.args.at; content = c.args.from.now } in
    let in_counts : c.args.at < length self.unsynced.items = omega (arith, self.one_count_each) in
    let was : c.index_mut-in-Ok.result.now ≡ get_or self.unsynced.items c.args.at 0 =
    get_or_read self.unsynced.items c.args.at c.index_mut-in-Ok.result.now in_counts c.index_mut-in-Ok.ensures.value 0 in
    ap (λ n. get_or (set self.unsynced.items c.args.at (n + 1)) k 0) was
    ∙ counted_more self.unsynced.items self.writes.items self.synced write (length self.start.items) self.synced_writes self.one_count_each c.requires self.counted k lt
    ∙ ap (λ ws. length (written_to k (drop self.synced ws))) (sym c.in-Ok.ensures.items)

pub invariant_of-self-clause-whole_writes : goal.invariant_of-self-clause-whole_writes
invariant_of-self-clause-whole_writes c =
    let self = c.args.self.now in
    let IsWholeWrite = λ (write : Written). IsWhole write.content in
    subst (All IsWholeWrite) (sym c.in-Ok.ensures.items)
    (All-push IsWholeWrite self.writes.items (record { at = c.args.at; content = c.args.from.now }) self.whole_writes
    (is_whole c.args.from.now c.told-from c.fits-from))

pub invariant_of-self-clause-no_later : goal.invariant_of-self-clause-no_later
invariant_of-self-clause-no_later c =
    let self = c.args.self.now in
    let NoLater = λ (moment : Moment). moment.writes ≤ length c.push.new.self.items in
    let longer : length c.push.new.self.items ≡ length self.writes.items + 1 = ap length c.in-Ok.ensures.items ∙ length_push self.writes.items (record { at = c.args.at; content = c.args.from.now }) in
    let this : c.moment-moment.result.writes ≡ length self.writes.items = ap (λ m. m.writes) c.moment-moment.ensures in
    subst (All NoLater) (sym c.and-self.ensures)
    (All-push NoLater self.past.items c.moment-moment.result
    (All-weaker (λ (moment : Moment). moment.writes ≤ length self.writes.items) NoLater
    (λ x le. omega (arith, le, longer)) self.past.items self.no_later) (omega (arith, this, longer)))

pub returns-in-Ok-clause-honest : goal.returns-in-Ok-clause-honest
returns-in-Ok-clause-honest c honest =
    let self = c.args.self.now in
    let write : Written = record { at = c.args.at; content = c.args.from.now } in
    let is : c.push.new.self.items ≡ self.writes.items ++ write ∷ [] = c.in-Ok.ensures.items in
    let bigger : GrowsBy (facts_of self.start.items self.writes.items self.synced self.past.items)
    (facts_of self.start.items c.push.new.self.items self.synced c.and-self.result.items) c.args.at c.args.from.now =
    subst (λ ws. GrowsBy (facts_of self.start.items self.writes.items self.synced self.past.items)
    (facts_of self.start.items ws self.synced c.and-self.result.items) c.args.at c.args.from.now) (sym is)
    (grows self.start.items self.writes.items self.synced self.past.items c.and-self.result.items write self.synced_writes) in
    record {
      past = keeps_past_to self.start.items self.writes.items self.synced self.past.items self.no_later _ _ _ _
          (record { writes = ap (λ m. m.writes) c.moment-moment.ensures; synced = ap (λ m. m.synced) c.moment-moment.ensures })
          (λ n le. ap (λ (ws : List Written). take n ws) is ∙ take-append-le n self.writes.items (write ∷ []) le) c.and-self.ensures;
      ok = ap (contents self.start.items) is ∙ contents-append self.start.items self.writes.items write;
      err = tt;
      stop = record { each = λ k x. (bigger.each k x).0 };
      stop_ok = bigger;
    }

err_same : (c : goal.After-self-in-Err-1)
    → IsUnchanged (memory_facts c.args.self.now)
    (facts_of c.args.self.now.start.items c.push.new.self.items c.args.self.now.synced c.and-self-in-Err.result.items)
err_same c =
    let self = c.args.self.now in
    subst (λ ws. IsUnchanged (memory_facts self) (facts_of self.start.items ws self.synced c.and-self-in-Err.result.items))
    (sym c.in-Err.ensures.items) (unchanged self.start.items self.writes.items self.synced self.past.items c.and-self-in-Err.result.items)

pub returns-in-Err-clause-honest : goal.returns-in-Err-clause-honest
returns-in-Err-clause-honest c honest =
    let self = c.args.self.now in
    let same = err_same c in
    record {
      past = keeps_past_to self.start.items self.writes.items self.synced self.past.items self.no_later _ _ _ _
          (record { writes = ap (λ m. m.writes) c.moment-moment.ensures; synced = ap (λ m. m.synced) c.moment-moment.ensures })
          (λ n le. ap (λ (ws : List Written). take n ws) c.in-Err.ensures.items) c.and-self-in-Err.ensures;
      ok = tt;
      err = inl same.now;
      stop = record { each = λ k x left. inl ((same.stop k x).0 left) };
      stop_ok = tt;
    }

pub returns-in-Err-clause-err : goal.returns-in-Err-clause-err
returns-in-Err-clause-err c = err_same c

pub invariant_of-self-clause-whole_start : goal.invariant_of-self-clause-whole_start
invariant_of-self-clause-whole_start c = c.args.self.now.whole_start

pub invariant_of-self-in-Err : goal.invariant_of-self-in-Err
invariant_of-self-in-Err c =
    let self = c.args.self.now in
    let same = sym c.in-Err.ensures.items in
    let NoLater = λ (writes : List Written) (moment : Moment). moment.writes ≤ length writes in
    let this : c.moment-moment.result.writes ≡ length self.writes.items = ap (λ m. m.writes) c.moment-moment.ensures in
    record {
      few = self.few;
      written_in_range = subst (All (λ (write : Written). write.at < length self.start.items)) same self.written_in_range;
      synced_writes = omega (arith, self.synced_writes, ap length same);
      is_latest = self.is_latest ∙ ap (contents self.start.items) same;
      one_count_each = self.one_count_each;
      counted = λ k lt. self.counted k lt ∙ ap (λ ws. length (written_to k (drop self.synced ws))) same;
      whole_start = self.whole_start;
      whole_writes = subst (All (λ (write : Written). IsWhole write.content)) same self.whole_writes;
      no_later = subst (All (NoLater c.push.new.self.items)) (sym c.and-self-in-Err.ensures)
          (All-push (NoLater c.push.new.self.items) self.past.items _ (subst (λ ws. All (NoLater ws) self.past.items) same self.no_later) (omega (arith, this, ap length same)));
    }

-- one more call adds 1 to the number of failed calls if it failed, and otherwise 0
failures_then : (past past' : List Moment) (moment : Moment) (n : ℕ) → past' ≡ past ++ moment ∷ [] → length (filter (λ (m : Moment). m.failed) (moment ∷ [])) ≡ n
    → length (filter (λ (m : Moment). m.failed) past') ≡ length (filter (λ (m : Moment). m.failed) past) + n
failures_then past past' moment n is one =
    let failed = λ (m : Moment). m.failed in
    ap (λ p. length (filter failed p)) is
    ∙ ap length (filter-append failed past (moment ∷ []))
    ∙ length-append (filter failed past) (filter failed (moment ∷ []))
    ∙ ap (λ k. length (filter failed past) + k) one

pub returns-in-Ok-clause-calls : goal.returns-in-Ok-clause-calls
returns-in-Ok-clause-calls c =
    let past = c.args.self.now.past.items in
    let this = ap (λ m. length (filter (λ (x : Moment). x.failed) (m ∷ []))) c.moment-moment.ensures in
    record {
      honest = refl;
      sectors = refl;
      plans = refl;
      log = record { more = []; few = omega arith; grown = refl };
      time = ap length c.and-self.ensures ∙ length_push past c.moment-moment.result;
      ok = omega (arith, failures_then past c.and-self.result.items c.moment-moment.result 0 c.and-self.ensures this);
      err = tt;
    }

pub returns-in-Err-clause-calls : goal.returns-in-Err-clause-calls
returns-in-Err-clause-calls c =
    let past = c.args.self.now.past.items in
    record {
      honest = refl;
      sectors = refl;
      plans = refl;
      log = record { more = []; few = omega arith; grown = refl };
      time = ap length c.and-self-in-Err.ensures ∙ length_push past _;
      ok = tt;
      err = failures_then past c.and-self-in-Err.result.items _ 1 c.and-self-in-Err.ensures refl;
    }

pub returns-in-Ok-clause-choices_ok : goal.returns-in-Ok-clause-choices_ok
returns-in-Ok-clause-choices_ok c =
    let self = c.args.self.now in
    let at = c.args.at in
    let write : Written = record { at = at; content = c.args.from.now } in
    let chosen = λ (k : ℕ). choices self.start.items self.writes.items self.synced k in
    let more = λ (k : ℕ). ap (λ ws. choices self.start.items ws self.synced k) c.in-Ok.ensures.items
    ∙ choices-append self.start.items self.writes.items self.synced k write self.synced_writes in
    record {
      here = more at ∙ ap (λ l. chosen at ++ l) (written_to_same at write [] refl);
      others = λ k other. more k ∙ ap (λ l. chosen k ++ l) (written_to_other k write [] (λ is. other (sym is))) ∙ append-nil (chosen k);
    }

pub returns-in-Err-clause-choices_err : goal.returns-in-Err-clause-choices_err
returns-in-Err-clause-choices_err c =
    let self = c.args.self.now in
    record { each = λ k. ap (λ ws. choices self.start.items ws self.synced k) c.in-Err.ensures.items }
