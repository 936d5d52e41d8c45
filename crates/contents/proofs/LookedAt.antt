-- Lemmas about libraries that are examined one after the other.
use Rattle.std.proofs.Common.{◌≡◌, ℕ, ◌+◌, ◌-◌, ◌<◌, ◌≤◌, Bool, true, false, cond, List, [], ◌∷◌, ◌++◌, length, get_or, take, sum_by, refl, sym, ap, subst, ◌∙◌, ⊎_elim, arith}
use Rattle.std.specs.Prelude.{count_by}
use Rattle.std.proofs.lemmas.Bool.{cases_lt}
use Rattle.std.proofs.lemmas.List.{length-append, get_or_append_left, get_or-append_right, take_all}
use Rattle.std.proofs.lemmas.List.Sums.{sum_by_more, sum_by_more_le, sum_by_push}
use Rattle.sector_disk.specs.Disk.{DiskFacts, AreCallsAtMost}
use Rattle.sector_disk.proofs.Moments.{exactly_none, exactly_at_most, at_most_sum}
use Rattle.states.specs.State.{Library, State}
use Rattle.store.specs.declared.placed_entry.PlacedEntry.{PlacedEntry}
use Rattle.store.specs.IsRead.{IsRead, file_sectors}
use Rattle.store.specs.Opened.{Opened, IsAt}
use Rattle.store.specs.Stands.{no_library}
use Rattle.store.proofs.IsReadLemmas.{read_none, read_more}
use Rattle.store.proofs.UsedAlone.{no_entry}

-- `Is l x` is the fact that the finding `x` is true of the library `l`. `is_unread x` is whether `x`
-- reports that the library can't be read.
module _ {T : Type 0} (Is : Library → T → Type 0) (is_unread : T → Bool) where
  -- The libraries before this position were examined, and `seen` has a true finding for each of them.
  pub record SeenSoFar {D : Type 0} (facts : D → DiskFacts) (start now : Opened D) (position : ℕ) (seen : List T) : Type 0 where
    pub read : IsRead facts start now
    pub count : length seen ≡ position
    pub each : (s : State) → IsAt facts start s → (k : ℕ) → k < position → (d : T) → Is (get_or s.libraries k no_library) (get_or seen k d)
    pub failures : (facts start.disk).failures + count_by is_unread seen ≤ (facts now.disk).failures
    pub calls : AreCallsAtMost (sum_by file_sectors (take position start.entries)) (facts start.disk) (facts now.disk)

-- if the count of unreadable libraries is at most the number of failures, this is still so after one
-- more library
counted : (unread : Bool) (count before after : ℕ) → (unread ≡ true → before < after) → before ≤ after → count ≤ before → count + cond unread 1 0 ≤ after
counted true count before after failed later so_far = omega (arith, failed refl, so_far)
counted false count before after failed later so_far = omega (arith, later, so_far)

-- if a property holds for each item of a list and for one appended item, it holds for each item of the
-- longer list
pushed : {T : Type 0} (P : ℕ → T → Type 0) (seen : List T) (x : T) (position : ℕ) → length seen ≡ position
    → ((k : ℕ) → k < position → (d : T) → P k (get_or seen k d)) → P position x
    → (k : ℕ) → k < position + 1 → (d : T) → P k (get_or (seen ++ x ∷ []) k d)
pushed P seen x position count before at k within d = ⊎_elim
    (λ below. subst (P k) (sym (get_or_append_left seen (x ∷ []) d k (omega (arith, below, count)))) (before k below d))
    (λ le.
    let is : position ≡ k = omega (arith, le, within) in
    let first : k - position ≡ 0 = omega (arith, is) in
    subst (P k) (sym (get_or-append_right seen (x ∷ []) position k d count le ∙ ap (λ n. get_or (x ∷ []) n d) first)) (subst (λ n. P n x) is at))
    (cases_lt k position)

module _ {T : Type 0} (Is : Library → T → Type 0) (is_unread : T → Bool) {D : Type 0} {facts : D → DiskFacts} where
  pub none_seen : (start : Opened D) → SeenSoFar Is is_unread facts start start 0 []
  none_seen start = record {
    read = read_none start;
    count = refl;
    each = λ s at k lt. absurd (omega (arith, lt));
    failures = omega arith;
    calls = exactly_at_most (exactly_none (facts start.disk)) (omega arith);
  }

  -- if one more library is read, the calls are at most the sectors of the libraries up to it
  pub more_calls : {start mid : Opened D} {position : ℕ} {seen : List T} (new : Opened D) → position < length start.entries → SeenSoFar Is is_unread facts start mid position seen
      → ((d : PlacedEntry) → AreCallsAtMost (file_sectors (get_or mid.entries position d)) (facts mid.disk) (facts new.disk))
      → AreCallsAtMost (sum_by file_sectors (take (position + 1) start.entries)) (facts start.disk) (facts new.disk)
  more_calls {start = start} {position = position} new lt so_far calls = at_most_sum so_far.calls (calls no_entry) (omega (
    arith,
    ap (λ entries. file_sectors (get_or entries position no_entry)) so_far.read.entries,
    sum_by_more file_sectors start.entries position no_entry lt,
  ))

  -- if the libraries before a position were examined, and then the one at it, the libraries up to the
  -- next position were examined
  pub one_seen : {start mid new : Opened D} {position : ℕ} {seen : List T} (x : T) → position < length start.entries
      → SeenSoFar Is is_unread facts start mid position seen → IsRead facts mid new
      → ((s : State) → IsAt facts mid s → Is (get_or s.libraries position no_library) x)
      → (is_unread x ≡ true → (facts mid.disk).failures < (facts new.disk).failures)
      → ((d : PlacedEntry) → AreCallsAtMost (file_sectors (get_or mid.entries position d)) (facts mid.disk) (facts new.disk))
      → SeenSoFar Is is_unread facts start new (position + 1) (seen ++ x ∷ [])
  one_seen {start = start} {mid = mid} {new = new} {position = position} {seen = seen} x lt so_far read is failed calls = record {
    read = read_more so_far.read read;
    count = omega (arith, length-append seen (x ∷ []), so_far.count);
    each = λ s at. pushed (λ k. Is (get_or s.libraries k no_library)) seen x position so_far.count (so_far.each s at) (is s (so_far.read.same s at));
    failures = omega (
      arith,
      sum_by_push (λ (y : T). cond (is_unread y) 1 0) seen x,
      counted (is_unread x) ((facts start.disk).failures + count_by is_unread seen) (facts mid.disk).failures (facts new.disk).failures failed read.calls.failures so_far.failures,
    );
    calls = more_calls new lt so_far calls;
  }

  -- If one more library is read, the calls are at most the sectors of all libraries.
  pub some_calls : {start mid : Opened D} {position : ℕ} {seen : List T} (new : Opened D) → position < length start.entries → SeenSoFar Is is_unread facts start mid position seen
      → ((d : PlacedEntry) → AreCallsAtMost (file_sectors (get_or mid.entries position d)) (facts mid.disk) (facts new.disk))
      → AreCallsAtMost (sum_by file_sectors start.entries) (facts start.disk) (facts new.disk)
  some_calls {start = start} {position = position} new lt so_far calls = at_most_sum so_far.calls (calls no_entry) (omega (
    arith,
    ap (λ entries. file_sectors (get_or entries position no_entry)) so_far.read.entries,
    sum_by_more_le file_sectors start.entries position no_entry lt,
  ))

  -- If all libraries were examined, there are as many findings as entries, and the calls are at most the
  -- sectors of all of them.
  pub all_counted : {start now : Opened D} {position : ℕ} {seen : List T} → SeenSoFar Is is_unread facts start now position seen → length start.entries ≡ position
      → length seen ≡ length start.entries
  all_counted so_far all = so_far.count ∙ sym all

  pub all_calls : {start now : Opened D} {position : ℕ} {seen : List T} → SeenSoFar Is is_unread facts start now position seen → length start.entries ≤ position
      → AreCallsAtMost (sum_by file_sectors start.entries) (facts start.disk) (facts now.disk)
  all_calls {start = start} {now = now} {position = position} so_far all =
      subst (λ entries. AreCallsAtMost (sum_by file_sectors entries) (facts start.disk) (facts now.disk)) (take_all position start.entries all) so_far.calls
