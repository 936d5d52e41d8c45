-- Several calls of an honest file, one after the other.
use Rattle.std.proofs.Common.{◌≡◌, ◌<◌, ◌≤◌, ◌+◌, ◌-◌, inl, inr, ⊎_elim, ℕ, Bool, true, false, List, length, refl, ◌∙◌, ap, subst, arith, if◌then◌else◌}
use Rattle.std.specs.Prelude.{◌==◌, Result}
use Rattle.std.proofs.lemmas.Bool.{cases_lt, eqb-false}
use Rattle.sector_disk.specs.Disk.{Sector, sector}
use Rattle.file_disk.specs.SectorFile.{FileFacts, MayHave, IsGivenTo, IsFileCall, IsFileRead, IsFileWrite, IsOldOrGiven, moved}
use Rattle.file_disk.specs.inside.Transfer.{StaysWithin, IsWrittenAt, IsReadAt}

-- a call counts at most one failure
raised : (b : Bool) (m n : ℕ) → n ≡ (if b then m + 1 else m) → m ≤ n
raised true m n is = omega arith
raised false m n is = omega arith

-- a call moves something, or it is counted as failed
turned : (b : Bool) (n m m' : ℕ) → (b ≡ false → 0 < n) → m' ≡ (if b then m + 1 else m) → m + 1 ≤ n + m'
turned true n m m' some is = omega arith
turned false n m m' some is = omega (arith, some refl)

-- if the present contents are allowed, making no call stays within what is allowed
pub within_none : (Allowed : ℕ → Sector → Type 0) (old : FileFacts) → ((k : ℕ) (c : Sector) → MayHave old k c → Allowed k c) → StaysWithin Allowed old old
within_none Allowed old now = record {
  sectors = refl;
  later = omega arith;
  failures = omega arith;
  past = λ u k c le has. has;
  each = λ u k c low high has. let is : u ≡ old.time = omega arith in now k c (subst (λ v. old.may_have v k c) is has);
}

-- one more call stays within what is allowed, if its contents are allowed
pub within_more : (Allowed : ℕ → Sector → Type 0) (failed : Bool) (old mid new : FileFacts) → StaysWithin Allowed old mid → IsFileCall failed mid new
    → ((k : ℕ) (c : Sector) → MayHave new k c → Allowed k c) → StaysWithin Allowed old new
within_more Allowed failed old mid new within call now = record {
  sectors = call.sectors ∙ within.sectors;
  later = omega (arith, within.later, call.time);
  failures = omega (arith, within.failures, raised failed mid.failures new.failures call.failures);
  past = λ u k c le has. within.past u k c le ((call.past u k c (omega (arith, le, within.later))).0 has);
  each = λ u k c low high has. ⊎_elim
      (λ early. let before : u ≤ mid.time = omega (arith, early, call.time) in within.each u k c low before ((call.past u k c before).0 has))
      (λ late. let is : u ≡ new.time = omega (arith, late, high) in now k c (subst (λ v. new.may_have v k c) is has))
      (cases_lt u new.time);
}

-- calls that stay within some contents also stay within more contents
pub within_weaker : (Allowed Allowed' : ℕ → Sector → Type 0) (old new : FileFacts) → ((k : ℕ) (c : Sector) → Allowed k c → Allowed' k c) → StaysWithin Allowed old new
    → StaysWithin Allowed' old new
within_weaker Allowed Allowed' old new weaker within = record {
  sectors = within.sectors;
  later = within.later;
  failures = within.failures;
  past = within.past;
  each = λ u k c low high has. weaker k c (within.each u k c low high has);
}

-- some calls and then some more stay together within what is allowed
pub within_then : (Allowed Allowed' : ℕ → Sector → Type 0) (old mid new : FileFacts) → ((k : ℕ) (c : Sector) → Allowed' k c → Allowed k c) → StaysWithin Allowed old mid
    → StaysWithin Allowed' mid new → StaysWithin Allowed old new
within_then Allowed Allowed' old mid new weaker first second = record {
  sectors = second.sectors ∙ first.sectors;
  later = omega (arith, first.later, second.later);
  failures = omega (arith, first.failures, second.failures);
  past = λ u k c le has. first.past u k c le (second.past u k c (omega (arith, le, first.later)) has);
  each = λ u k c low high has. ⊎_elim
      (λ early. let before : u ≤ mid.time = omega arith in first.each u k c low before (second.past u k c before has))
      (λ late. weaker k c (second.each u k c late high has))
      (cases_lt u mid.time);
}

-- The sectors that were written in the first `tries` tries.
pub record IsWrittenSoFar (at : ℕ) (from : List Sector) (done tries : ℕ) (old new : FileFacts) : Type 0 where
  pub written : IsWrittenAt at from done old new
  pub counted : tries + old.failures ≤ done + new.failures

pub written_none : (at : ℕ) (from : List Sector) (old : FileFacts) → old.sync_failed ≡ false → IsWrittenSoFar at from 0 0 old old
written_none at from old trusted = record {
  written = record {
    within = within_none _ old (λ k c has. inl has);
    trusted = trusted;
    now = record { size = refl; either = λ k. inl refl; moved = λ i lt. absurd (omega (arith, lt)) };
  };
  counted = omega arith;
}

module _ (at : ℕ) (from rest : List Sector) (done : ℕ) (places : (j : ℕ) → j < length rest → sector rest j ≡ sector from (done + j)) (fits : done + length rest ≤ length from) where
  given_more : (k : ℕ) (c : Sector) → IsGivenTo (at + done) rest k c → IsGivenTo at from k c
  given_more k c given = (done + given.0, omega (arith, given.1, fits), omega (arith, given.2), given.3 ∙ places given.0 given.1)

  now_more : (n : ℕ) (old mid new : List Sector) → n ≤ length rest → IsOldOrGiven at from done old mid → IsOldOrGiven (at + done) rest n mid new → IsOldOrGiven at from (done + n) old new
  now_more n old mid new few before step = record {
    size = step.size ∙ before.size;
    either = λ k. ⊎_elim
        (λ same. ⊎_elim (λ was. inl (same ∙ was)) (λ given. inr (given.0, given.1, given.2, same ∙ given.3)) (before.either k))
        (λ given. inr (given_more k (sector new k) given))
        (step.either k);
    moved = λ i lt. ⊎_elim
        (λ early. ⊎_elim
        (λ same. same ∙ before.moved i early)
        (λ given. absurd (omega (arith, given.2, early)))
        (step.either (at + i)))
        (λ late.
        let here : at + i ≡ (at + done) + (i - done) = omega (arith, late) in
        let there : done + (i - done) ≡ i = omega (arith, late) in
        let some : i - done < n = omega (arith, lt, late) in
        ap (sector new) here ∙ step.moved (i - done) some ∙ places (i - done) (omega (arith, some, few)) ∙ ap (sector from) there)
        (cases_lt i done);
  }

  -- one more write continues the sectors that were written so far
  pub written_more : {E : Type 0} (tries : ℕ) (old mid new : FileFacts) (result : Result ℕ E) → moved result ≤ length rest → IsWrittenSoFar at from done tries old mid
      → IsFileWrite mid new (at + done) rest result → IsWrittenSoFar at from (done + moved result) (tries + 1) old new
  written_more tries old mid new result few before step =
      let so_far = before.written in
      record {
        written = record {
          within = within_more _ (moved result == 0) old mid new so_far.within step.call (λ k c has. ⊎_elim
              (λ was. so_far.within.each mid.time k c so_far.within.later (omega arith) was)
              (λ given. inr (given_more k c given))
              (step.medium k c has));
          trusted = step.sync_failed ∙ so_far.trusted;
          now = now_more (moved result) old.now mid.now new.now few so_far.now (step.now so_far.trusted);
        };
        counted = omega (
          arith,
          before.counted,
          turned (moved result == 0) (moved result) mid.failures new.failures (λ is. omega (arith, eqb-false (moved result) 0 is)) step.call.failures,
        );
      }

-- what is true after more sectors were moved is also true of fewer
pub written_fewer : (at : ℕ) (from : List Sector) (done : ℕ) (old new : FileFacts) → IsWrittenAt at from done old new → IsWrittenAt at from 0 old new
written_fewer at from done old new written = record {
  within = written.within;
  trusted = written.trusted;
  now = record { size = written.now.size; either = written.now.either; moved = λ i lt. absurd (omega (arith, lt)) };
}

-- The sectors that were read in the first `tries` tries.
pub record IsReadSoFar (at : ℕ) (into : List Sector) (count tries : ℕ) (old new : FileFacts) : Type 0 where
  pub read : IsReadAt at into count old new
  pub counted : tries + old.failures ≤ count + new.failures

pub read_none : (at : ℕ) (into : List Sector) (old : FileFacts) → old.sync_failed ≡ false → IsReadSoFar at into 0 0 old old
read_none at into old trusted = record {
  read = record { within = within_none _ old (λ k c has. has); trusted = trusted; now = refl; read = λ i lt. absurd (omega (arith, lt)) };
  counted = omega arith;
}

-- one more read continues the sectors that were read so far
pub read_more : {E : Type 0} (at : ℕ) (into part into' : List Sector) (count tries : ℕ) (old mid new : FileFacts) (result : Result ℕ E)
    → ((i : ℕ) → i < count → sector into' i ≡ sector into i) → ((j : ℕ) → j < moved result → sector into' (count + j) ≡ sector part j)
    → IsReadSoFar at into count tries old mid → IsFileRead mid new (at + count) part result → IsReadSoFar at into' (count + moved result) (tries + 1) old new
read_more at into part into' count tries old mid new result front behind before step =
    let so_far = before.read in
    record {
      read = record {
        within = within_more _ (moved result == 0) old mid new so_far.within step.call
            (λ k c has. so_far.within.each mid.time k c so_far.within.later (omega arith) (step.same.medium k c has));
        trusted = step.same.sync_failed ∙ so_far.trusted;
        now = step.now so_far.trusted ∙ so_far.now;
        read = λ i lt. ⊎_elim
            (λ early. front i early ∙ so_far.read i early)
            (λ late.
            let here : i ≡ count + (i - count) = omega (arith, late) in
            let there : (at + count) + (i - count) ≡ at + i = omega (arith, late) in
            let some : i - count < moved result = omega (arith, lt, late) in
            ap (sector into') here ∙ behind (i - count) some ∙ step.moved so_far.trusted (i - count) some
            ∙ ap (λ now. sector now ((at + count) + (i - count))) so_far.now ∙ ap (sector old.now) there)
            (cases_lt i count);
      };
      counted = omega (
        arith,
        before.counted,
        turned (moved result == 0) (moved result) mid.failures new.failures (λ is. omega (arith, eqb-false (moved result) 0 is)) step.call.failures,
      );
    }
