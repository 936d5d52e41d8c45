-- Calls in a row, one part after the other.
use Rattle.std.proofs.Common.{◌≡◌, ℕ, ◌+◌, ◌≤◌, Result, Ok, Err, OnOk, OnErr, IsErr, refl, ◌∙◌, arith}
use Rattle.std.proofs.lemmas.Result.{on_ok_weaker, on_err_weaker}
use Rattle.sector_disk.specs.Disk.{DiskFacts, IsCall, AreCallsAtMost, AreCallsExactly}
use Rattle.sector_disk.proofs.Moments.{same_log, longer_log, log_at_most}
use Rattle.passes.specs.Calls.{AreCallsInRow}

-- a failed call is counted as one failure, and a successful one as none
counted : (old new : DiskFacts) {T E : Type 0} (result : Result T E) → OnOk result (new.failures ≡ old.failures)
    → OnErr result (new.failures ≡ old.failures + 1) → (old.failures ≤ new.failures) × (new.failures ≤ old.failures + 1)
counted old new (Ok x) ok err = (omega (arith, ok), omega (arith, ok))
counted old new (Err e) ok err = (omega (arith, err), omega (arith, err))

-- one call is a row of one call
pub one_in_row : {old new : DiskFacts} {T E : Type 0} {result : Result T E} → IsCall old new result → AreCallsInRow 1 old new result
one_in_row {old = old} {new = new} {result = result} call = record {
  honest = call.honest;
  sectors = call.sectors;
  plans = call.plans;
  log = log_at_most call.log (omega (arith, call.time));
  later = omega (arith, call.time);
  most = omega (arith, call.time);
  few_failures = omega (arith, call.time, counted old new result call.ok call.err);
  all = on_ok_weaker result (λ _. call.time) call.ok;
  ok = call.ok;
  err = call.err;
}

-- no call is a row of no calls
pub none_in_row : (disk : DiskFacts) {T E : Type 0} {x : T} → AreCallsInRow {T = T} {E = E} 0 disk disk (Ok x)
none_in_row disk = record {
  honest = refl;
  sectors = refl;
  plans = refl;
  log = same_log refl;
  later = omega arith;
  most = omega arith;
  few_failures =
      omega arith;
  all = omega arith;
  ok = refl;
  err = tt;
}

-- successful calls, followed by other calls, are a row of all these calls
pub then_in_row : {first old new : DiskFacts} {S F T E : Type 0} {k m : ℕ} {x : S} {result : Result T E}
    → AreCallsInRow {T = S} {E = F} k first old (Ok x) → AreCallsInRow m old new result → AreCallsInRow (k + m) first new result
then_in_row {result = result} before after = record {
  honest = after.honest ∙ before.honest;
  sectors = after.sectors ∙ before.sectors;
  plans = after.plans ∙ before.plans;
  log = longer_log before.log after.log (omega (arith, before.later, after.later));
  later = omega (arith, after.later, before.later);
  most = omega (arith, after.most, before.all);
  few_failures = omega (arith, after.few_failures, after.later, before.later, before.ok);
  all = on_ok_weaker result (λ time. omega (arith, time, before.all)) after.all;
  ok = on_ok_weaker result (λ same. same ∙ before.ok) after.ok;
  err = on_err_weaker result (λ more. omega (arith, more, before.ok)) after.err;
}

-- successful calls so far
abbrev pub CallsSoFar : ℕ → DiskFacts → DiskFacts → Type 0
CallsSoFar n first current = AreCallsInRow {T = Unit {0}} {E = Unit {0}} n first current (Ok tt)

pub so_far_in_row : {first old new : DiskFacts} {S F T E : Type 0} {n k m : ℕ} {x : S} {y : T} → n ≡ k + m
    → AreCallsInRow {T = S} {E = F} k first old (Ok x) → AreCallsInRow {T = T} {E = E} m old new (Ok y) → CallsSoFar n first new
so_far_in_row is before after = record {
  honest = after.honest ∙ before.honest;
  sectors = after.sectors ∙ before.sectors;
  plans = after.plans ∙ before.plans;
  log = longer_log before.log after.log (omega (arith, before.later, after.later));
  later = omega (arith, after.later, before.later);
  most = omega (arith, after.most, before.all, is);
  few_failures = omega (arith, after.few_failures, after.later, before.later, before.ok);
  all = omega (arith, after.all, before.all, is);
  ok = after.ok ∙ before.ok;
  err = tt;
}

-- calls in a row that end with a failure are also a row of up to `n` calls, if they are at most `n`
pub stop_in_row : {first new : DiskFacts} {S F T E : Type 0} {k n : ℕ} {x : F} (result : Result T E)
    → AreCallsInRow {T = S} {E = F} k first new (Err x) → k ≤ n → IsErr result → AreCallsInRow n first new result
stop_in_row (Ok y) calls le is_err = absurd cc
stop_in_row (Err y) calls le is_err = record {
  honest = calls.honest;
  sectors = calls.sectors;
  plans = calls.plans;
  log = calls.log;
  later = calls.later;
  most = omega (arith, calls.most, le);
  few_failures = calls.few_failures;
  all = tt;
  ok = tt;
  err = calls.err;
}

-- calls in a row are at most n, and exactly n if none fails
pub in_row_at_most : {old new : DiskFacts} {T E : Type 0} {n most : ℕ} {result : Result T E} → AreCallsInRow n old new result → n ≤ most → AreCallsAtMost most old new
in_row_at_most {old = old} {new = new} {result = result} calls le = record {
  some = record {
    honest = calls.honest;
    sectors = calls.sectors;
    plans = calls.plans;
    log = calls.log;
    later = calls.later;
    failures =
        (counted old new result calls.ok calls.err).0;
    few_failures = calls.few_failures;
  };
  time = omega (arith, calls.most, le);
}

pub in_row_exactly : {old new : DiskFacts} {T E : Type 0} {n : ℕ} {x : T} → AreCallsInRow {T = T} {E = E} n old new (Ok x) → AreCallsExactly n old new
in_row_exactly {n = n} calls = record { some = (in_row_at_most {most = n} calls (omega arith)).some; time = calls.all }
