-- How the statements about what a stop leaves carry over from call to call.
use Rattle.std.proofs.Common.{◌≡◌, ⊎_elim, ℕ, ◌+◌, ◌<◌, ◌≤◌, List, [], ◌++◌, Result, refl, sym, ◌∙◌, ap, subst, arith}
use Rattle.std.proofs.lemmas.Bool.{cases_lt}
use Rattle.std.proofs.lemmas.List.{length-append, append-nil, append_assoc}
use Rattle.sector_disk.specs.Disk.{Sector, DiskFacts, Logged, LogGrows, MixtureAt, Mixture, KeepsPast, IsCall, AreCalls, AreCallsExactly, AreCallsAtMost, LeavesOnly}

-- a mixture of a past moment was a mixture at that moment
pub past_mixture : {old new : DiskFacts} → KeepsPast old new → (u : ℕ) → u ≤ old.time → (m : List Sector) → MixtureAt new u m → MixtureAt old u m
past_mixture keeps u le m mixture = record {
  size = mixture.size ∙ keeps.sectors;
  each = λ k lt. (keeps.past u k _ le).0 (mixture.each k (subst (λ n. k < n) (sym keeps.sectors) lt));
}

-- if two calls each keep the past, both together keep it
pub keeps_past : {old mid new : DiskFacts} → KeepsPast old mid → KeepsPast mid new → KeepsPast old new
keeps_past {mid = mid} first second = record {
  sectors = second.sectors ∙ first.sectors;
  later = omega (arith, first.later, second.later);
  marks = λ u le. second.marks u (omega (arith, le, first.later)) ∙ first.marks u le;
  past = λ u k c le.
      let le' : u ≤ mid.time = omega (arith, le, first.later) in
      (λ now. (first.past u k c le).0 ((second.past u k c le').0 now), λ was. (second.past u k c le').1 ((first.past u k c le).1 was));
}

-- if all mixtures before and after one call have the property, a stop at any moment of the call leaves only such
-- mixtures
pub one_call : {old new : DiskFacts} {T E : Type 0} {result : Result T E} (P : List Sector → Type 0) → IsCall old new result → KeepsPast old new
    → ((m : List Sector) → Mixture old m → P m) → ((m : List Sector) → Mixture new m → P m) → LeavesOnly old new P
one_call {old = old} {new = new} P call keeps before after = record {
  past = keeps;
  each = λ m left. ⊎_elim
      (λ lt. let same : left.0 ≡ new.time = omega (arith, lt, left.2, call.time) in after m (subst (λ u. MixtureAt new u m) same left.3))
      (λ le. let same : left.0 ≡ old.time = omega (arith, le, left.1) in before m (subst (λ u. MixtureAt old u m) same (past_mixture keeps left.0 le m left.3)))
      (cases_lt old.time left.0);
}

-- if a stop during some calls leaves only such mixtures, and so does a stop during later calls, the same is true of all
-- these calls
pub goes_on : {old mid new : DiskFacts} (P : List Sector → Type 0) → LeavesOnly old mid P → LeavesOnly mid new P → LeavesOnly old new P
goes_on {mid = mid} P first second = record {
  past = keeps_past first.past second.past;
  each = λ m left. ⊎_elim
      (λ lt. let le : mid.time ≤ left.0 = omega (arith, lt) in second.each m (left.0, le, left.2, left.3))
      (λ le. first.each m (left.0, left.1, le, past_mixture second.past left.0 le m left.3))
      (cases_lt mid.time left.0);
}

-- what is left also has any weaker property
pub weaken : {old new : DiskFacts} (P Q : List Sector → Type 0) → ((m : List Sector) → P m → Q m) → LeavesOnly old new P → LeavesOnly old new Q
weaken P Q to leaves = record { past = leaves.past; each = λ m left. to m (leaves.each m left) }

-- if no call was made, and all mixtures have the property, a stop leaves only such mixtures
pub at_rest : (disk : DiskFacts) (P : List Sector → Type 0) → ((m : List Sector) → Mixture disk m → P m) → LeavesOnly disk disk P
at_rest disk P now = record {
  past = record { sectors = refl; later = omega arith; marks = λ u le. refl; past = λ u k c le. (λ x. x, λ x. x) };
  each = λ m left. let same : left.0 ≡ disk.time = omega (arith, left.1, left.2) in now m (subst (λ u. MixtureAt disk u m) same left.3);
}

-- what is left at the present moment has the property
pub left_now : {old new : DiskFacts} (P : List Sector → Type 0) → LeavesOnly old new P → (m : List Sector) → Mixture new m → P m
left_now {new = new} P leaves m mixture = leaves.each m (new.time, leaves.past.later, omega arith, mixture)

-- a log that stayed the same grew by at most `most` calls
pub same_log : {old new : List Logged} {most : ℕ} → new ≡ old → LogGrows most old new
same_log {old = old} same = record { more = []; few = omega arith; grown = same ∙ sym (append-nil old) }

-- if a log grew twice, it grew by at most the sum of the calls
pub longer_log : {old mid new : List Logged} {few more most : ℕ} → LogGrows few old mid → LogGrows more mid new → few + more ≤ most → LogGrows most old new
longer_log {old = old} first second le = record {
  more = first.more ++ second.more;
  few = omega (arith, length-append first.more second.more, first.few, second.few, le);
  grown = second.grown ∙ ap (λ l. l ++ second.more) first.grown ∙ append_assoc old first.more second.more;
}

-- a log that grew by at most `few` calls grew by at most any greater number of calls
pub log_at_most : {few most : ℕ} {old new : List Logged} → LogGrows few old new → few ≤ most → LogGrows most old new
log_at_most grows le = record { more = grows.more; few = omega (arith, grows.few, le); grown = grows.grown }

-- if no call was made, `AreCalls` holds
pub no_calls : (disk : DiskFacts) → AreCalls disk disk
no_calls disk = record { honest = refl; sectors = refl; plans = refl; log = same_log refl; later = omega arith; failures = omega arith; few_failures = omega arith }

-- some calls, followed by more calls, are some calls
pub more_calls : {old mid new : DiskFacts} → AreCalls old mid → AreCalls mid new → AreCalls old new
more_calls first second = record {
  honest = second.honest ∙ first.honest;
  sectors = second.sectors ∙ first.sectors;
  plans = second.plans ∙ first.plans;
  log = longer_log first.log second.log (omega (arith, first.later, second.later));
  later = omega (arith, first.later, second.later);
  failures = omega (arith, first.failures, second.failures);
  few_failures = omega (arith, first.later, second.later, first.failures, second.failures, first.few_failures, second.few_failures);
}

-- no call is exactly 0 calls
pub exactly_none : (disk : DiskFacts) → AreCallsExactly 0 disk disk
exactly_none disk = record { some = no_calls disk; time = omega arith }

-- exactly `calls` calls and then exactly `more` calls are exactly their sum
pub exactly_sum : {calls more total : ℕ} {old mid new : DiskFacts} → AreCallsExactly calls old mid → AreCallsExactly more mid new → calls + more ≡ total → AreCallsExactly total old new
exactly_sum first second sum = record { some = more_calls first.some second.some; time = omega (arith, first.time, second.time, sum) }

-- exactly `calls` calls make a log grow by at most `calls`
pub exactly_logged : {calls : ℕ} {old new : DiskFacts} → AreCallsExactly calls old new → LogGrows calls old.log new.log
exactly_logged exactly = log_at_most exactly.some.log (omega (arith, exactly.time))

-- exactly `calls` calls are at most `most` calls, if `calls` is at most `most`
pub exactly_at_most : {calls most : ℕ} {old new : DiskFacts} → AreCallsExactly calls old new → calls ≤ most → AreCallsAtMost most old new
exactly_at_most exactly le = record { some = exactly.some; time = omega (arith, exactly.time, le) }

-- at most `calls` calls and then at most `more` calls are at most their sum
pub at_most_sum : {calls more most : ℕ} {old mid new : DiskFacts} → AreCallsAtMost calls old mid → AreCallsAtMost more mid new → calls + more ≤ most → AreCallsAtMost most old new
at_most_sum first second sum = record { some = more_calls first.some second.some; time = omega (arith, first.time, second.time, sum) }
