-- Lemmas about a plan that begins with a sync.
use Rattle.std.proofs.Common.{◌≡◌, ◌⊎◌, inl, inr, ⊎_elim, ℕ, zero, suc, ◌+◌, ◌≤◌, List, [], ◌∷◌, ◌++◌, length, map, take, drop, refl, sym, ap, ◌∙◌, arith}
use Rattle.std.proofs.lemmas.List.{length-map}
use Rattle.std.proofs.lemmas.List.Elements.{All-head}
use Rattle.sector_disk.specs.Disk.{Sector, sector, Logged, Synced, GrowsBehindSync, MayAddSync}
use Rattle.byte_disk.specs.declared.disk.ByteDisk.{ByteDisk}
use Rattle.byte_disk.specs.declared.step.Step.{Step}
use Rattle.byte_disk.specs.declared.step.Step.TheVariants.{Write, Sync}
use Rattle.byte_disk.specs.ByteDisk.{byte_facts, logged, plan_of}
use Rattle.byte_disk.specs.Plan.{IsMixtureAfter, IsWriteStep, MayBeLeft, writes_in}
use Rattle.byte_registry.specs.Plans.{behind_sync, synced_plan}

module _ (start : List Sector) where
  -- a sync before the other steps doesn't add contents that a stop may leave
  behind_left : (steps : List Step) (k : ℕ) (c : Sector) → MayBeLeft start (Sync ∷ steps) k c → MayBeLeft start steps k c
  behind_left steps k c (zero, le, writes, is) = absurd (All-head IsWriteStep Sync steps writes)
  behind_left steps k c (suc i, le, writes, is) = (i, omega (arith, le), writes, is)

  behind_mixture : (steps : List Step) (m : List Sector) → IsMixtureAfter start (Sync ∷ steps) m → IsMixtureAfter start steps m
  behind_mixture steps m mixture = record { size = mixture.size; each = λ k lt. behind_left steps k (sector m k) (mixture.each k lt) }

  module _ (P : List Sector → Type 0) where
    abbrev HoldsWithin : List Step → Type 0
    HoldsWithin steps = (n : ℕ) → n ≤ length steps → (m : List Sector) → IsMixtureAfter start (take n steps) m → P m

    with_sync : (steps : List Step) → HoldsWithin steps → HoldsWithin (Sync ∷ steps)
    with_sync steps holds zero le m mixture = holds zero (omega arith) m mixture
    with_sync steps holds (suc n) le m mixture = holds n (omega (arith, le)) m (behind_mixture (take n steps) m mixture)

    -- If a fact holds for each mixture after each prefix of the steps, it still holds if a sync comes
    -- first.
    pub begun_prefix : (steps : List Step) → HoldsWithin steps → HoldsWithin (Sync ∷ behind_sync steps)
    begun_prefix [] holds = with_sync [] holds
    begun_prefix (Sync ∷ steps) holds = holds
    begun_prefix (Write at content ∷ steps) holds = with_sync (Write at content ∷ steps) holds

    -- If a fact holds for each mixture after all steps, it still holds if a sync comes first.
    pub begun_whole : (steps : List Step) → ((m : List Sector) → IsMixtureAfter start steps m → P m) → (m : List Sector) → IsMixtureAfter start (Sync ∷ behind_sync steps) m → P m
    begun_whole [] holds m mixture = holds m (behind_mixture [] m mixture)
    begun_whole (Sync ∷ steps) holds m mixture = holds m mixture
    begun_whole (Write at content ∷ steps) holds m mixture = holds m (behind_mixture (Write at content ∷ steps) m mixture)

-- a plan that begins with a sync has the same writes
pub same_writes : (steps : List Step) → writes_in (Sync ∷ behind_sync steps) ≡ writes_in steps
same_writes [] = refl
same_writes (Sync ∷ steps) = refl
same_writes (Write at content ∷ steps) = refl

behind_few : (steps : List Step) → length (behind_sync steps) ≤ length steps
behind_few [] = omega arith
behind_few (Sync ∷ steps) = omega arith
behind_few (Write at content ∷ steps) = omega arith

-- if the log begins with a sync, so do the steps
first_synced : (steps : List Step) (more : List Logged) → map logged steps ≡ Synced ∷ more → length (behind_sync steps) ≡ length more
first_synced [] more is = cc is
first_synced (Sync ∷ steps) more is = sym (length-map steps logged) ∙ ap (λ l. length (drop 1 l)) is
first_synced (Write at content ∷ steps) more is = cc is

-- If a disk's log grew from nothing by at most a sync and `most` more steps, its plan has at most `most`
-- steps after the sync.
pub plan_few : (disk : ByteDisk) (most : ℕ) → GrowsBehindSync most [] (byte_facts disk).log → length (synced_plan disk) ≤ most + 1
plan_few disk most grows =
    let steps = plan_of disk in
    let more = grows.more in
    ⊎_elim
    (λ none. let all : map logged steps ≡ more.more = more.grown ∙ ap (λ l. l ++ more.more) none in omega (arith, behind_few steps, length-map steps logged, ap length all, more.few))
    (λ one. let all : map logged steps ≡ Synced ∷ more.more = more.grown ∙ ap (λ l. l ++ more.more) one in omega (arith, first_synced steps more.more all, more.few))
    grows.sync.either

-- If a disk's log grew from nothing by at most a sync, its plan has at most a sync.
pub few_synced : (steps : List Step) → MayAddSync [] (map logged steps) → (steps ≡ []) ⊎ (steps ≡ Sync ∷ [])
few_synced [] may = inl refl
few_synced (Sync ∷ []) may = inr refl
few_synced (Sync ∷ step ∷ steps) may = ⊎_elim (λ none. cc none) (λ one. absurd (omega (arith, ap length one))) may.either
few_synced (Write at content ∷ steps) may = ⊎_elim (λ none. cc none) (λ one. cc one) may.either
