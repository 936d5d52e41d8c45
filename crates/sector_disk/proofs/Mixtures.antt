-- What one call does to the mixtures.
use Rattle.std.proofs.Common.{◌≡◌, ◌↔◌, All, ◌≤◌, inl, inr, ⊎_elim, ℕ, ◌<◌, List, [], length, set, Result, OnOk, sym, ◌∙◌, ap, subst}
use Rattle.std.proofs.lemmas.Bool.{cases_eq}
use Rattle.std.proofs.lemmas.List.{length-set, get_or-set_same, get_or-set_other, set-get_or, set-set, ext_get_or}
use Rattle.std.proofs.lemmas.List.Elements.{All-from_get_or}
use Rattle.std.proofs.lemmas.Result.{on_ok_weaker}
use Rattle.sector_disk.specs.Disk.{Sector, sector, IsWhole, DiskFacts, MixtureAt, Mixture, HoldsNow, HasWholeSectors, IsUnchanged, IsRead, IsWrite}
use Rattle.sector_disk.specs.Disk.{IsSync, LeavesNowAlone, IsSynced, SameBut, IsMixtureBut, IsMixtureOrSet, IsOldOrSet, IsSameDisk}
use Rattle.sector_disk.specs.Disk.{StartsWith}

-- two steps, each of which changes only sectors among `more`, together change only these
pub same_more : {places more : ℕ → Type 0} {old mid new : List Sector} → ((k : ℕ) → places k → more k) → SameBut more old mid → SameBut places mid new → SameBut more old new
same_more among first second = record { size = second.size ∙ first.size; others = λ k not. second.others k (λ here. not (among k here)) ∙ first.others k not }

-- writing a sector keeps the others
pub same_set : (l : List Sector) (at : ℕ) (content : Sector) → SameBut (λ k. k ≡ at) l (set l at content)
same_set l at content = record { size = length-set l at content; others = λ k other. get_or-set_other l at k content [] other }

-- if each mixture of a disk is one of an older disk except for the sectors `more`, so is each of its mixtures except
-- for some of these sectors
pub mixture_but : {first old : DiskFacts} (places more : ℕ → Type 0) → ((k : ℕ) → places k → more k)
    → ((m : List Sector) → Mixture old m → IsMixtureBut more first m) → (m : List Sector) → IsMixtureBut places old m → IsMixtureBut more first m
mixture_but places more among so_far m but = let was = so_far but.0 but.1 in (was.0, was.1, same_more among was.2 but.2)

module _ {old new : DiskFacts} {at : ℕ} {content : Sector} {T E : Type 0} {result : Result T E} (holds : HoldsNow old)
    (write : IsWrite old new at content result) (m : List Sector) (mixture : Mixture new m) where
  -- the mixture with the sector's old content put back
  abbrev before : List Sector
  before = set m at (sector old.now at)

  lt_new : (k : ℕ) → k < old.sectors → k < new.sectors
  lt_new k lt = subst (λ n. k < n) (sym write.past.sectors) lt

  -- each content that this write didn't make could be left before it
  older : (k : ℕ) → k < old.sectors → ((k ≡ at) × (sector m k ≡ content) → old.may_leave old.time k (sector m k)) → old.may_leave old.time k (sector m k)
  older k lt newer = ⊎_elim (λ was. was) newer (write.stop.each k (sector m k) (mixture.each k (lt_new k lt)))

  before_left : (k : ℕ) → k < old.sectors → old.may_leave old.time k (sector before k)
  before_left k lt =
      let in_m : k < length m = subst (λ n. k < n) (sym mixture.size) (lt_new k lt) in
      ⊎_elim
      (λ same.
      let is : sector before k ≡ sector old.now k = rw same (get_or-set_same m at (sector old.now at) [] (subst (λ j. j < length m) same in_m)) in
      subst (λ c. old.may_leave old.time k c) (sym is) (holds.each k lt))
      (λ other. subst (λ c. old.may_leave old.time k c) (sym (get_or-set_other m at k (sector old.now at) [] other)) (older k lt (λ this. absurd (other this.0))))
      (cases_eq k at)

  before_mixture : Mixture old before
  before_mixture = record { size = length-set m at (sector old.now at) ∙ mixture.size ∙ write.past.sectors; each = before_left }

  -- a mixture after a write is one from before it, except for the written sector
  pub after_write : IsMixtureBut (λ k. k ≡ at) old m
  after_write = (before, before_mixture, record { size = sym (length-set m at (sector old.now at)); others = λ k other. sym (get_or-set_other m at k (sector old.now at) [] other) })

  -- a mixture after a write is one from before it, or such a mixture with this content in the written sector
  pub any_write : at < old.sectors → IsMixtureOrSet old at content m
  any_write in_old = ⊎_elim was_old was_new (write.stop.each at (sector m at) (mixture.each at (lt_new at in_old)))
    where
      was_old : old.may_leave old.time at (sector m at) → IsMixtureOrSet old at content m
      was_old left = inl (record {
        size = mixture.size ∙ write.past.sectors;
        each = λ k lt. older k lt (λ this. subst (λ j. old.may_leave old.time j (sector m j)) (sym this.0) left);
      })

      was_new : (at ≡ at) × (sector m at ≡ content) → IsMixtureOrSet old at content m
      was_new this = inr (before, before_mixture, sym (set-get_or m at []) ∙ ap (λ c. set m at c) this.1 ∙ sym (set-set m at (sector old.now at) content))

  -- one write into a synced disk leaves the old sectors, or the new ones
  pub one_write : at < old.sectors → IsSynced old → IsOldOrSet old.now at content m
  one_write in_old is_synced = ⊎_elim
      (λ was. inl (is_synced.each m was))
      (λ newer. inr (newer.2 ∙ ap (λ l. set l at content) (is_synced.each newer.0 newer.1)))
      (any_write in_old)

-- If no set grows, there is no new mixture.
pub after_sync : {old new : DiskFacts} {T E : Type 0} {result : Result T E} → IsSync old new result → (m : List Sector) → Mixture new m → Mixture old m
after_sync sync m mixture = record {
  size = mixture.size ∙ sync.past.sectors;
  each = λ k lt. sync.stop.each k (sector m k) (mixture.each k (subst (λ n. k < n) (sym sync.past.sectors) lt));
}

-- If reads return the same and a stop may leave the same, the mixtures are the same.
pub unchanged_mixture : {old new : DiskFacts} → new.sectors ≡ old.sectors → IsUnchanged old new → (m : List Sector) → Mixture new m ↔ Mixture old m
unchanged_mixture sectors same m = (
  λ mixture. record { size = mixture.size ∙ sectors; each = λ k lt. (same.stop k (sector m k)).0 (mixture.each k (subst (λ n. k < n) (sym sectors) lt)) },
  λ mixture. record { size = mixture.size ∙ sym sectors; each = λ k lt. (same.stop k (sector m k)).1 (mixture.each k (subst (λ n. k < n) sectors lt)) },
)

-- a read makes no new mixture
pub after_read : {old new : DiskFacts} {at : ℕ} {content : Sector} {T E : Type 0} {result : Result T E} → IsRead old new at content result → (m : List Sector) → Mixture new m → Mixture old m
after_read read m = (unchanged_mixture read.past.sectors read.same m).0

-- The same disk by another clock has the same mixtures at the present moment. Nothing is stated about other moments.
pub same_disk_mixture : {old new : DiskFacts} → IsSameDisk old new → (m : List Sector) → Mixture new m ↔ Mixture old m
same_disk_mixture same = unchanged_mixture same.sectors same.same

-- each sector of a mixture is whole
pub whole_mixture : {disk : DiskFacts} → HasWholeSectors disk → (u : ℕ) → u ≤ disk.time → (m : List Sector) → MixtureAt disk u m → All IsWhole m
whole_mixture whole u le m mixture =
    All-from_get_or IsWhole m [] (λ k lt. let in_disk = subst (λ n. k < n) mixture.size lt in whole.left u k (sector m k) le in_disk (mixture.each k in_disk))

-- If each set contains only what reads return, then that is the only mixture.
pub synced : {disk : DiskFacts} → HoldsNow disk → LeavesNowAlone disk → IsSynced disk
synced {disk = disk} holds alone = record {
  each = λ m mixture.
      let lt_sectors = λ (k : ℕ) (lt : k < length m). subst (λ n. k < n) mixture.size lt in
      ext_get_or [] m disk.now (mixture.size ∙ sym holds.size) (λ k lt. (alone.each k (sector m k) (lt_sectors k lt)).0 (mixture.each k (lt_sectors k lt)));
}

-- Conversely, if what reads return is the only mixture, each set contains only what reads return. Otherwise the mixture with another content in a
-- sector would be a second one.
pub alone : {disk : DiskFacts} → HoldsNow disk → IsSynced disk → LeavesNowAlone disk
alone {disk = disk} holds is_synced = record {
  each = λ k c lt. (
    λ left. sym (get_or-set_same disk.now k c [] (subst (λ n. k < n) (sym holds.size) lt)) ∙ ap (λ l. sector l k) (is_synced.each (set disk.now k c) (with_it k c left)),
    λ same. subst (λ x. disk.may_leave disk.time k x) (sym same) (holds.each k lt),
  );
}
  where
    with_it : (k : ℕ) (c : Sector) → disk.may_leave disk.time k c → Mixture disk (set disk.now k c)
    with_it k c left = record {
      size = length-set disk.now k c ∙ holds.size;
      each = λ j lt. ⊎_elim
          (λ same. subst (λ x. disk.may_leave disk.time x (sector (set disk.now k c) x)) (sym same)
          (subst (λ x. disk.may_leave disk.time k x)
          (sym (get_or-set_same disk.now k c [] (subst (λ n. k < n) (sym holds.size) (subst (λ x. x < disk.sectors) same lt)))) left))
          (λ other. subst (λ x. disk.may_leave disk.time j x) (sym (get_or-set_other disk.now k j c [] other)) (holds.each j lt))
          (cases_eq j k);
    }

-- a sync that succeeds leaves only what reads return
pub synced_at_ok : {old new : DiskFacts} {T E : Type 0} {result : Result T E} → HoldsNow new → IsSync old new result → OnOk result (IsSynced new)
synced_at_ok {result = result} holds sync = on_ok_weaker result (synced holds) sync.stop_ok

-- a disk at its start is synced
pub starts_synced : {disk : DiskFacts} {contents : List Sector} → HoldsNow disk → StartsWith disk contents → IsSynced disk
starts_synced holds starts = synced holds starts.alone

-- a synced disk stays synced after a read
pub still_synced : {old new : DiskFacts} {at : ℕ} {content : Sector} {T E : Type 0} {result : Result T E} → IsRead old new at content result → IsSynced old → IsSynced new
still_synced read is_synced = record { each = λ m mixture. is_synced.each m (after_read read m mixture) ∙ sym read.same.now }
