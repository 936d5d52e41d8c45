-- Adjacent sectors that are written to a disk in memory.
use Rattle.std.proofs.Common.{Ok, Err, ◌≡◌, ◌≢◌, ◌<◌, ◌≤◌, ◌+◌, ◌⊎◌, inl, inr, ⊎_elim, ℕ, List, [], length, set, refl, sym, ◌∙◌, ap, arith, below_more}
use Rattle.std.specs.Prelude.{Result, IsOk, OnOk}
use Rattle.std.proofs.lemmas.Bool.{cases_lt, false≢true}
use Rattle.std.proofs.lemmas.List.{length-set, get_or-set_same, get_or-set_other}
use Rattle.sector_disk.specs.Disk.{Sector, sector, DiskFacts, IsUnchanged, GrowsBy}
use Rattle.file_disk.specs.Medium.{HasWritten, IsSameMedium}

-- if a call succeeded, what its contract states for a success is true
pub known_ok : {T E : Type 0} (result : Result T E) (P : Type 0) → IsOk result → OnOk result P → P
known_ok (Ok x) P is on = on
known_ok (Err e) P is on = absurd (false≢true is)

pub same_none : (old : DiskFacts) → IsSameMedium old old
same_none old = record { sectors = refl; same = record { now = refl; log = refl; stop = λ k c. (λ has. has, λ has. has) } }

pub same_more : (old mid new : DiskFacts) → IsSameMedium old mid → new.sectors ≡ mid.sectors → IsUnchanged mid new → IsSameMedium old new
same_more old mid new before sectors same = record {
  sectors = sectors ∙ before.sectors;
  same = record {
    now = same.now ∙ before.same.now;
    log = same.log ∙ before.same.log;
    stop = λ k c. (λ has. (before.same.stop k c).0 ((same.stop k c).0 has), λ has. (same.stop k c).1 ((before.same.stop k c).1 has));
  };
}

pub written_none : (at : ℕ) (given : List Sector) (old : DiskFacts) → HasWritten at given 0 old old
written_none at given old = record {
  sectors = refl;
  size = refl;
  here = λ i lt. absurd (omega (arith, lt));
  others = λ k out. refl;
  medium = λ k c. (λ has. inl has, λ some. ⊎_elim (λ has. has) (λ wrote. absurd (omega (arith, wrote.1))) some);
}

-- after a call that changes nothing, the same sectors are written
pub written_same : (at : ℕ) (given : List Sector) (count : ℕ) (old mid new : DiskFacts) → HasWritten at given count old mid → new.sectors ≡ mid.sectors → IsUnchanged mid new
    → HasWritten at given count old new
written_same at given count old mid new before sectors same = record {
  sectors = sectors ∙ before.sectors;
  size = ap length same.now ∙ before.size;
  here = λ i lt. ap (λ now. sector now (at + i)) same.now ∙ before.here i lt;
  others = λ k out. ap (λ now. sector now k) same.now ∙ before.others k out;
  medium = λ k c. (λ has. (before.medium k c).0 ((same.stop k c).0 has), λ has. (same.stop k c).1 ((before.medium k c).1 has));
}

-- after one more sector is written, `count + 1` sectors are written
pub written_more : (at : ℕ) (given : List Sector) (count : ℕ) (old mid new : DiskFacts) → at + count < length old.now → HasWritten at given count old mid → new.sectors ≡ mid.sectors
    → new.now ≡ set mid.now (at + count) (sector given count) → GrowsBy mid new (at + count) (sector given count) → HasWritten at given (count + 1) old new
written_more at given count old mid new inside before sectors now grows = record {
  sectors = sectors ∙ before.sectors;
  size = ap length now ∙ length-set mid.now (at + count) (sector given count) ∙ before.size;
  here = below_more _ _
      (λ i lt.
      let other : at + i ≢ at + count = omega (arith, lt) in
      ap (λ l. sector l (at + i)) now ∙ get_or-set_other mid.now (at + count) (at + i) (sector given count) [] other ∙ before.here i lt)
      (ap (λ l. sector l (at + count)) now ∙ get_or-set_same mid.now (at + count) (sector given count) [] (omega (arith, inside, before.size)));
  others = λ k out.
      let other : k ≢ at + count = λ is. ⊎_elim (λ low. omega (arith, low, is)) (λ high. omega (arith, high, is)) out in
      let out' : (k < at) ⊎ (at + count ≤ k) = ⊎_elim (λ low. inl low) (λ high. inr (omega (arith, high))) out in
      ap (λ l. sector l k) now ∙ get_or-set_other mid.now (at + count) k (sector given count) [] other ∙ before.others k out';
  medium = λ k c. (
    λ has. ⊎_elim
        (λ was. ⊎_elim (λ old'. inl old') (λ wrote. inr (wrote.0, omega (arith, wrote.1), wrote.2, wrote.3)) ((before.medium k c).0 was))
        (λ is. inr (count, omega arith, is.0, is.1))
        ((grows.each k c).0 has),
    λ some. (grows.each k c).1 (⊎_elim
        (λ was. inl ((before.medium k c).1 (inl was)))
        (λ wrote. ⊎_elim
        (λ early. inl ((before.medium k c).1 (inr (wrote.0, early, wrote.2, wrote.3))))
        (λ late.
        let is : wrote.0 ≡ count = omega (arith, late, wrote.1) in
        inr (wrote.2 ∙ ap (λ i. at + i) is, wrote.3 ∙ ap (sector given) is))
        (cases_lt wrote.0 count))
        some),
  );
}

-- a write of the first sectors of a list is also a write of the first sectors of each list that begins with the same
-- ones
pub written_of : (at : ℕ) (given given' : List Sector) (count : ℕ) (old new : DiskFacts) → ((i : ℕ) → i < count → sector given' i ≡ sector given i) → HasWritten at given' count old new
    → HasWritten at given count old new
written_of at given given' count old new same written = record {
  sectors = written.sectors;
  size = written.size;
  here = λ i lt. written.here i lt ∙ same i lt;
  others = written.others;
  medium = λ k c. (
    λ has. ⊎_elim (λ was. inl was) (λ wrote. inr (wrote.0, wrote.1, wrote.2, wrote.3 ∙ same wrote.0 wrote.1)) ((written.medium k c).0 has),
    λ some. (written.medium k c).1 (⊎_elim (λ was. inl was) (λ wrote. inr (wrote.0, wrote.1, wrote.2, wrote.3 ∙ sym (same wrote.0 wrote.1))) some),
  );
}
