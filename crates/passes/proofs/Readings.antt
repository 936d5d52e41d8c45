-- Reads in a row change nothing.
use Rattle.std.proofs.Common.{◌≡◌, ℕ, ◌+◌, ◌*◌, ◌<◌, ◌≤◌, List, ◌++◌, length, take, drop, Result, refl, sym, ap, subst, ◌∙◌, arith, IsTrue}
use Rattle.std.specs.List.{range_with_len}
use Rattle.std.proofs.lemmas.List.{take-append-drop, length-append, length-take, length-drop}
use Rattle.sector_disk.specs.Disk.{Sector, sector, DiskFacts, Mixture, IsCall, IsRead}
use Rattle.sector_disk.proofs.Moments.{goes_on, weaken, keeps_past, at_rest}
use Rattle.sector_disk.proofs.Writes.{read_leaves}
use Rattle.extents.specs.declared.extent.Extent.{Extent}
use Rattle.extents.specs.Extent.{sector_count, places}
use Rattle.passes.specs.Calls.{AreReads}
use Rattle.passes.specs.Bytes.{bytes_at}
use Rattle.passes.proofs.Rows.{CallsSoFar}

pub no_reads : (disk : DiskFacts) → AreReads disk disk
no_reads disk = record {
  past = (at_rest disk (Mixture disk) (λ m mixture. mixture)).past;
  same = record { now = refl; log = refl; stop = λ k c. (λ x. x, λ x. x) };
  leaves = at_rest disk (Mixture disk) (λ m mixture. mixture);
}

-- reads, followed by one more read, are reads
pub more_reads : {first old new : DiskFacts} {at : ℕ} {content : Sector} {T E : Type 0} {result : Result T E} → AreReads first old
    → IsCall old new result → IsRead old new at content result → AreReads first new
more_reads {first = first} before call read = record {
  past = keeps_past before.past read.past;
  same = record {
    now = read.same.now ∙ before.same.now;
    log = read.same.log ∙ before.same.log;
    stop = λ k c. (λ x. (before.same.stop k c).0 ((read.same.stop k c).0 x), λ x. (read.same.stop k c).1 ((before.same.stop k c).1 x));
  };
  leaves = read_leaves call (Mixture first) read before.leaves;
}

-- a disk that was only read leaves the same mixtures
pub still_mixture : {old new : DiskFacts} → AreReads old new → (m : List Sector) → Mixture new m → Mixture old m
still_mixture reads m mixture = record {
  size = mixture.size ∙ reads.past.sectors;
  each = λ k lt. (reads.same.stop k (sector m k)).0 (mixture.each k (subst (λ n. k < n) (sym reads.past.sectors) lt));
}

-- reads, followed by other reads, are reads
pub then_reads : {first old new : DiskFacts} → AreReads first old → AreReads old new → AreReads first new
then_reads {first = first} {old = old} before after = record {
  past = keeps_past before.past after.past;
  same = record {
    now = after.same.now ∙ before.same.now;
    log = after.same.log ∙ before.same.log;
    stop = λ k c. (λ x. (before.same.stop k c).0 ((after.same.stop k c).0 x), λ x. (after.same.stop k c).1 ((before.same.stop k c).1 x));
  };
  leaves = goes_on (Mixture first) before.leaves (weaken (Mixture old) (Mixture first) (still_mixture before) after.leaves);
}

-- overwriting the front of a list keeps its length
pub length_kept : (l xs ys : List ℕ) (a n : ℕ) → take n l ≡ take a xs ++ ys → drop n l ≡ drop n xs → n ≡ a + length ys → n ≤ length xs → length l ≡ length xs
length_kept l xs ys a n front back is le = omega (
  arith,
  ap length (take-append-drop n l),
  length-append (take n l) (drop n l),
  ap length front,
  ap length back,
  length-append (take a xs) ys,
  length-take a xs,
  length-drop n xs,
  is,
  le,
)

-- the progress of the reads of an extent
pub record Progress (first current : DiskFacts) (extent : Extent) (done : ℕ) (size : ℕ) (into : List ℕ) : Type 0 where
  pub calls : CallsSoFar done first current
  pub reads : IsTrue first.honest → AreReads first current
  pub length_is : length into ≡ size
  pub read : IsTrue first.honest → take (512 * done) into ≡ bytes_at first.now (range_with_len extent.start done)

-- the progress of the reads of several extents
pub record ExtentsProgress (first current : DiskFacts) (extents : List Extent) (done : ℕ) (from size : ℕ) (into : List ℕ) : Type 0 where
  pub calls : CallsSoFar (sector_count (take done extents)) first current
  pub reads : IsTrue first.honest → AreReads first current
  pub from_is : from ≡ 512 * sector_count (take done extents)
  pub length_is : length into ≡ size
  pub read : IsTrue first.honest → take from into ≡ bytes_at first.now (places (take done extents))
