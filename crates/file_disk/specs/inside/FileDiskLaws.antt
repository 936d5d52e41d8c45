-- Laws about a disk over an honest file, at any moment.
use Rattle.std.specs.Prelude.{ℕ, ◌<◌, ◌-◌, ◌&&◌, Bool, true, false, List, [], length, slice_index_or, IsTrue, Option, Some, None, if◌then◌else◌, nat_le, nat_lt}
use Rattle.std.proofs.Common.{◌≡◌, ⊎_elim, refl, sym, subst, arith}
use Rattle.std.proofs.Math.Logic.{∥∥₁_elim}
use Rattle.std.proofs.Props.{props}
use Rattle.std.proofs.lemmas.Bool.{ltb-true, and_parts}
use Rattle.std.proofs.lemmas.List.{get_or_past}
use Rattle.std.proofs.lemmas.List.Elements.{All-get_or}
use Rattle.std.proofs.lemmas.Option.{none-some}
use Rattle.std.proofs.lemmas.List.FromFn.{length-map-range_with_len, get_or-map-range_with_len}
use Rattle.sector_disk.specs.Disk.{Sector, sector, IsWhole, MayLeave, HoldsNow, HasWholeSectors}
use Rattle.file_disk.specs.declared.buffered.Buffered.{Buffered}
use Rattle.file_disk.specs.declared.disk.FileDisk.{FileDisk}
use Rattle.file_disk.specs.declared.write_buffer.WriteBuffer.{WriteBuffer}
use Rattle.file_disk.specs.declared.sector_file.SectorFile.{Ghosts}
use Rattle.file_disk.specs.FileDisk.{file_facts}
use Rattle.file_disk.specs.WriteBuffer.{write_buffer_at}
use Rattle.file_disk.specs.Left.{LeftOf, shown_of}
use Rattle.file_disk.specs.SectorFile.{HasWholeContents}

-- if there is an element, the test holds, and so `P` holds of the element
some_holds : {X : Type 0} (b : Bool) (x y : X) (P : X → Type 0) → (b ≡ true → P x) → ◌≡◌ {A = Option X} (if b then Some x else None) (Some y) → P y
some_holds true x y P holds is = let same : x ≡ y = cc in subst P same (holds refl)
some_holds false x y P holds is = absurd (none-some y is)

-- each content in the write buffer is whole
waits_whole : (write_buffer : WriteBuffer) (k : ℕ) (c : Sector) → write_buffer_at write_buffer k ≡ Some c → IsWhole c
waits_whole write_buffer k c is = some_holds (nat_le write_buffer.start k && nat_lt (k - write_buffer.start) (length write_buffer.contents.items))
    (sector write_buffer.contents.items (k - write_buffer.start)) c IsWhole
    (λ test. All-get_or IsWhole write_buffer.contents.items (k - write_buffer.start) [] (ltb-true (k - write_buffer.start) (length write_buffer.contents.items)
    (and_parts (nat_le write_buffer.start k) (nat_lt (k - write_buffer.start) (length write_buffer.contents.items)) test).1) write_buffer.whole)
    is

module _ {F : Type 0} {g : Ghosts F} where
  -- reads of a sector of the disk return its content at the last moment at which no write or sync
  -- had failed
  pub read_of : (disk : FileDisk F g) (k : ℕ) → k < disk.buffered.sectors → sector (file_facts disk).now k ≡ shown_of disk.latest.items k
  read_of disk k lt = get_or-map-range_with_len (shown_of disk.latest.items) 0 disk.buffered.sectors k k [] lt (omega arith)

  -- a stop now may leave each content that it might have left at a moment in `since`
  pub left_now : (disk : FileDisk F g) (k : ℕ) (c : Sector) → LeftOf disk.since.items k c → MayLeave (file_facts disk) k c
  left_now disk k c left = subst (λ since. LeftOf since.items k c) (sym (get_or_past disk.past.items _ disk.since (omega (arith, disk.counted)))) left

  pub now_left : (disk : FileDisk F g) (k : ℕ) (c : Sector) → MayLeave (file_facts disk) k c → LeftOf disk.since.items k c
  now_left disk k c left = subst (λ since. LeftOf since.items k c) (get_or_past disk.past.items _ disk.since (omega (arith, disk.counted))) left

  -- The contents that reads of a disk over a file return are one of the mixtures.
  pub disk_holds : (disk : FileDisk F g) → IsTrue g.is_honest → HoldsNow (file_facts disk)
  disk_holds disk honest = record {
    size = length-map-range_with_len (shown_of disk.latest.items) 0 disk.buffered.sectors;
    each = λ k lt. left_now disk k _ (subst (LeftOf disk.since.items k) (sym (read_of disk k lt)) (disk.held honest k lt));
  }

  module _ (whole : (file : F) → HasWholeContents (g.facts file)) where
    -- each content that a stop might have left is whole
    left_whole : (since : List (Buffered F g)) (k : ℕ) (c : Sector) → LeftOf since k c → IsWhole c
    left_whole since k c left = ∥∥₁_elim left (hlevel props) (λ found. ⊎_elim
        (λ waits. waits_whole found.0.write_buffer k c waits)
        (λ has. (whole found.0.file).each k c has)
        found.2)

    -- The sectors of a disk over a file are whole.
    pub disk_whole : (disk : FileDisk F g) → IsTrue g.is_honest → HasWholeSectors (file_facts disk)
    disk_whole disk honest = record {
      now = λ k lt. subst IsWhole (sym (read_of disk k lt)) (left_whole disk.since.items k _ (disk.held honest k lt));
      left = λ u k c le lt left. left_whole (slice_index_or disk.past.items u disk.since).items k c left;
    }
