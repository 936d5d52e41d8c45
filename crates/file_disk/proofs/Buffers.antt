-- A file with its write buffer.
use Rattle.std.proofs.Common.{◌≡◌, ◌<◌, ◌≤◌, ◌+◌, ◌-◌, ◌⊎◌, ◌&&◌, inl, inr, ⊎_elim, ℕ, Bool, true, false, List, length, refl, sym, ◌∙◌, ap, subst, arith}
use Rattle.std.proofs.Common.{Option, Some, None, IsSome, if◌then◌else◌, nat_le, nat_lt}
use Rattle.std.specs.Cmp.Derive.{both_true}
use Rattle.std.specs.Prelude.{Result, is_err}
use Rattle.std.proofs.lemmas.Bool.{leb-true, ltb-true, lt-ltb, le-leb, and_parts}
use Rattle.std.proofs.lemmas.Option.{none-some}
use Rattle.sector_disk.specs.Disk.{Sector, sector}
use Rattle.file_disk.specs.declared.read_ahead.ReadAhead.{ReadAhead}
use Rattle.file_disk.specs.declared.buffered.Buffered.{Buffered}
use Rattle.file_disk.specs.declared.write_buffer.WriteBuffer.{WriteBuffer}
use Rattle.file_disk.specs.declared.sector_file.SectorFile.{Ghosts}
use Rattle.file_disk.specs.ReadAhead.{KeepsOf}
use Rattle.file_disk.specs.Buffered.{or_else, shown_at, Leaves}
use Rattle.file_disk.specs.WriteBuffer.{write_buffer_at}
use Rattle.file_disk.specs.SectorFile.{FileFacts, IsGivenTo, IsCounted, IsFileSync}
use Rattle.file_disk.specs.inside.Buffered.{IsStill, IsWrittenBack}
use Rattle.file_disk.specs.inside.Transfer.{StaysWithin, IsWrittenAt}
use Rattle.file_disk.proofs.Transfers.{within_none, within_more, within_weaker, within_then}

-- if the test holds, there is an element
some_true : {X : Type 0} (b : Bool) (x : X) → b ≡ true → ◌≡◌ {A = Option X} (if b then Some x else None) (Some x)
some_true true x is = refl
some_true false x is = absurd cc

some_test : {X : Type 0} (b : Bool) (x y : X) → ◌≡◌ {A = Option X} (if b then Some x else None) (Some y) → (b ≡ true) × (x ≡ y)
some_test true x y is = (refl, cc)
some_test false x y is = absurd (none-some y is)

pub cases_option : {X : Type 0} (o : Option X) → (o ≡ None) ⊎ ((x : X) × (o ≡ Some x))
cases_option None = inl refl
cases_option (Some x) = inr (x, refl)

-- if sector k is one of these adjacent sectors and has the content c, c is at the position of k among them
row_at : (start count k : ℕ) (contents : List Sector) (c : Sector)
    → ◌≡◌ {A = Option Sector} (if nat_le start k && nat_lt (k - start) count then Some (sector contents (k - start)) else None) (Some c)
    → (start ≤ k) × (k - start < count) × (c ≡ sector contents (k - start))
row_at start count k contents c is =
    let test = some_test (nat_le start k && nat_lt (k - start) count) (sector contents (k - start)) c is in
    let parts = and_parts (nat_le start k) (nat_lt (k - start) count) test.0 in
    (leb-true start k parts.0, ltb-true (k - start) count parts.1, sym test.1)

-- each buffered sector is written to its place, and nothing else is written
pub waits_given : (write_buffer : WriteBuffer) (k : ℕ) (c : Sector) → write_buffer_at write_buffer k ≡ Some c → IsGivenTo write_buffer.start write_buffer.contents.items k c
waits_given write_buffer k c is =
    let row = row_at write_buffer.start (length write_buffer.contents.items) k write_buffer.contents.items c is in
    (k - write_buffer.start, row.1, omega (arith, row.0), row.2)

pub given_waits : (write_buffer : WriteBuffer) (k : ℕ) (c : Sector) → IsGivenTo write_buffer.start write_buffer.contents.items k c → write_buffer_at write_buffer k ≡ Some c
given_waits write_buffer k c given =
    let place : k - write_buffer.start ≡ given.0 = omega (arith, given.2) in
    let test : (nat_le write_buffer.start k && nat_lt (k - write_buffer.start) (length write_buffer.contents.items)) ≡ true =
    both_true (le-leb write_buffer.start k (omega (arith, given.2))) (lt-ltb (k - write_buffer.start) (length write_buffer.contents.items) (omega (arith, given.1, place))) in
    some_true _ (sector write_buffer.contents.items (k - write_buffer.start)) test ∙ ap Some (ap (sector write_buffer.contents.items) place ∙ sym given.3)

-- the read-ahead buffer has what was read
pub kept_of : (read_ahead : ReadAhead) (now : List Sector) → ((i : ℕ) → i < read_ahead.count → sector read_ahead.contents.items i ≡ sector now (read_ahead.start + i)) → KeepsOf read_ahead now
kept_of read_ahead now read k c is =
    let row = row_at read_ahead.start read_ahead.count k read_ahead.contents.items c is in
    let place : read_ahead.start + (k - read_ahead.start) ≡ k = omega (arith, row.0) in
    row.2 ∙ read (k - read_ahead.start) row.1 ∙ ap (sector now) place

module _ {F : Type 0} {g : Ghosts F} where
  pub shown_none : (b : Buffered F g) (k : ℕ) → write_buffer_at b.write_buffer k ≡ None → shown_at b k ≡ sector (g.facts b.file).now k
  shown_none b k none = ap (λ o. or_else o (sector (g.facts b.file).now k)) none

  pub shown_some : (b : Buffered F g) (k : ℕ) (c : Sector) → write_buffer_at b.write_buffer k ≡ Some c → shown_at b k ≡ c
  shown_some b k c some = ap (λ o. or_else o (sector (g.facts b.file).now k)) some

  -- what a stop may leave after some calls, it might have left before
  pub leaves_before : (old new : Buffered F g) → StaysWithin (Leaves old) (g.facts old.file) (g.facts new.file) → new.write_buffer ≡ old.write_buffer
      → (k : ℕ) (c : Sector) → Leaves new k c → Leaves old k c
  leaves_before old new within same k c left = ⊎_elim
      (λ waits. inl (ap (λ write_buffer. write_buffer_at write_buffer k) (sym same) ∙ waits))
      (λ has. within.each (g.facts new.file).time k c within.later (omega arith) has)
      left

  -- counting the sectors leaves only what a stop may leave
  pub within_counted : {E : Type 0} (b : Buffered F g) (new : FileFacts) (result : Result ℕ E) → IsCounted (g.facts b.file) new result → StaysWithin (Leaves b) (g.facts b.file) new
  within_counted b new result counted =
      within_more (Leaves b) _ (g.facts b.file) (g.facts b.file) new (within_none (Leaves b) (g.facts b.file) (λ k c has. inr has)) counted.call
      (λ k c has. inr (counted.same.medium k c has))

  -- some calls, followed by a sync, leave only what a stop may leave
  pub within_synced : {T E : Type 0} (b : Buffered F g) (mid new : FileFacts) (result : Result T E) → StaysWithin (Leaves b) (g.facts b.file) mid → IsFileSync mid new result
      → StaysWithin (Leaves b) (g.facts b.file) new
  within_synced b mid new result within step =
      within_more (Leaves b) (is_err result) (g.facts b.file) mid new within step.call
      (λ k c has. within.each mid.time k c within.later (omega arith) (step.medium k c has))

  module _ (b : Buffered F g) (done : ℕ) (new : FileFacts) (written : IsWrittenAt b.write_buffer.start b.write_buffer.contents.items done (g.facts b.file) new) where
    -- writing the write buffer to the file leaves only what a stop may leave
    pub within_given : StaysWithin (Leaves b) (g.facts b.file) new
    within_given = within_weaker _ (Leaves b) (g.facts b.file) new (λ k c allowed. ⊎_elim (λ has. inr has) (λ given. inl (given_waits b.write_buffer k c given)) allowed) written.within

    -- the read-ahead buffer stays valid, because it has no sector of the write buffer
    pub kept_given : KeepsOf b.read_ahead (g.facts b.file).now → KeepsOf b.read_ahead new.now
    kept_given kept k c is = ⊎_elim
        (λ same. kept k c is ∙ sym same)
        (λ given. absurd (none-some c (sym (b.apart k (subst IsSome (sym (given_waits b.write_buffer k (sector new.now k) given)) refl)) ∙ is)))
        (written.now.either k)

  pub shown_given : (b : Buffered F g) (new : FileFacts) → IsWrittenAt b.write_buffer.start b.write_buffer.contents.items (length b.write_buffer.contents.items) (g.facts b.file) new
      → (k : ℕ) → sector new.now k ≡ shown_at b k
  shown_given b new written k = ⊎_elim
      (λ none. ⊎_elim
      (λ same. same ∙ sym (shown_none b k none))
      (λ given. absurd (none-some (sector new.now k) (sym none ∙ given_waits b.write_buffer k (sector new.now k) given)))
      (written.now.either k))
      (λ some.
      let given = waits_given b.write_buffer k some.0 some.1 in
      ap (sector new.now) given.2 ∙ written.now.moved given.0 given.1 ∙ sym given.3 ∙ sym (shown_some b k some.0 some.1))
      (cases_option (write_buffer_at b.write_buffer k))

  -- The file stays the same, and then some calls are made.
  module _ (old mid new : Buffered F g) (still : IsStill old mid) (waits : mid.write_buffer ≡ old.write_buffer) where
    still_then : StaysWithin (Leaves mid) (g.facts mid.file) (g.facts new.file) → StaysWithin (Leaves old) (g.facts old.file) (g.facts new.file)
    still_then within = within_then (Leaves old) (Leaves mid) (g.facts old.file) (g.facts mid.file) (g.facts new.file) (leaves_before old mid still.within waits) still.within within

    pub still_given : old.failed ≡ false → IsWrittenBack mid new → IsWrittenBack old new
    still_given well given = record {
      within = still_then given.within;
      shown = λ k. given.shown k ∙ ap (λ write_buffer. or_else (write_buffer_at write_buffer k) (sector (g.facts mid.file).now k)) waits
          ∙ ap (λ now. or_else (write_buffer_at old.write_buffer k) (sector now k)) (still.now well);
    }
