-- The steps of a search through notes, and the program header of the notes that are read.
use Rattle.std.proofs.Common.{◌≡◌, ℕ, ◌+◌, ◌-◌, ◌/◌, ◌<◌, ◌≤◌, zero, suc, Bool, true, false, cond, List, length, drop, Some, ap, sym, ◌∙◌, arith}
use Rattle.std.specs.Prelude.{◌&&◌, ◌||◌, nat_le, min}
use Rattle.std.specs.List.{find, range_with_len}
use Rattle.std.proofs.lemmas.Bool.Decides.{nat_tests}
use Rattle.executable.specs.Note.{note_size, is_calls_note, has_calls_note, is_of_notes, find_notes}

-- if i is below n, a search through n - i notes tests the first note, and then searches n - (i + 1) notes after it
one-more : (n i : ℕ) (bytes : List ℕ) → i < n
    → has_calls_note (n - i) bytes ≡ (is_calls_note bytes || (nat_le (note_size bytes) (length bytes) && has_calls_note (n - (i + 1)) (drop (note_size bytes) bytes)))
one-more n i bytes h = let more : n - i ≡ suc (n - (i + 1)) = omega (arith, h) in ap (λ k. has_calls_note k bytes) more

pub found : (n i : ℕ) (bytes : List ℕ) → i < n → is_calls_note bytes ≡ true → has_calls_note (n - i) bytes ≡ true
found n i bytes h e =
    one-more n i bytes h ∙ ap (λ t. t || (nat_le (note_size bytes) (length bytes) && has_calls_note (n - (i + 1)) (drop (note_size bytes) bytes))) e

passed : (n i : ℕ) (bytes : List ℕ) (t : Bool) → i < n → is_calls_note bytes ≡ false → nat_le (note_size bytes) (length bytes) ≡ t
    → has_calls_note (n - i) bytes ≡ (t && has_calls_note (n - (i + 1)) (drop (note_size bytes) bytes))
passed n i bytes t h e f =
    one-more n i bytes h
    ∙ ap (λ x. x || (nat_le (note_size bytes) (length bytes) && has_calls_note (n - (i + 1)) (drop (note_size bytes) bytes))) e
    ∙ ap (λ x. x && has_calls_note (n - (i + 1)) (drop (note_size bytes) bytes)) f

pub ended : (n i : ℕ) (bytes : List ℕ) → i < n → is_calls_note bytes ≡ false → length bytes < note_size bytes → has_calls_note (n - i) bytes ≡ false
ended n i bytes h e l = passed n i bytes false h e (grind (arith, nat_tests))

pub next : (n i : ℕ) (bytes : List ℕ) → i < n → is_calls_note bytes ≡ false → note_size bytes ≤ length bytes
    → has_calls_note (n - (i + 1)) (drop (note_size bytes) bytes) ≡ has_calls_note (n - i) bytes
next n i bytes h e l = sym (passed n i bytes true h e (grind (arith, nat_tests)))

by-test : (p : ℕ → Bool) (from n i : ℕ) (t : Bool) → (find p (range_with_len (from + 1) n) ≡ Some i → i < from + 1 + n)
    → cond t (Some from) (find p (range_with_len (from + 1) n)) ≡ Some i → i < from + suc n
by-test p from n i true below h = let same : from ≡ i = cc in omega (arith, same)
by-test p from n i false below h = let less : i < from + 1 + n = below h in omega (arith, less)

found-below : (p : ℕ → Bool) (from n i : ℕ) → find p (range_with_len from n) ≡ Some i → i < from + n
found-below p from zero i h = cc
found-below p from (suc n) i h = by-test p from n i (p from) (found-below p (from + 1) n i) h

-- the program header that is found is completely in memory
pub found-whole : (headers : List ℕ) (n i : ℕ) → find_notes headers n ≡ Some i → i < length headers / 56
unfolding find_notes
found-whole headers n i h =
    let below : i < 0 + min (length headers / 56) n = found-below (is_of_notes headers) 0 (min (length headers / 56) n) i h in omega (arith, below)
