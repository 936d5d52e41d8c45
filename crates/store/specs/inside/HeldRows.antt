-- The effects of calls on the table of held byte strings, and the conditions that the table's rows meet.
use Rattle.std.specs.Prelude.{◌≡◌, ◌≢◌, ℕ, ◌+◌, ◌<◌, ◌≤◌, false, true, List}
use Rattle.std.specs.Prelude.{length, set, insert, remove, slice_index_or, All, Contains}
use Rattle.roots.specs.Entry.{EntryHasSpelling}
use Rattle.store.specs.declared.placed_entry.PlacedEntry.{PlacedEntry}
use Rattle.store.specs.declared.holds.HeldRow.{HeldRow}
use Rattle.store.specs.Holds.{HaveOwnRows}

-- no held byte string has its entry in this sector
abbrev pub IsUnheld : List HeldRow → ℕ → Type 0
IsUnheld held sector = All (λ hold. hold.placed.at ≢ sector) held

abbrev pub with_holders : ℕ → HeldRow → HeldRow
with_holders holders hold = record { placed = hold.placed; holders = holders; listed = hold.listed }

abbrev pub unlisted : HeldRow → HeldRow
unlisted hold = record { placed = hold.placed; holders = hold.holders; listed = false }

abbrev pub first_row : PlacedEntry → HeldRow
first_row placed = record { placed = placed; holders = 1; listed = true }

-- `hold` is the row at position `place` of the table, and its entry is in `sector`
pub record IsAtPlace (held : List HeldRow) (sector place : ℕ) (hold : HeldRow) : Type 0 where
  pub inside : place < length held
  pub is : (d : HeldRow) → slice_index_or held place d ≡ hold
  pub its : hold.placed.at ≡ sector

-- a byte string that nobody held has one holder now, and a row in the table
pub record IsHeldOnce (old new : List HeldRow) (placed : PlacedEntry) : Type 0 where
  pub absent : IsUnheld old placed.at
  pub place : ℕ
  pub inside : place ≤ length old
  pub is : new ≡ insert old place (first_row placed)

-- the held byte string whose entry is in `sector` has one more holder
pub record IsHeldMore (old new : List HeldRow) (sector : ℕ) : Type 0 where
  pub place : ℕ
  pub hold : HeldRow
  pub at : IsAtPlace old sector place hold
  pub is : new ≡ set old place (with_holders (hold.holders + 1) hold)

-- the row of the held byte string is marked as not listed now, because the state no longer lists
-- the byte string
pub record IsLeft (old new : List HeldRow) (sector : ℕ) : Type 0 where
  pub place : ℕ
  pub hold : HeldRow
  pub at : IsAtPlace old sector place hold
  pub is : new ≡ set old place (unlisted hold)

-- the byte string has one holder fewer, and still has at least one
pub record IsHeldLess (old new : List HeldRow) (sector : ℕ) : Type 0 where
  pub place : ℕ
  pub hold : HeldRow
  pub at : IsAtPlace old sector place hold
  pub holders : ℕ
  pub some : 0 < holders
  pub was : hold.holders ≡ holders + 1
  pub is : new ≡ set old place (with_holders holders hold)

-- the last holder released the byte string, and its row is gone
pub record IsLetGo (old new : List HeldRow) (sector : ℕ) (hold : HeldRow) : Type 0 where
  pub place : ℕ
  pub at : IsAtPlace old sector place hold
  pub last : hold.holders < 2
  pub is : new ≡ remove old place

-- A row of the table is sound: it has a holder, and if it is marked as listed, the state lists its
-- byte string.
pub record IsHeldRow (entries : List PlacedEntry) (hold : HeldRow) : Type 0 where
  pub fits : EntryHasSpelling hold.placed.entry
  pub some : 0 < hold.holders
  pub listed : hold.listed ≡ true → Contains entries hold.placed

-- The table of held byte strings is sound, and has one row for each of them.
pub record AreHeldRows (entries : List PlacedEntry) (held : List HeldRow) : Type 0 where
  pub each : All (IsHeldRow entries) held
  pub own : HaveOwnRows held
