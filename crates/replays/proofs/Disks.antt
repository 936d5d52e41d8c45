-- The states that a disk holds consist of bytes.
use Rattle.std.proofs.Common.{◌<◌, ℕ, List, [], ◌∷◌, length, map, get_or, IsTrue, sym, subst, ⊎_elim}
use Rattle.std.specs.Prelude.{All}
use Rattle.std.proofs.lemmas.Bool.{cases_lt}
use Rattle.std.proofs.lemmas.List.{get_or_past}
use Rattle.std.proofs.lemmas.List.Elements.{All-append, All-map, All-nil, All-take}
use Rattle.sector_disk.specs.Disk.{DiskFacts, HasWholeSectors, HoldsNow, IsWhole, Sector, sector}
use Rattle.passes.specs.Bytes.{bytes_at}
use Rattle.states.specs.State.{State}
use Rattle.store.specs.declared.placed_entry.PlacedEntry.{PlacedEntry}
use Rattle.store.specs.Opened as store
use Rattle.store.specs.Stands.{extents_of, library_of}
use Rattle.extents.specs.Extent.{places}
use Rattle.requests.specs.Library.{IsLibrary}
use Rattle.registry.proofs.States.{is_state}
use Rattle.replays.specs.Replay.{IsStateOfBytes}

abbrev IsByte : ℕ → Type 0
IsByte byte = byte < 256

module _ (m : List Sector) (whole : (k : ℕ) → k < length m → IsWhole (sector m k)) where
  sector_is : (k : ℕ) → All IsByte (sector m k)
  sector_is k = ⊎_elim (λ lt. (whole k lt).bytes) (λ ge. subst (All IsByte) (sym (get_or_past m k [] ge)) (All-nil IsByte)) (cases_lt k (length m))

  sectors_are : (ks : List ℕ) → All IsByte (bytes_at m ks)
  sectors_are [] = All-nil IsByte
  sectors_are (k ∷ ks) = All-append IsByte (sector m k) (bytes_at m ks) (sector_is k) (sectors_are ks)

  entry_is : (placed : PlacedEntry) → All IsByte (library_of m placed).bytes
  entry_is placed = All-take IsByte placed.entry.file_length (bytes_at m (places (extents_of placed.entry))) (sectors_are (places (extents_of placed.entry)))

  entries_are : (entries : List PlacedEntry) → All (λ l. All IsByte l.bytes) (map (library_of m) entries)
  entries_are entries = All-map (λ l. All IsByte l.bytes) (library_of m) entries (λ k d lt. entry_is (get_or entries k d))

module _ {D : Type 0} (facts : D → DiskFacts) where
  pub of_bytes : ((disk : D) → IsTrue (facts disk).honest → HoldsNow (facts disk)) → ((disk : D) → IsTrue (facts disk).honest → HasWholeSectors (facts disk))
      → (opened : store.Opened D) (s : State) → store.IsAt facts opened s → All IsLibrary s.libraries → IsStateOfBytes s
  of_bytes holds whole opened s at libraries = record {
    state = is_state facts opened s at (λ honest. holds opened.disk honest) libraries;
    bytes =
        let now = holds opened.disk at.honest in
        let stands = at.stands (facts opened.disk).now now in
        subst (λ (t : State). All (λ l. All IsByte l.bytes) t.libraries) (sym stands.is)
        (entries_are (facts opened.disk).now (λ k lt. (whole opened.disk at.honest).now k (subst (λ n. k < n) now.size lt)) opened.entries);
  }
