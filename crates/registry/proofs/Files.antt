-- Lemmas about the files of a store, which are admitted one after the other.
use Rattle.std.proofs.Common.{◌≡◌, ◌<◌, ◌≤◌, ℕ, ◌+◌, List, length, get_or, take, sum_by, All, IsTrue, sym, ap, subst, ◌∙◌, arith, ⊎_elim}
use Rattle.std.proofs.lemmas.List.{get_or_default}
use Rattle.std.proofs.lemmas.List.Sums.{sum_by_more}
use Rattle.std.proofs.lemmas.Bool.{cases_lt}
use Rattle.sector_disk.specs.Disk.{DiskFacts, AreCallsExactly}
use Rattle.sector_disk.proofs.Moments.{exactly_sum}
use Rattle.store.specs.declared.placed_entry.PlacedEntry.{PlacedEntry}
use Rattle.states.specs.State.{Library, State}
use Rattle.store.specs.Stands.{no_library}
use Rattle.roots.specs.declared.version.Version.{Version}
use Rattle.store.specs.Opened.{Opened, IsAtBy}
use Rattle.store.specs.declared.refusal.StoreRefusal.{StoreRefusal}
use Rattle.store.specs.declared.refusal.StoreRefusal.TheVariants as refusal
use Rattle.store.proofs.IsReadLemmas.{read_more}
use Rattle.store.proofs.UsedAlone.{no_entry}
use Rattle.requests.specs.Library.{IsLibrary}
use Rattle.store.specs.IsRead.{IsReadBy, file_sectors}
use Rattle.registry.specs.inside.Reading.{IsReadRefusal}

-- The files before this position were read, each once, and are libraries.
pub record AdmittedSoFar (version : Version) {D : Type 0} (facts : D → DiskFacts) (start now : Opened D) (position : ℕ) : Type 0 where
  pub read : IsReadBy version facts start now
  pub each : (s : State) → IsAtBy version facts start s → (k : ℕ) → k < position → IsLibrary (get_or s.libraries k no_library)
  pub calls : AreCallsExactly (sum_by file_sectors (take position start.entries)) (facts start.disk) (facts now.disk)

-- if the file at `position` isn't a library, not all files are libraries
pub one_refused : (s : State) (position : ℕ) → position < length s.libraries → (IsLibrary (get_or s.libraries position no_library) → ⊥) → All IsLibrary s.libraries → ⊥
one_refused s position lt isnt all =
    isnt (all position no_library lt)

-- a fact about a library with this name and these bytes is a fact about each library that has both
pub same_library : (P : Library → Type 0) (name bytes : List ℕ) (l : Library) → name ≡ l.name → bytes ≡ l.bytes → P (record { name = name; bytes = bytes }) → P l
same_library P name bytes l named is p =
    let same : ◌≡◌ {A = Library} (record { name = name; bytes = bytes }) l = λ i. record { name = named i; bytes = is i } in
    subst P same p

module _ {version : Version} {D : Type 0} {facts : D → DiskFacts} where
  -- the refusal of a later read is a refusal of all reads together
  pub refused_more : {start mid : Opened D} (new : Opened D) (e : StoreRefusal) → IsReadBy version facts start mid → IsReadRefusal facts mid new e → IsReadRefusal facts start new e
  refused_more new refusal.Device first is = omega (arith, is, first.calls.failures)
  refused_more new refusal.Reopen first is = subst IsTrue first.failed is
  refused_more new refusal.Damaged first is = tt
  refused_more new refusal.OutOfMemory first is = tt
  refused_more new refusal.NotFormatted first is = is
  refused_more new refusal.AlreadyFormatted first is = is
  refused_more new refusal.BadGeometry first is = is
  refused_more new refusal.Full first is = is
  refused_more new refusal.Fragmented first is = is
  refused_more new refusal.TooMany first is = is
  refused_more new refusal.GenerationEnd first is = is
  refused_more new refusal.OldFormat first is = is

  -- if one more file was read and is a library, the files up to it were admitted
  pub one_admitted : {start mid new : Opened D} {position : ℕ} → position < length start.entries → AdmittedSoFar version facts start mid position → IsReadBy version facts mid new
      → ((s : State) → IsAtBy version facts mid s → IsLibrary (get_or s.libraries position no_library))
      → ((d : PlacedEntry) → AreCallsExactly (file_sectors (get_or mid.entries position d)) (facts mid.disk) (facts new.disk))
      → AdmittedSoFar version facts start new (position + 1)
  one_admitted {start = start} {mid = mid} {position = position} lt so_far read library calls = record {
    read = read_more so_far.read read;
    each = λ s at k within. ⊎_elim
        (λ below. so_far.each s at k below)
        (λ le. let same : position ≡ k = omega (arith, le, within) in subst (λ i. IsLibrary (get_or s.libraries i no_library)) same (library s (so_far.read.same s at)))
        (cases_lt k position);
    calls = exactly_sum so_far.calls (calls no_entry)
        (ap (λ entries. sum_by file_sectors (take position start.entries) + file_sectors (get_or entries position no_entry)) so_far.read.entries
        ∙ sym (sum_by_more file_sectors start.entries position no_entry lt));
  }

  -- if the files before a position at the end were admitted, each file is a library
  pub all_admitted : {start now : Opened D} {position : ℕ} → AdmittedSoFar version facts start now position → (s : State)
      → IsAtBy version facts start s → length s.libraries ≤ position → All IsLibrary s.libraries
  all_admitted so_far s at le k d lt =
      subst IsLibrary (get_or_default s.libraries k no_library d lt) (so_far.each s at k (omega (arith, lt, le)))
