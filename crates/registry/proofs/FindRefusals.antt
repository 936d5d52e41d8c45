-- The refusals of finding the libraries of a program.
use Rattle.std.proofs.Common.{◌≡◌, refl}
use Rattle.sector_disk.specs.Disk.{DiskFacts}
use Rattle.store.specs.Opened.{Opened}
use Rattle.store.specs.declared.refusal.StoreRefusal.{StoreRefusal}
use Rattle.store.specs.declared.refusal.StoreRefusal.TheVariants as reading
use Rattle.requests.specs.declared.refusal.Refusal.TheVariants.{Damaged}
use Rattle.registry.specs.Found.{IsFindRefusal}
use Rattle.registry.specs.inside.Reading.{IsReadRefusal, refusal_of_read}

module _ {D : Type 0} (facts : D → DiskFacts) (old new : Opened D) where
  pub find_refused : (e : StoreRefusal) → IsReadRefusal facts old new e → IsFindRefusal facts old new (refusal_of_read e)
  find_refused reading.Device is = is
  find_refused reading.Reopen is = is
  find_refused reading.OutOfMemory is = is
  find_refused reading.Damaged is = is
  find_refused reading.NotFormatted is = absurd is
  find_refused reading.AlreadyFormatted is = absurd is
  find_refused reading.BadGeometry is = absurd is
  find_refused reading.Full is = absurd is
  find_refused reading.Fragmented is = absurd is
  find_refused reading.TooMany is = absurd is
  find_refused reading.GenerationEnd is = absurd is
  find_refused reading.OldFormat is = absurd is

  -- the answer is S5 only if the store found a damaged file
  pub read_damaged : (e : StoreRefusal) → IsReadRefusal facts old new e → refusal_of_read e ≡ Damaged → e ≡ reading.Damaged
  read_damaged reading.Device is h = cc
  read_damaged reading.Reopen is h = cc
  read_damaged reading.OutOfMemory is h = cc
  read_damaged reading.Damaged is h = refl
  read_damaged reading.NotFormatted is h = absurd is
  read_damaged reading.AlreadyFormatted is h = absurd is
  read_damaged reading.BadGeometry is h = absurd is
  read_damaged reading.Full is h = absurd is
  read_damaged reading.Fragmented is h = absurd is
  read_damaged reading.TooMany is h = absurd is
  read_damaged reading.GenerationEnd is h = absurd is
  read_damaged reading.OldFormat is h = absurd is
