-- Calls of a file in memory are calls of an honest file.
use Rattle.std.proofs.Common.{◌≡◌, ◌<◌, ◌≤◌, ◌+◌, ◌-◌, ◌++◌, inl, inr, ⊎_elim, ℕ, Bool, true, false, List, [], ◌∷◌, length, get_or, Ok, Err, refl, sym, ◌∙◌, ap, subst, arith, if◌then◌else◌}
use Rattle.std.specs.Prelude.{◌==◌, nat_lt, Result, IfOk, is_err}
use Rattle.std.proofs.lemmas.Bool.{cases_lt}
use Rattle.std.proofs.lemmas.List.{length-append, get_or_past, get_or_default, get_or_push, get_or_append_left}
use Rattle.sector_disk.specs.Disk.{Sector, sector, MayLeave, LeavesNoMore, LeavesNowAlone, StartsWith}
use Rattle.sector_disk.specs.Memory.{memory_facts}
use Rattle.sector_disk.specs.declared.memory.Memory.{Memory}
use Rattle.file_disk.specs.declared.memory_file.MemoryFile.{MemoryFile}
use Rattle.file_disk.specs.declared.memory_file.CallOutcome.{CallOutcome}
use Rattle.file_disk.specs.Medium.{HasWritten, IsSameMedium}
use Rattle.file_disk.specs.MemoryFile.{facts_over, memory_file_facts, does_work}
use Rattle.file_disk.specs.SectorFile.{MayHave, moved, IsFileCall, IsCounted, IsFileRead, IsFileWrite, IsFileSync, IsFoundWith}

-- what the medium may have now is what a stop of the disk may leave
now_has : (file : MemoryFile) (k : ℕ) (c : Sector) → MayHave (memory_file_facts file) k c → (k < (memory_facts file.medium).sectors) × MayLeave (memory_facts file.medium) k c
now_has file k c has = (has.0, subst (λ m. MayLeave (memory_facts m) k c) (get_or_past file.past.items (length file.past.items) file.medium (omega arith)) has.1)

has_now : (file : MemoryFile) (k : ℕ) (c : Sector) → k < (memory_facts file.medium).sectors → MayLeave (memory_facts file.medium) k c → MayHave (memory_file_facts file) k c
has_now file k c lt left = (lt, subst (λ m. MayLeave (memory_facts m) k c) (sym (get_or_past file.past.items (length file.past.items) file.medium (omega arith))) left)

-- over a disk at its start, the file is found with the contents of the disk
pub found_with : (medium : Memory) (past : List Memory) (failures : ℕ) (contents : List Sector) → StartsWith (memory_facts medium) contents
    → IsFoundWith (facts_over medium past failures false) contents
found_with medium past failures contents starts = record {
  sectors = starts.sectors;
  now = starts.now;
  alone = λ k c has.
      let left = subst (λ m. MayLeave (memory_facts m) k c) (get_or_past past (length past) medium (omega arith)) has.1 in
      (starts.alone.each k c has.0).0 left ∙ ap (λ l. sector l k) starts.now;
  sync_failed = refl;
}

-- the moment that a call ends becomes the last past one
at_past : (media : List Memory) (was new : Memory) (u : ℕ) → u ≤ length media → get_or (media ++ was ∷ []) u new ≡ get_or media u was
at_past media was new u le = ⊎_elim
    (λ early. get_or_append_left media (was ∷ []) new u early ∙ get_or_default media u new was early)
    (λ late. get_or_push media was new u (omega (arith, le, late)) ∙ sym (get_or_past media u was (omega (arith, late))))
    (cases_lt u (length media))

-- a file in the middle of a sync, after its medium was settled
pub record AfterSync (begun : MemoryFile) (settled : Memory) (failed : Bool) (file : MemoryFile) : Type 0 where
  pub past : file.past.items ≡ begun.past.items
  pub medium : file.medium ≡ settled
  pub calls : file.calls ≡ begun.calls
  pub sync_failed : file.sync_failed ≡ failed

-- what holds from one medium to another also holds for equal media
pub from_to : (P : Memory → Memory → Type 0) {old mid mid' new : Memory} → mid ≡ old → new ≡ mid' → P mid mid' → P old new
from_to P {old} {mid} {mid'} {new} begun ended holds = subst (λ m. P old m) (sym ended) (subst (λ m. P m mid') begun holds)

-- a sync that passes does its work if no sync has failed before
pub works : (file : MemoryFile) (outcome : CallOutcome) → file.sync_failed ≡ false → outcome.fails ≡ false → does_work file outcome ≡ true
works file outcome trusted passes =
    ap (λ (b : Bool). if b then false else (if outcome.fails then nat_lt 0 outcome.most else true)) trusted ∙ ap (λ (b : Bool). if b then nat_lt 0 outcome.most else true) passes

-- A call that keeps the number of sectors, and adds its moment to the past.
module _ (old new : MemoryFile) (past : new.past.items ≡ old.past.items ++ old.medium ∷ []) (sectors : (memory_facts new.medium).sectors ≡ (memory_facts old.medium).sectors) where
  is_call : (failed : Bool) → (memory_file_facts new).failures ≡ (if failed then (memory_file_facts old).failures + 1 else (memory_file_facts old).failures)
      → IsFileCall failed (memory_file_facts old) (memory_file_facts new)
  is_call failed failures = record {
    sectors = sectors;
    time = ap length past ∙ length-append old.past.items (old.medium ∷ []);
    failures = failures;
    past = λ u k c le.
        let was : get_or new.past.items u new.medium ≡ get_or old.past.items u old.medium =
        ap (λ media. get_or media u new.medium) past ∙ at_past old.past.items old.medium new.medium u le in (
          λ has. (omega (arith, has.0, sectors), subst (λ m. MayLeave (memory_facts m) k c) was has.1),
          λ has. (omega (arith, has.0, sectors), subst (λ m. MayLeave (memory_facts m) k c) (sym was) has.1),
        );
  }

  no_more : ((k : ℕ) (c : Sector) → MayLeave (memory_facts new.medium) k c → MayLeave (memory_facts old.medium) k c) → (k : ℕ) (c : Sector) → MayHave (memory_file_facts new) k c → MayHave (memory_file_facts old) k c
  no_more fewer k c has = let left = now_has new k c has in has_now old k c (omega (arith, left.0, sectors)) (fewer k c left.1)

  pub file_counted : {E : Type 0} (result : Result ℕ E) (failed : Bool) → failed ≡ is_err result → new.medium ≡ old.medium → new.sync_failed ≡ old.sync_failed
      → (memory_file_facts new).failures ≡ (if failed then (memory_file_facts old).failures + 1 else (memory_file_facts old).failures)
      → IfOk result (λ n. n ≡ (memory_facts old.medium).sectors) → IsCounted (memory_file_facts old) (memory_file_facts new) result
  file_counted result failed is medium trusted failures ok = record {
    call = subst (λ b. IsFileCall b (memory_file_facts old) (memory_file_facts new)) is (is_call failed failures);
    same = record { medium = no_more (λ k c left. subst (λ m. MayLeave (memory_facts m) k c) medium left); sync_failed = trusted };
    now = λ was. ap (λ m. (memory_facts m).now) medium;
    ok = ok;
  }

  pub file_read : {E : Type 0} (at : ℕ) (into : List Sector) (result : Result ℕ E) → IsSameMedium (memory_facts old.medium) (memory_facts new.medium) → new.sync_failed ≡ old.sync_failed
      → (memory_file_facts new).failures ≡ (if moved result == 0 then (memory_file_facts old).failures + 1 else (memory_file_facts old).failures)
      → ((i : ℕ) → i < moved result → sector into i ≡ sector (memory_facts old.medium).now (at + i)) → IsFileRead (memory_file_facts old) (memory_file_facts new) at into result
  file_read at into result still trusted failures read = record {
    call = is_call (moved result == 0) failures;
    same = record { medium = no_more (λ k c left. (still.same.stop k c).0 left); sync_failed = trusted };
    now = λ was. still.same.now;
    moved = λ was. read;
  }

  pub file_write : {E : Type 0} (at : ℕ) (given : List Sector) (count : ℕ) (result : Result ℕ E) → moved result ≤ count → count ≤ length given
      → HasWritten at given count (memory_facts old.medium) (memory_facts new.medium) → new.sync_failed ≡ old.sync_failed
      → (memory_file_facts new).failures ≡ (if moved result == 0 then (memory_file_facts old).failures + 1 else (memory_file_facts old).failures)
      → IsFileWrite (memory_file_facts old) (memory_file_facts new) at given result
  file_write at given count result few fits written trusted failures = record {
    call = is_call (moved result == 0) failures;
    sync_failed = trusted;
    medium = λ k c has.
        let left = now_has new k c has in
        ⊎_elim
        (λ was. inl (has_now old k c (omega (arith, left.0, sectors)) was))
        (λ wrote. inr (wrote.0, omega (arith, wrote.1, fits), wrote.2, wrote.3))
        ((written.medium k c).0 left.1);
    now = λ was. record {
      size = written.size;
      either = λ k. ⊎_elim
          (λ low. inl (written.others k (inl low)))
          (λ high. ⊎_elim
          (λ within.
          let here : k ≡ at + (k - at) = omega (arith, high) in
          let lt : k - at < count = omega (arith, within, high) in
          inr (k - at, omega (arith, lt, fits), here, ap (sector (memory_facts new.medium).now) here ∙ written.here (k - at) lt))
          (λ behind. inl (written.others k (inr behind)))
          (cases_lt k (at + count)))
          (cases_lt k at);
      moved = λ i lt. written.here i (omega (arith, lt, few));
    };
  }

  pub file_sync_ok : {T E : Type 0} (answer : T) → LeavesNoMore (memory_facts old.medium) (memory_facts new.medium) → (memory_facts new.medium).now ≡ (memory_facts old.medium).now
      → new.sync_failed ≡ old.sync_failed → (memory_file_facts new).failures ≡ (memory_file_facts old).failures
      → (old.sync_failed ≡ false → LeavesNowAlone (memory_facts new.medium)) → IsFileSync {T = T} {E = E} (memory_file_facts old) (memory_file_facts new) (Ok answer)
  file_sync_ok answer fewer now trusted failures alone = record {
    call = is_call false failures;
    medium = no_more fewer.each;
    ok = trusted;
    err = tt;
    now = λ was. now;
    alone = λ was k c has. let left = now_has new k c has in (((alone was).each k c left.0).0 left.1);
  }

  pub file_sync_err : {T E : Type 0} (fault : E) → LeavesNoMore (memory_facts old.medium) (memory_facts new.medium) → new.sync_failed ≡ true
      → (memory_file_facts new).failures ≡ (memory_file_facts old).failures + 1 → IsFileSync {T = T} {E = E} (memory_file_facts old) (memory_file_facts new) (Err fault)
  file_sync_err fault fewer failed failures = record {
    call = is_call true failures;
    medium = no_more fewer.each;
    ok = tt;
    err = failed;
    now = tt;
    alone = tt;
  }
