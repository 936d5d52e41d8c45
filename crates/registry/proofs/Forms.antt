-- A library's name is a valid name for the store, and its file has a valid size.
use Rattle.std.proofs.Common.{◌≡◌, ◌≤◌, ℕ, Bool, true, false, List, length, Option, Some, None, refl, subst, nat_lt, ◌==◌, arith}
use Rattle.std.specs.Prelude.{◌&&◌, not, nat_le}
use Rattle.std.specs.Int.{IsInRange}
use Rattle.std.specs.List.{list_all}
use Rattle.std.specs.Option.{option_map_or}
use Rattle.std.proofs.lemmas.Bool.{false≢true}
use Rattle.std.proofs.lemmas.Bool.Decides.{nat_tests}
use Rattle.std.proofs.lemmas.List.Sums.{AllPass-from_list_all}
use Rattle.elf_file.specs.Constant.{FILE_HEADER_SIZE}
use Rattle.elf_file.specs.Header.{is_too_short}
use Rattle.elf_file.specs.declared.refusal.ObjectRefusal.TheVariants.{TooShort, BadSoname}
use Rattle.elf_file.proofs.FirstOf.{none_at, when_none}
use Rattle.elf_dynamic.specs.Refusal.{object_tests, first_refusal}
use Rattle.elf_dynamic.specs.Strings.{soname}
use Rattle.hash_check.specs.Soname.{has_bad_soname, is_library_name, is_name_byte}
use Rattle.hash_check.proofs.Reading.{object_taken}
use Rattle.hash_check.specs.declared.file_refusal.FileRefusal.TheVariants.{Object}
use Rattle.roots.specs.Entry.{IsNameByte}
use Rattle.store.specs.Names.{IsName, IsFileSize}
use Rattle.requests.specs.Library.{IsLibrary, library_tests, library_refusal}
use Rattle.states.specs.State.{Library}
use Rattle.requests.proofs.Sonames.{file_taken, short_file}

header_there : (file : List ℕ) → first_refusal file ≡ None → is_too_short file ≡ false
unfolding first_refusal
header_there file h = when_none TooShort (is_too_short file) (none_at (object_tests file) 0 h)

-- a library's file has a header, and at most 16 MiB
pub file_size : (l : Library) → IsLibrary l → IsFileSize (length l.bytes)
file_size l is =
    let some = header_there l.bytes (object_taken l.bytes (file_taken l.bytes is.accepted)) in
    (long (length l.bytes) some, short_file l is)
  where
    long : (n : ℕ) → nat_lt n FILE_HEADER_SIZE ≡ false → 64 ≤ n
    long n h = grind (arith, nat_tests)

name_byte : (b : ℕ) → is_name_byte b ≡ true → IsNameByte b
name_byte b h = (low b (not (b == 0x2f)) h, λ is. let no : is_name_byte 0x2f ≡ true = subst (λ n. is_name_byte n ≡ true) is h in false≢true no)
  where
    low : (n : ℕ) (c : Bool) → (nat_le 0x21 n && (nat_le n 0x7e && c)) ≡ true → IsInRange 0x21 0x7e n
    low n c h = grind (arith, nat_tests)

name_form : (name : List ℕ) → is_library_name name ≡ true → IsName name
unfolding is_library_name
name_form name h = record {
  size = (first (length name) (list_all is_name_byte name) h, last (length name) (list_all is_name_byte name) h);
  bytes = λ k d lt. name_byte _ (AllPass-from_list_all is_name_byte name (each (length name) (list_all is_name_byte name) h) k d lt);
}
  where
    first : (n : ℕ) (c : Bool) → (nat_le 1 n && nat_le n 240 && c) ≡ true → 1 ≤ n
    first n c h = grind (arith, nat_tests)

    last : (n : ℕ) (c : Bool) → (nat_le 1 n && nat_le n 240 && c) ≡ true → n ≤ 240
    last n c h = grind (arith, nat_tests)

    each : (n : ℕ) (c : Bool) → (nat_le 1 n && nat_le n 240 && c) ≡ true → c ≡ true
    each n true h = refl
    each n false h = grind (arith, nat_tests)

soname_fine : (file : List ℕ) → library_refusal file ≡ None → has_bad_soname file ≡ false
unfolding library_refusal
soname_fine file h = when_none (Object BadSoname) (has_bad_soname file) (none_at (library_tests file) 1 h)

-- a library's name is a valid name for the store
pub is_name : (l : Library) → IsLibrary l → IsName l.name
unfolding has_bad_soname
is_name l is = by (soname l.bytes) is.named (soname_fine l.bytes is.accepted)
  where
    fine : (b : Bool) → not b ≡ false → b ≡ true
    fine true h = refl
    fine false h = cc

    by : (o : Option (List ℕ)) → o ≡ Some l.name → not (option_map_or is_library_name o false) ≡ false → IsName l.name
    by None e h = cc
    by (Some n) e h =
        let same : n ≡ l.name = cc in
        subst IsName same (name_form n (fine (is_library_name n) h))
