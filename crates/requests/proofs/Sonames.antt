-- Facts about a library's file.
use Rattle.std.proofs.Common.{◌≡◌, ◌≤◌, ℕ, Bool, true, false, List, [], ◌∷◌, length, Some, None, Option, refl, sym, ap, arith}
use Rattle.std.specs.Prelude.{◌||◌, not, nat_lt, unwrap_or}
use Rattle.std.specs.Option.{option_map_or}
use Rattle.std.proofs.lemmas.Bool.Decides.{nat_tests}
use Rattle.elf_file.specs.Constant.{LARGEST_FILE}
use Rattle.elf_file.specs.FirstOf.{◌when◌, first_of}
use Rattle.elf_file.specs.Segment.{is_too_large, has_high_segment}
use Rattle.elf_file.specs.declared.refusal.ObjectRefusal.TheVariants.{BadSoname, TooLarge}
use Rattle.elf_file.proofs.FirstOf.{none_at, when_none}
use Rattle.elf_dynamic.specs.Refusal.{object_tests, first_refusal}
use Rattle.elf_dynamic.specs.Strings.{soname}
use Rattle.hash_check.specs.FileRefusal.{first_file_refusal, ReadNeedsMemory}
use Rattle.hash_check.specs.Soname.{has_bad_soname, is_library_name}
use Rattle.hash_check.proofs.Reading.{object_taken, taken_with_memory}
use Rattle.hash_check.specs.declared.file_refusal.FileRefusal.{FileRefusal}
use Rattle.hash_check.specs.declared.file_refusal.FileRefusal.TheVariants.{Object}
use Rattle.requests.specs.Library.{IsLibrary, library_tests, library_refusal, name_of}
use Rattle.states.specs.State.{Library}

pub file_taken : (file : List ℕ) → library_refusal file ≡ None → first_file_refusal file ≡ None
unfolding library_refusal
file_taken file h = none_at (library_tests file) 0 h

soname_fine : (file : List ℕ) → library_refusal file ≡ None → has_bad_soname file ≡ false
unfolding library_refusal
soname_fine file h = when_none (Object BadSoname) (has_bad_soname file) (none_at (library_tests file) 1 h)

-- a library's name is never a bad one
pub badly_named : (file : List ℕ) → library_refusal file ≡ None → has_bad_soname file ≡ true → ⊥
badly_named file h bad =
    let fine = soname_fine file h in
    cc

-- a file that isn't refused was admitted, and that needs memory
pub taken_memory : (file : List ℕ) → library_refusal file ≡ None → ReadNeedsMemory file
taken_memory file h = taken_with_memory file (file_taken file h)

-- the name of a library is its SONAME
pub named_so : (file : List ℕ) → library_refusal file ≡ None → soname file ≡ Some (name_of file)
unfolding has_bad_soname name_of
named_so file h = by (soname file) (soname_fine file h)
  where
    by : (o : Option (List ℕ)) → not (option_map_or is_library_name o false) ≡ false → o ≡ Some (unwrap_or o [])
    by None h = cc
    by (Some n) h = refl

pub is_library : (file : List ℕ) → library_refusal file ≡ None → IsLibrary (record { name = name_of file; bytes = file })
is_library file h = record { accepted = h; named = named_so file h }

-- if this name was found to be the SONAME, it is the library's name
pub name_is : (file name : List ℕ) → soname file ≡ Some name → name ≡ name_of file
unfolding name_of
name_is file name h = sym (ap (λ o. unwrap_or o []) h)

size_fine : (file : List ℕ) → first_refusal file ≡ None → is_too_large file ≡ false
unfolding first_refusal
size_fine file h = when_none TooLarge (is_too_large file) (none_at (object_tests file) 12 h)

short : (file : List ℕ) → is_too_large file ≡ false → length file ≤ LARGEST_FILE
short file fine = by (length file) (has_high_segment file) fine
  where
    by : (n : ℕ) (b : Bool) → (nat_lt LARGEST_FILE n || b) ≡ false → n ≤ LARGEST_FILE
    by n b fine = grind (arith, nat_tests)

-- no library's file is longer than 16 MiB
pub short_file : (l : Library) → IsLibrary l → length l.bytes ≤ LARGEST_FILE
short_file l is = short l.bytes (size_fine l.bytes (object_taken l.bytes (file_taken l.bytes is.accepted)))

-- a file is a library if neither reading it nor its name leads to a refusal
pub is_fine : (file : List ℕ) → first_file_refusal file ≡ None → has_bad_soname file ≡ false → library_refusal file ≡ None
unfolding library_refusal
is_fine file h k = by (first_file_refusal file) (has_bad_soname file) h k
  where
    by : (o : Option FileRefusal) (b : Bool) → o ≡ None → b ≡ false → first_of (o ∷ (Object BadSoname when b) ∷ []) ≡ None
    by None false h k = refl
    by None true h k = cc
    by (Some r) b h k = cc

pub is_badly_named : (file : List ℕ) → first_file_refusal file ≡ None → has_bad_soname file ≡ true → library_refusal file ≡ Some (Object BadSoname)
unfolding library_refusal
is_badly_named file h k = by (first_file_refusal file) (has_bad_soname file) h k
  where
    by : (o : Option FileRefusal) (b : Bool) → o ≡ None → b ≡ true → first_of (o ∷ (Object BadSoname when b) ∷ []) ≡ Some (Object BadSoname)
    by None false h k = cc
    by None true h k = refl
    by (Some r) b h k = cc

pub is_refused : (file : List ℕ) (r : FileRefusal) → first_file_refusal file ≡ Some r → library_refusal file ≡ Some r
unfolding library_refusal
is_refused file r h = by (first_file_refusal file) (has_bad_soname file) h
  where
    by : (o : Option FileRefusal) (b : Bool) → o ≡ Some r → first_of (o ∷ (Object BadSoname when b) ∷ []) ≡ Some r
    by None b h = cc
    by (Some s) b h = h
