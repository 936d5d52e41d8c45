-- Libraries: files that are installed under their own names (gABI chapter 5, DT_SONAME; own).
use Rattle.std.specs.Prelude.{ℕ, List, [], ◌∷◌, Option, Some, None, unwrap_or, ◌≡◌}
use Rattle.elf_file.specs.FirstOf.{◌when◌, first_of}
use Rattle.elf_file.specs.declared.refusal.ObjectRefusal.TheVariants.{BadSoname}
use Rattle.elf_dynamic.specs.Strings.{soname}
use Rattle.hash_check.specs.FileRefusal.{first_file_refusal}
use Rattle.hash_check.specs.Soname.{has_bad_soname}
use Rattle.hash_check.specs.declared.file_refusal.FileRefusal.{FileRefusal}
use Rattle.hash_check.specs.declared.file_refusal.FileRefusal.TheVariants.{Object}
use Rattle.states.specs.State.{Library}

-- the tests of a file as a library: those of its object, those of admission, and then E33, the test of its name
abbrev pub library_tests : List ℕ → List (Option FileRefusal)
library_tests file = first_file_refusal file ∷ (Object BadSoname when has_bad_soname file) ∷ []

-- the refusal of a file as a library by the first test that refuses it, or none if the file is a
-- library
unfoldable pub library_refusal : List ℕ → Option FileRefusal
library_refusal file = first_of (library_tests file)

-- the name of a library's file: its SONAME
unfoldable pub name_of : List ℕ → List ℕ
name_of file = unwrap_or (soname file) []

-- all tests accept the file, and the name is the file's SONAME
pub record IsLibrary (l : Library) : Type 0 where
  pub accepted : library_refusal l.bytes ≡ None
  pub named : soname l.bytes ≡ Some l.name
