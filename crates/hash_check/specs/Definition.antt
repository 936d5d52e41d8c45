-- The symbol that an object exports under a name, and names that are exported twice (gABI chapter
-- 4, "Symbol Table"; own).
use Rattle.std.specs.Prelude.{ℕ, List, Bool, true, Option, ◌≡◌, ◌<◌, ◌-◌, ◌&&◌, length}
use Rattle.std.specs.List.{find, list_any, range_with_len}
use Rattle.std.specs.Str.{bytes_eq}
use Rattle.elf_dynamic.specs.Symbol.{symbols}
use Rattle.elf_dynamic.specs.Strings.{name_of}
use Rattle.hash_check.specs.Export.{is_exported}

-- symbol number `i` is exported under the name
unfoldable pub is_exported_as : List ℕ → List ℕ → ℕ → Bool
is_exported_as file name i = is_exported file i && bytes_eq (name_of file i) name

-- the first symbol that an object exports under a name, if there is one; all symbols of the object
-- are compared
unfoldable pub definition_of : List ℕ → List ℕ → Option ℕ
definition_of file name = find (is_exported_as file name) (range_with_len 1 (length (symbols file) - 1))

-- no two exported symbols share a name
pub record HasUniqueNames (file : List ℕ) : Type 0 where
  pub unique : (i j : ℕ) → is_exported file i ≡ true → is_exported file j ≡ true → name_of file i ≡ name_of file j → i ≡ j

-- two exported symbols share a name
pub record HasSharedName (file : List ℕ) : Type 0 where
  pub first : ℕ
  pub second : ℕ
  pub order : first < second
  pub first_exported : is_exported file first ≡ true
  pub second_exported : is_exported file second ≡ true
  pub same : name_of file first ≡ name_of file second

-- E28, as a test: an exported symbol has the same name as an exported symbol before it
unfoldable pub has_duplicate_definition : List ℕ → Bool
has_duplicate_definition file =
    list_any (λ j. is_exported file j && list_any (is_exported_as file (name_of file j)) (range_with_len 1 (j - 1)))
    (range_with_len 1 (length (symbols file) - 1))
