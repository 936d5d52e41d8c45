-- Objects that are bound together (own).
use Rattle.std.specs.Prelude.{ℕ, ◌≡◌, List, [], map, get_or, slice_get, codes, Some, None}
use Rattle.std.specs.List.{All}
use Rattle.std.specs.Option.{option_map}
use Rattle.elf_dynamic.specs.Refusal.{first_refusal}
use Rattle.hash_check.specs.Definition.{HasUniqueNames}
use Rattle.hash_check.specs.HashTable.{HasGoodTable}
use Rattle.hash_check.specs.Admission.{admission_refusal}

-- an object: its name, and the bytes of its file
pub record Named : Type 0 where
  pub name : List ℕ
  pub file : List ℕ

-- the name of a program
abbrev pub program_name : List ℕ
program_name = codes "/program"

-- An object is identified by its place in load order, not by its bytes, because two objects may have the same bytes. No definition here uses a place
-- after the last object.

-- the name of the object at `place`
abbrev pub name_at : List Named → ℕ → List ℕ
name_at objects place = get_or (map (λ o. o.name) objects) place []

-- the file of the object at `place`
abbrev pub file_at : List Named → ℕ → List ℕ
file_at objects place = get_or (map (λ o. o.file) objects) place []

-- the file is accepted and admitted: all tests accept it, it exports no name twice, and its hash
-- table can be trusted
pub record IsTaken (file : List ℕ) : Type 0 where
  pub accepted : first_refusal file ≡ None
  pub admitted : admission_refusal file ≡ None
  pub unique : HasUniqueNames file
  pub table : HasGoodTable file

-- objects in load order: the first is the program, and all tests accept each file
pub record IsOrder (objects : List Named) : Type 0 where
  pub program : option_map (λ o. o.name) (slice_get objects 0) ≡ Some program_name
  pub taken : All (λ o. IsTaken o.file) objects
