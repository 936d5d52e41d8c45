-- The text of the libraries that are found for a program, and of the names that are missing (own).
use Rattle.std.specs.Prelude.{ℕ, List, [], ◌++◌, codes, if◌then◌else◌}
use Rattle.std.specs.List.{flat_map}
use Rattle.scope.specs.LoadOrder.{Need, needed_by, is_missing}
use Rattle.scope.specs.Objects.{Named}
use Rattle.bindings.specs.Bindings.{name_line, names_line, needs_line}

-- the line of a name that is missing, with the object that needs it
abbrev pub missing_line : Need → List ℕ
missing_line need = names_line (codes "missing ") need.name need.needer

-- the line of a needed name and, if no library has this name, the line of a missing name; `names`
-- has the libraries' names
abbrev pub need_text : List (List ℕ) → Need → List ℕ
need_text names need = needs_line need.name ++ (if is_missing names need then missing_line need else [])

-- the lines of an object that was found: the line of its name, and the lines of the names that it
-- needs
unfoldable pub found_text : List (List ℕ) → Named → List ℕ
found_text names object = name_line (codes "found ") object.name ++ flat_map (need_text names) (needed_by object)

-- the text of objects: the lines of each object, in the order of the list, and the line `end`;
-- `names` has the names of the installed libraries
unfoldable pub dependencies_text : List (List ℕ) → List Named → List ℕ
dependencies_text names objects = flat_map (found_text names) objects ++ codes "end\n"

-- a program, and the libraries that are found for it, in load order
pub record Found : Type 0 where
  pub program : List ℕ
  pub libraries : List Named
