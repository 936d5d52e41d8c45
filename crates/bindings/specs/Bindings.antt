-- The text of the symbols to which relocations refer, and of their bindings (own).
use Rattle.std.specs.Prelude.{ℕ, List, ◌++◌, length, map, codes, Option, Some, None}
use Rattle.std.specs.List.{flat_map, range_with_len}
use Rattle.elf_dynamic.specs.Strings.{name_of, needed}
use Rattle.scope.specs.Target.{target}
use Rattle.scope.specs.declared.target.Target.{Target}
use Rattle.scope.specs.declared.target.Target.TheVariants.{Zero, At}
use Rattle.text_output.specs.Hexadecimal.{address_text}
use Rattle.text_output.specs.Name.{name_text}
use Rattle.image.specs.Placement.{Placed, named}
use Rattle.image.specs.Relocating.{base_at, file_at, name_at, own_address}
use Rattle.bindings.specs.Named.{named_symbols}

-- a line that begins with `says` and ends with a name
abbrev pub name_line : List ℕ → List ℕ → List ℕ
name_line says name = says ++ name_text name ++ codes "\n"

-- a line that begins with `says` and ends with two names
abbrev pub names_line : List ℕ → List ℕ → List ℕ → List ℕ
names_line says name other = says ++ name_text name ++ name_line (codes " ") other

-- the line of an object, with its base and its name
abbrev pub object_line : (base : ℕ) (name : List ℕ) → List ℕ
object_line base name = codes "object 0x" ++ address_text base ++ name_line (codes " ") name

-- the line of a name that an object needs
abbrev pub needs_line : List ℕ → List ℕ
needs_line name = name_line (codes "needs ") name

-- the line of a symbol that is bound, with its name, its value, and the object that defines it
abbrev pub binds_line : (symbol : List ℕ) (value : ℕ) (object : List ℕ) → List ℕ
binds_line symbol value object = codes "binds " ++ name_text symbol ++ codes " 0x" ++ address_text value ++ name_line (codes " ") object

-- the line of a symbol of object number `own`; `name` is the symbol's name; the target is a symbol
-- of an object, or 0 for a weak symbol that no object defines, or none
abbrev pub target_line : List Placed → ℕ → List ℕ → Option Target → List ℕ
target_line objects own name (Some (At object symbol)) = binds_line name (own_address objects object symbol) (name_at objects object)
target_line objects own name (Some Zero) = name_line (codes "unresolved ") name
target_line objects own name None = names_line (codes "undefined ") name (name_at objects own)

-- the target of symbol number `i` of object number `own`
abbrev pub target_at : List Placed → ℕ → ℕ → Option Target
target_at objects own i = target (map named objects) own i

-- the line of symbol number `i` of object number `own`
unfoldable pub symbol_line : List Placed → ℕ → ℕ → List ℕ
symbol_line objects own i = target_line objects own (name_of (file_at objects own) i) (target_at objects own i)

-- the lines of object number `own`: the line of the object itself, those of the names that it
-- needs, and that of each symbol to which its relocations refer, in the order of the symbols'
-- numbers
unfoldable pub object_text : List Placed → ℕ → List ℕ
object_text objects own =
    object_line (base_at objects own) (name_at objects own)
    ++ flat_map needs_line (needed (file_at objects own))
    ++ flat_map (symbol_line objects own) (named_symbols (file_at objects own))

-- the text of placed objects: the lines of each object, in load order, and the line `end`
unfoldable pub bindings_text : List Placed → List ℕ
bindings_text objects = flat_map (object_text objects) (range_with_len 0 (length objects)) ++ codes "end\n"
