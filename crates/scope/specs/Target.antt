-- The target to which a symbol is bound (gABI chapter 4, symbol table: binding and visibility).
use Rattle.std.specs.Prelude.{ℕ, ◌==◌, List, slice_get, Bool, not, ◌&&◌, ◌||◌, if◌then◌else◌, Option, Some, None}
use Rattle.std.specs.Option.{option_and_then, option_or}
use Rattle.elf_file.specs.FirstOf.{◌when◌}
use Rattle.elf_dynamic.specs.Symbol.{symbols, is_local, is_weak, is_defined, has_default_visibility, is_hidden}
use Rattle.elf_dynamic.specs.Strings.{name_of}
use Rattle.elf_dynamic.specs.declared.symbol.Symbol.{Symbol}
use Rattle.scope.specs.Objects.{Named, file_at}
use Rattle.scope.specs.Lookup.{lookup}
use Rattle.scope.specs.declared.target.Target.{Target}
use Rattle.scope.specs.declared.target.Target.TheVariants.{Zero, At}

-- no other object can replace the symbol: it is local, or it is defined in its object and its visibility isn't the default
abbrev pub is_own : Symbol → Bool
is_own s = is_local s || (is_defined s && not (has_default_visibility s))

-- no other object can define the symbol for its object: its object doesn't define it, and it is
-- hidden or internal
abbrev pub is_withheld : Symbol → Bool
is_withheld s = not (is_defined s) && is_hidden s

-- The target of symbol number `i` of the object at place `object`; `s` has the symbol's fields. If
-- no other object can replace the symbol, the target is the symbol itself. Otherwise, unless the
-- symbol is withheld, the target is the definition that lookup finds for its name. If there is no
-- such definition, the target of a weak symbol is 0, and any other symbol has no target.
abbrev pub target_of : List Named → ℕ → ℕ → Symbol → Option Target
target_of objects object i s =
    if is_own s then Some (At object i)
    else option_or (if is_withheld s then None else lookup objects object (name_of (file_at objects object) i)) (Zero when is_weak s)

-- the target of symbol number `i` of the object at place `object`, or none if the symbol is undefined;
-- the target of symbol number 0 is 0
unfoldable pub target : List Named → ℕ → ℕ → Option Target
target objects object i =
    if i == 0 then Some Zero else option_and_then (target_of objects object i) (slice_get (symbols (file_at objects object)) i)
