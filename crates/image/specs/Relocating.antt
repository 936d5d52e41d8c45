-- The values of symbols, and the writes of relocations (gABI chapter 4, symbol values; psABI, relocation
-- types).
use Rattle.std.specs.Prelude.{ℕ, ◌+◌, ◌-◌, ◌%◌, ◌^◌, ◌==◌, Bool, ◌&&◌, is_none, if◌then◌else◌}
use Rattle.std.specs.Prelude.{List, [], length, map, reverse, get_or, slice_get, slice_index, Option, Some, None}
use Rattle.std.specs.List.{find, flat_map, filter_map, range_with_len}
use Rattle.std.specs.Option.{option_map, option_map_or}
use Rattle.std.specs.Int.{byte_at}
use Rattle.elf_dynamic.specs.Constant.{R_X86_64_64, R_X86_64_RELATIVE}
use Rattle.elf_dynamic.specs.Relocation.{relocations, uses_symbol, is_writing}
use Rattle.elf_dynamic.specs.Symbol.{symbols, is_absolute}
use Rattle.elf_dynamic.specs.declared.relocation.Relocation.{Relocation}
use Rattle.elf_dynamic.specs.declared.symbol.Symbol.{Symbol}
use Rattle.scope.specs.Target.{target}
use Rattle.scope.specs.declared.target.Target.{Target}
use Rattle.scope.specs.declared.target.Target.TheVariants.{Zero, At}
use Rattle.image.specs.Heading.{within}
use Rattle.image.specs.Placement.{Placed, named}

-- An object is identified by its number, its position in load order, because two objects may have
-- the same bytes. No definition here uses a number that no object has.

-- the base of object number `own`
abbrev pub base_at : List Placed → ℕ → ℕ
base_at objects own = slice_index (map (λ o. o.base) objects) own

-- the file's bytes of object number `own`
abbrev pub file_at : List Placed → ℕ → List ℕ
file_at objects own = get_or (map (λ o. o.file) objects) own []

-- the name of object number `own`
abbrev pub name_at : List Placed → ℕ → List ℕ
name_at objects own = get_or (map (λ o. o.name) objects) own []

-- the relocations of object number `own`
abbrev pub relocations_of : List Placed → ℕ → List Relocation
relocations_of objects own = relocations (file_at objects own)

-- the address of a symbol of an object at `base`: the symbol's value, plus the base unless the symbol is
-- absolute
abbrev pub address_of : ℕ → Symbol → ℕ
address_of base symbol = if is_absolute symbol then symbol.value else (base + symbol.value) % 2 ^ 64

-- the address of symbol number `symbol` of object number `object`
abbrev pub own_address : List Placed → ℕ → ℕ → ℕ
own_address objects object symbol = option_map_or (address_of (base_at objects object)) (slice_get (symbols (file_at objects object)) symbol) 0

-- the value of a target: 0 for the target `Zero`, and otherwise the address of the symbol
abbrev pub target_value : List Placed → Target → ℕ
target_value objects Zero = 0
target_value objects (At object symbol) = own_address objects object symbol

-- the value of symbol number `symbol` of object number `own`, or none if the symbol is undefined
unfoldable pub symbol_value : List Placed → ℕ → ℕ → Option ℕ
symbol_value objects own symbol = option_map (target_value objects) (target (map named objects) own symbol)

-- The value that relocation `r` of an object at `base` writes, or none if its symbol has no value
-- or its type writes nothing. `values` returns the value of a symbol by the symbol's number.
abbrev pub value_with : ℕ → (ℕ → Option ℕ) → Relocation → Option ℕ
value_with base values r =
    if r.kind == R_X86_64_RELATIVE then Some ((base + r.addend) % 2 ^ 64)
    else (if r.kind == R_X86_64_64 then option_map (λ value. (value + r.addend) % 2 ^ 64) (values r.symbol)
    else (if uses_symbol r.kind then values r.symbol else None))

-- the value that relocation `r` of object number `own` writes
abbrev pub value_of : List Placed → ℕ → Relocation → Option ℕ
value_of objects own r = value_with (base_at objects own) (symbol_value objects own) r

-- relocation `r` has a type that writes, but it has no value
abbrev pub is_undefined : List Placed → ℕ → Relocation → Bool
is_undefined objects own r = is_writing r.kind && is_none (value_of objects own r)

-- the first relocation of object number `own` that has no value, or none
abbrev pub first_undefined : List Placed → ℕ → Option Relocation
first_undefined objects own = find (is_undefined objects own) (relocations_of objects own)

-- eight bytes that a relocation writes: their first address, and the value, little endian
pub record Write : Type 0 where
  pub place : ℕ
  pub value : ℕ

-- the write of relocation `r` of an object at `base`, or none; `values` returns the value of a
-- symbol by the symbol's number
abbrev pub write_with : ℕ → (ℕ → Option ℕ) → Relocation → Option Write
write_with base values r = option_map (λ value. record { place = base + r.offset; value = value }) (value_with base values r)

-- the writes of the relocations of object number `own`, in the order of the relocations
abbrev pub writes_of : List Placed → ℕ → List Write
writes_of objects own = filter_map (write_with (base_at objects own) (symbol_value objects own)) (relocations_of objects own)

-- the writes of all relocations, object by object in load order
abbrev pub all_writes : List Placed → List Write
all_writes objects = flat_map (writes_of objects) (range_with_len 0 (length objects))

-- the last write whose eight bytes include the byte at an address
abbrev pub last_write_at : List Write → ℕ → Option Write
last_write_at writes address = find (λ w. within w.place 8 address) (reverse writes)

-- the byte that the write stores at an address, or the loaded byte if there is no write
abbrev pub written_or : Option Write → Option ℕ → ℕ → Option ℕ
written_or (Some w) loaded address = Some (byte_at (address - w.place) w.value)
written_or None loaded address = loaded
