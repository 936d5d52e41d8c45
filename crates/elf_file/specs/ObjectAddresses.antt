-- The addresses of an object's program headers, of its dynamic section, and of its entry (gABI chapters 4 and 5).
use Rattle.std.specs.Prelude.{ℕ, ◌+◌, ◌-◌, ◌*◌, List, Option, None, Bool, ◌&&◌, nat_le}
use Rattle.std.specs.Option.{option_map, option_map_or}
use Rattle.std.specs.List.{find}
use Rattle.elf_file.specs.Constant.{PROGRAM_HEADER_SIZE}
use Rattle.elf_file.specs.Header.{entry_address, headers_offset, header_count}
use Rattle.elf_file.specs.Segment.{loads}
use Rattle.elf_file.specs.Dynamic.{find_dynamic}
use Rattle.elf_file.specs.declared.segment.ProgramHeader.{ProgramHeader}
use Rattle.elf_file.specs.declared.object_addresses.ObjectAddresses.{ObjectAddresses}

-- a PT_LOAD, whose bytes are the p_filesz bytes of the file from p_offset, has the `size` bytes of the file from `offset`
abbrev pub has_file_bytes : ℕ → ℕ → ProgramHeader → Bool
has_file_bytes offset size h = nat_le h.offset offset && nat_le (offset + size) (h.offset + h.file_size)

-- the address at which the first PT_LOAD that has the `size` bytes of the file from `offset` loads
-- these bytes, before a base is added
unfoldable pub address_of_bytes : List ℕ → ℕ → ℕ → Option ℕ
address_of_bytes file offset size = option_map (λ h. h.address + (offset - h.offset)) (find (has_file_bytes offset size) (loads file))

-- the address of the program headers, if one PT_LOAD has all of them
unfoldable pub headers_address : List ℕ → Option ℕ
headers_address file = address_of_bytes file (headers_offset file) (PROGRAM_HEADER_SIZE * header_count file)

-- the address of the dynamic section, if one PT_LOAD has all of its bytes
unfoldable pub dynamic_address : List ℕ → Option ℕ
dynamic_address file = option_map_or (λ h. address_of_bytes file h.offset h.file_size) (find_dynamic file) None

-- the addresses of the object's own parts, and the number of its program headers
abbrev pub addresses_of : List ℕ → ObjectAddresses
addresses_of file =
    record {
      headers = headers_address file;
      header_count = header_count file;
      dynamic = dynamic_address file;
      entry = entry_address file;
    }
