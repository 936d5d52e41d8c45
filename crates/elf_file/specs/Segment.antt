-- The program headers and their tests (gABI chapter 5; elf(5)).
use Rattle.std.specs.Prelude.{ℕ, ◌+◌, ◌*◌, ◌%◌, List, map, filter, take, drop, length, Bool, not, ◌==◌, ◌||◌, ◌&&◌, nat_lt}
use Rattle.std.specs.Int.{is_power_of_two}
use Rattle.std.specs.List.{list_any, range_with_len, zip}
use Rattle.elf_file.specs.Number.{number_at}
use Rattle.elf_file.specs.Constant.{PROGRAM_HEADER_SIZE, PT_LOAD, PT_TLS, LARGEST_FILE, HIGHEST_END}
use Rattle.elf_file.specs.Header.{headers_offset, header_count}
use Rattle.elf_file.specs.declared.segment.ProgramHeader.{ProgramHeader}

-- the program header at an offset of the file
abbrev pub header_at : List ℕ → ℕ → ProgramHeader
header_at file at =
    record {
      kind = number_at 4 file at;
      flags = number_at 4 file (at + 4);
      offset = number_at 8 file (at + 8);
      address = number_at 8 file (at + 16);
      file_size = number_at 8 file (at + 32);
      memory_size = number_at 8 file (at + 40);
      alignment = number_at 8 file (at + 48);
    }

-- program header number `i`
unfoldable pub program_header : List ℕ → ℕ → ProgramHeader
program_header file i = header_at file (headers_offset file + PROGRAM_HEADER_SIZE * i)

-- all program headers, in the order of the file
abbrev pub program_headers : List ℕ → List ProgramHeader
program_headers file = map (program_header file) (range_with_len 0 (header_count file))

-- the segment is a PT_LOAD
abbrev pub is_load : ProgramHeader → Bool
is_load h = h.kind == PT_LOAD

-- the segment is a PT_TLS
abbrev pub is_tls : ProgramHeader → Bool
is_tls h = h.kind == PT_TLS

-- the PT_LOADs, in the order of the program headers
unfoldable pub loads : List ℕ → List ProgramHeader
loads file = filter is_load (program_headers file)

-- the bytes of the file that a segment has
abbrev pub contents : List ℕ → ProgramHeader → List ℕ
contents file h = take h.file_size (drop h.offset file)

-- E11: a PT_TLS is present
unfoldable pub has_tls_segment : List ℕ → Bool
has_tls_segment file = list_any is_tls (program_headers file)

-- a PT_LOAD is present
unfoldable pub has_load : List ℕ → Bool
has_load file = list_any is_load (program_headers file)

-- `h` is a PT_LOAD with a wrong file size, file end or alignment, in a file of `size` bytes
abbrev pub is_bad_load : ℕ → ProgramHeader → Bool
is_bad_load size h =
    is_load h
    && (nat_lt h.memory_size h.file_size
    || (nat_lt 0 h.file_size && nat_lt size (h.offset + h.file_size))
    || (nat_lt 1 h.alignment && (not (is_power_of_two h.alignment) || not (h.address % h.alignment == h.offset % h.alignment))))

-- some PT_LOAD has a wrong file size, file end or alignment
unfoldable pub has_bad_load : List ℕ → Bool
has_bad_load file = list_any (is_bad_load (length file)) (program_headers file)

-- E12: no PT_LOAD is present, or a PT_LOAD has a wrong file size, file end or alignment
abbrev pub has_bad_segment : List ℕ → Bool
has_bad_segment file = not (has_load file) || has_bad_load file

-- the program header is a PT_LOAD whose memory ends above HIGHEST_END
abbrev pub is_too_high : ProgramHeader → Bool
is_too_high h = is_load h && nat_lt HIGHEST_END (h.address + h.memory_size)

-- the memory of some PT_LOAD ends above HIGHEST_END
unfoldable pub has_high_segment : List ℕ → Bool
has_high_segment file = list_any is_too_high (program_headers file)

-- E13: the file is longer than LARGEST_FILE, or the memory of a PT_LOAD ends above HIGHEST_END
abbrev pub is_too_large : List ℕ → Bool
is_too_large file = nat_lt LARGEST_FILE (length file) || has_high_segment file

-- the second of a pair of PT_LOADs begins before the end of the first
abbrev pub is_out_of_order : ProgramHeader × ProgramHeader → Bool
is_out_of_order pair = nat_lt pair.1.address (pair.0.address + pair.0.memory_size)

-- E14: some PT_LOAD begins before the end of the one before it
unfoldable pub has_bad_order : List ℕ → Bool
has_bad_order file = list_any is_out_of_order (zip (loads file) (drop 1 (loads file)))
