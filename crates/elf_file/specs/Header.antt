-- The ELF-64 file header and its tests (gABI chapter 4; elf(5)).
use Rattle.std.specs.Prelude.{ℕ, ◌+◌, ◌*◌, List, length, slice_index, Bool, not, ◌==◌, ◌||◌, ◌&&◌, nat_lt, ◌≤◌}
use Rattle.elf_file.specs.Number.{number_at}
use Rattle.elf_file.specs.Constant.{ELF_MAGIC, ELFCLASS64, ELFDATA2LSB, EV_CURRENT, ELFOSABI_SYSV, ELFOSABI_GNU}
use Rattle.elf_file.specs.Constant.{ET_DYN, EM_X86_64, PN_XNUM, FILE_HEADER_SIZE, PROGRAM_HEADER_SIZE}

-- e_entry: the address at which the object begins to run, before a base is added; 0 if it has none
abbrev pub entry_address : List ℕ → ℕ
entry_address file = number_at 8 file 24

-- e_phoff: the offset of the program headers, in bytes from the file's start
abbrev pub headers_offset : List ℕ → ℕ
headers_offset file = number_at 8 file 32

-- e_phnum: the number of program headers
abbrev pub header_count : List ℕ → ℕ
header_count file = number_at 2 file 56

-- E1: the file is shorter than a file header
abbrev pub is_too_short : List ℕ → Bool
is_too_short file = nat_lt (length file) FILE_HEADER_SIZE

-- E2: e_ident doesn't begin with 7f 45 4c 46
abbrev pub has_bad_magic : List ℕ → Bool
has_bad_magic file = not (number_at 4 file 0 == ELF_MAGIC)

-- E3: EI_CLASS isn't ELFCLASS64
abbrev pub has_bad_class : List ℕ → Bool
has_bad_class file = not (slice_index file 4 == ELFCLASS64)

-- E4: EI_DATA isn't ELFDATA2LSB
abbrev pub has_bad_data : List ℕ → Bool
has_bad_data file = not (slice_index file 5 == ELFDATA2LSB)

-- E5: EI_VERSION or e_version isn't EV_CURRENT
abbrev pub has_bad_version : List ℕ → Bool
has_bad_version file = not (slice_index file 6 == EV_CURRENT) || not (number_at 4 file 20 == EV_CURRENT)

-- E6: EI_OSABI is neither System V nor GNU
abbrev pub has_bad_os_abi : List ℕ → Bool
has_bad_os_abi file = not (slice_index file 7 == ELFOSABI_SYSV) && not (slice_index file 7 == ELFOSABI_GNU)

-- E7: e_type isn't ET_DYN
abbrev pub has_bad_type : List ℕ → Bool
has_bad_type file = not (number_at 2 file 16 == ET_DYN)

-- E8: e_machine isn't EM_X86_64
abbrev pub has_bad_machine : List ℕ → Bool
has_bad_machine file = not (number_at 2 file 18 == EM_X86_64)

-- E9: e_ehsize isn't the size of a file header, or e_phentsize isn't the size of a program header
abbrev pub has_bad_header_size : List ℕ → Bool
has_bad_header_size file = not (number_at 2 file 52 == FILE_HEADER_SIZE) || not (number_at 2 file 54 == PROGRAM_HEADER_SIZE)

-- E10: e_phnum is 0 or PN_XNUM, or the program headers run past the file's end
abbrev pub has_bad_program_headers : List ℕ → Bool
has_bad_program_headers file =
    (header_count file == 0) || (header_count file == PN_XNUM) || nat_lt (length file) (headers_offset file + PROGRAM_HEADER_SIZE * header_count file)

-- the file has the whole file header, and all program headers that the file header counts
abbrev pub HasHeaders : List ℕ → Type 0
HasHeaders file = (FILE_HEADER_SIZE ≤ length file) × (headers_offset file + PROGRAM_HEADER_SIZE * header_count file ≤ length file)
