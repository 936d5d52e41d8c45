-- The bytes of an executable file (gABI chapters 4 and 5; elf(5)).
use Rattle.std.specs.Prelude.{ℕ, ◌+◌, ◌-◌, ◌*◌, ◌%◌, nat_lt, Bool, true, if◌then◌else◌, List, [], ◌∷◌, ◌++◌, length, replicate}
use Rattle.std.specs.List.{flat_map}
use Rattle.byteorder.specs.Endian.{little_bytes}
use Rattle.elf_file.specs.Constant.{PT_LOAD, EM_X86_64, EV_CURRENT, FILE_HEADER_SIZE, PROGRAM_HEADER_SIZE}
use Rattle.elf_file.specs.declared.segment.ProgramHeader.{ProgramHeader}
use Rattle.image.specs.Constant.{PAGE, PF_R, PF_W}
use Rattle.image.specs.Loading.{Loaded}
use Rattle.executable.specs.Constant.{ET_EXEC, PT_PHDR, PT_GNU_STACK}
use Rattle.executable.specs.Place.{header_count_of, headers_size}

-- e_ident: 7f 45 4c 46, 64 bits, little endian, the current version, and System V, followed by zeros
abbrev pub ident : List ℕ
ident = 0x7f ∷ 0x45 ∷ 0x4c ∷ 0x46 ∷ 2 ∷ 1 ∷ 1 ∷ 0 ∷ 0 ∷ 0 ∷ 0 ∷ 0 ∷ 0 ∷ 0 ∷ 0 ∷ 0 ∷ []

-- the file header of an executable with entry `entry` and with `count` program headers, which follow the file header
abbrev pub file_header : ℕ → ℕ → List ℕ
file_header entry count =
    ident ++ (little_bytes 2 ET_EXEC ++ (little_bytes 2 EM_X86_64 ++ (little_bytes 4 EV_CURRENT
    ++ (little_bytes 8 entry ++ (little_bytes 8 FILE_HEADER_SIZE ++ (little_bytes 8 0 ++ (little_bytes 4 0
    ++ (little_bytes 2 FILE_HEADER_SIZE ++ (little_bytes 2 PROGRAM_HEADER_SIZE ++ (little_bytes 2 count ++ little_bytes 6 0))))))))))

-- a program header: p_type, p_flags, p_offset, p_vaddr, p_paddr, p_filesz, p_memsz, p_align
unfoldable pub header_bytes : ProgramHeader → List ℕ
header_bytes h =
    little_bytes 4 h.kind ++ (little_bytes 4 h.flags ++ (little_bytes 8 h.offset ++ (little_bytes 8 h.address
    ++ (little_bytes 8 h.address ++ (little_bytes 8 h.file_size ++ (little_bytes 8 h.memory_size ++ little_bytes 8 h.alignment))))))

-- `bytes`, and then zeros to the end of the page
abbrev pub padded : List ℕ → List ℕ
padded bytes = bytes ++ replicate ((PAGE - length bytes % PAGE) % PAGE) 0

-- the pages of the file that contain a piece's bytes; the offset of the first byte in its page of
-- the file is the offset of the piece's address in its page of memory
unfoldable pub piece_bytes : Loaded → List ℕ
piece_bytes p = padded (replicate (p.heading.address % PAGE) 0 ++ p.contents)

-- the PT_LOAD of a piece whose pages begin at offset `at`
abbrev pub load_header : ℕ → Loaded → ProgramHeader
load_header at p =
    record {
      kind = PT_LOAD;
      flags = p.heading.permissions;
      offset = at + p.heading.address % PAGE;
      address = p.heading.address;
      file_size = length p.contents;
      memory_size = p.heading.size;
      alignment = PAGE;
    }

-- the PT_LOADs of `pieces`, whose pages in the file follow one another from offset `at`
abbrev pub load_headers : ℕ → List Loaded → List ProgramHeader
load_headers at [] = []
load_headers at (p ∷ rest) = load_header at p ∷ load_headers (at + length (piece_bytes p)) rest

-- the PT_LOAD of the headers, which are mapped at address `place`: the file header, and `n` program headers after it
abbrev pub own_header : ℕ → ℕ → ProgramHeader
own_header place n =
    record {
      kind = PT_LOAD;
      flags = PF_R;
      offset = 0;
      address = place;
      file_size = headers_size n;
      memory_size = headers_size n;
      alignment = PAGE;
    }

-- the PT_PHDR, with the address and the offset of the program headers
abbrev pub table_header : ℕ → ℕ → ProgramHeader
table_header place n =
    record {
      kind = PT_PHDR;
      flags = PF_R;
      offset = FILE_HEADER_SIZE;
      address = place + FILE_HEADER_SIZE;
      file_size = PROGRAM_HEADER_SIZE * n;
      memory_size = PROGRAM_HEADER_SIZE * n;
      alignment = 8;
    }

-- the PT_GNU_STACK of a stack that may be read and written, but not executed
abbrev pub stack_header : ProgramHeader
stack_header =
    record { kind = PT_GNU_STACK; flags = PF_R + PF_W; offset = 0; address = 0; file_size = 0; memory_size = 0; alignment = 16 }

-- address `place` is below the first piece, or there are no pieces
abbrev pub is_below : ℕ → List Loaded → Bool
is_below place [] = true
is_below place (p ∷ rest) = nat_lt place p.heading.address

-- if `below` is true, `x` followed by `xs`, and otherwise `xs` followed by `x`
abbrev pub put_in_order : {X : Type 0} → Bool → X → List X → List X
put_in_order below x xs = if below then x ∷ xs else xs ++ x ∷ []

-- all program headers of a file whose headers are mapped at address `place`; the PT_LOADs are in ascending order of
-- address (gABI chapter 5)
abbrev pub table_of : ℕ → List Loaded → List ProgramHeader
table_of place pieces =
    let n = header_count_of pieces in
    table_header place n
    ∷ put_in_order (is_below place pieces) (own_header place n) (load_headers (length (padded (replicate (headers_size n) 0))) pieces)
    ++ stack_header ∷ []

-- the bytes of the file header and of the program headers
unfoldable pub front_of : ℕ → List ProgramHeader → List ℕ
front_of entry table = file_header entry (length table) ++ flat_map header_bytes table

-- the file that begins with `front`, followed by the pages of each piece
unfoldable pub file_with : List ℕ → List Loaded → List ℕ
file_with front pieces = padded front ++ flat_map piece_bytes pieces
