-- The constants of executable files (gABI chapters 4 and 5; elf(5)), and the kernel's limits.
use Rattle.std.specs.Prelude.{ℕ}

-- e_type of an executable file
abbrev pub ET_EXEC : ℕ
ET_EXEC = 2

-- the p_type of the segment of the program headers themselves
abbrev pub PT_PHDR : ℕ
PT_PHDR = 6

-- the p_type of the segment with the permissions of the stack
abbrev pub PT_GNU_STACK : ℕ
PT_GNU_STACK = 0x6474e551

-- the tags, in d_tag, of an initializer, of an array of initializers, and of this array's size in
-- bytes
abbrev pub DT_INIT : ℕ
DT_INIT = 12

abbrev pub DT_INIT_ARRAY : ℕ
DT_INIT_ARRAY = 25

abbrev pub DT_INIT_ARRAYSZ : ℕ
DT_INIT_ARRAYSZ = 27

-- the tags of a finalizer, of an array of finalizers, and of this array's size in bytes; finalizers
-- are functions that a loader calls when the program ends
abbrev pub DT_FINI : ℕ
DT_FINI = 13

abbrev pub DT_FINI_ARRAY : ℕ
DT_FINI_ARRAY = 26

abbrev pub DT_FINI_ARRAYSZ : ℕ
DT_FINI_ARRAYSZ = 28

-- the tags of an array of pre-initializers and of this array's size in bytes; only a program has
-- such an array, and a loader calls its functions before all other functions
abbrev pub DT_PREINIT_ARRAY : ℕ
DT_PREINIT_ARRAY = 32

abbrev pub DT_PREINIT_ARRAYSZ : ℕ
DT_PREINIT_ARRAYSZ = 33

-- the tag, in d_tag, of an object's flags, and the flag of a position-independent executable
abbrev pub DT_FLAGS_1 : ℕ
DT_FLAGS_1 = 0x6ffffffb

abbrev pub DF_1_PIE : ℕ
DF_1_PIE = 0x08000000

-- the p_type of the segment that names an interpreter
abbrev pub PT_INTERP : ℕ
PT_INTERP = 3

-- the p_type of a segment of notes
abbrev pub PT_NOTE : ℕ
PT_NOTE = 4

-- the p_align of the notes that are read; the name and the descriptor of a note are padded to
-- multiples of this number
abbrev pub NOTE_ALIGNMENT : ℕ
NOTE_ALIGNMENT = 4

-- the number of bytes of a note before its name: the size of its name, the size of its descriptor, and its type
abbrev pub NOTE_HEADER_SIZE : ℕ
NOTE_HEADER_SIZE = 12

-- the name of the calls note, which states that a program itself calls its libraries' functions
-- (own): `rlibreg` and a zero, as a number of eight bytes; and the size of this name
abbrev pub CALLS_NAME : ℕ
CALLS_NAME = 0x67657262696c72

abbrev pub CALLS_NAME_SIZE : ℕ
CALLS_NAME_SIZE = 8

-- the type of the calls note, which has no descriptor
abbrev pub CALLS_TYPE : ℕ
CALLS_TYPE = 1

-- the size in bytes of an entry of an array of functions
abbrev pub ARRAY_ENTRY_SIZE : ℕ
ARRAY_ENTRY_SIZE = 8

-- the lowest address that the kernel lets a process map, unless the process runs as root
-- (vm.mmap_min_addr)
abbrev pub LOWEST : ℕ
LOWEST = 0x10000

-- the maximum number of program headers that the kernel accepts: as many as fit into 65,536 bytes
abbrev pub MOST_HEADERS : ℕ
MOST_HEADERS = 1170
