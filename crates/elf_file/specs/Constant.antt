-- The numbers of ELF files (gABI chapters 4 and 5; elf(5)), and this project's own limits.
use Rattle.std.specs.Prelude.{ℕ}

-- e_ident: the first four bytes, 7f 45 4c 46, as a little endian number
abbrev pub ELF_MAGIC : ℕ
ELF_MAGIC = 0x464c457f

-- EI_CLASS of 64-bit files
abbrev pub ELFCLASS64 : ℕ
ELFCLASS64 = 2

-- EI_DATA of little endian files
abbrev pub ELFDATA2LSB : ℕ
ELFDATA2LSB = 1

-- EI_VERSION and e_version of the current version
abbrev pub EV_CURRENT : ℕ
EV_CURRENT = 1

-- EI_OSABI of the System V ABI
abbrev pub ELFOSABI_SYSV : ℕ
ELFOSABI_SYSV = 0

-- EI_OSABI of the GNU extensions of the System V ABI
abbrev pub ELFOSABI_GNU : ℕ
ELFOSABI_GNU = 3

-- e_type of a shared object
abbrev pub ET_DYN : ℕ
ET_DYN = 3

-- e_machine of x86-64
abbrev pub EM_X86_64 : ℕ
EM_X86_64 = 62

-- the value of e_phnum if the file has the number of program headers elsewhere
abbrev pub PN_XNUM : ℕ
PN_XNUM = 0xffff

-- the size of a file header, in bytes
abbrev pub FILE_HEADER_SIZE : ℕ
FILE_HEADER_SIZE = 64

-- the size of a program header, in bytes
abbrev pub PROGRAM_HEADER_SIZE : ℕ
PROGRAM_HEADER_SIZE = 56

-- the p_type of each kind of segment that is read
abbrev pub PT_LOAD : ℕ
PT_LOAD = 1

abbrev pub PT_DYNAMIC : ℕ
PT_DYNAMIC = 2

abbrev pub PT_TLS : ℕ
PT_TLS = 7

-- the size of an entry of the dynamic section, in bytes
abbrev pub DYNAMIC_ENTRY_SIZE : ℕ
DYNAMIC_ENTRY_SIZE = 16

-- the size of a symbol, in bytes
abbrev pub SYMBOL_SIZE : ℕ
SYMBOL_SIZE = 24

-- the size of a relocation with an addend, in bytes
abbrev pub RELOCATION_SIZE : ℕ
RELOCATION_SIZE = 24

-- the d_tag of each kind of entry of the dynamic section that is read
abbrev pub DT_NULL : ℕ
DT_NULL = 0

abbrev pub DT_NEEDED : ℕ
DT_NEEDED = 1

abbrev pub DT_PLTRELSZ : ℕ
DT_PLTRELSZ = 2

abbrev pub DT_HASH : ℕ
DT_HASH = 4

abbrev pub DT_STRTAB : ℕ
DT_STRTAB = 5

abbrev pub DT_SYMTAB : ℕ
DT_SYMTAB = 6

abbrev pub DT_RELA : ℕ
DT_RELA = 7

abbrev pub DT_RELASZ : ℕ
DT_RELASZ = 8

abbrev pub DT_RELAENT : ℕ
DT_RELAENT = 9

abbrev pub DT_STRSZ : ℕ
DT_STRSZ = 10

abbrev pub DT_SYMENT : ℕ
DT_SYMENT = 11

abbrev pub DT_SONAME : ℕ
DT_SONAME = 14

abbrev pub DT_SYMBOLIC : ℕ
DT_SYMBOLIC = 16

abbrev pub DT_REL : ℕ
DT_REL = 17

abbrev pub DT_PLTREL : ℕ
DT_PLTREL = 20

abbrev pub DT_JMPREL : ℕ
DT_JMPREL = 23

abbrev pub DT_FLAGS : ℕ
DT_FLAGS = 30

abbrev pub DT_RELR : ℕ
DT_RELR = 36

abbrev pub DT_VERSYM : ℕ
DT_VERSYM = 0x6ffffff0

abbrev pub DT_VERDEF : ℕ
DT_VERDEF = 0x6ffffffc

abbrev pub DT_VERNEED : ℕ
DT_VERNEED = 0x6ffffffe

-- the bit of DT_FLAGS of an object for which lookups of symbols begin with the object itself
abbrev pub DF_SYMBOLIC : ℕ
DF_SYMBOLIC = 0x2

-- the maximum length of a file, in bytes (own)
abbrev pub LARGEST_FILE : ℕ
LARGEST_FILE = 16777216

-- the highest address at which an object's memory may end (own)
abbrev pub HIGHEST_END : ℕ
HIGHEST_END = 67108864
