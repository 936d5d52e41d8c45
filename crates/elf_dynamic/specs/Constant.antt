-- The numbers with which symbols and relocations are encoded (gABI chapter 4; psABI, relocation types).
use Rattle.std.specs.Prelude.{ℕ}

-- the size of a word of the hash table, in bytes
abbrev pub WORD_SIZE : ℕ
WORD_SIZE = 4

-- the bindings of symbols
abbrev pub STB_LOCAL : ℕ
STB_LOCAL = 0

abbrev pub STB_GLOBAL : ℕ
STB_GLOBAL = 1

abbrev pub STB_WEAK : ℕ
STB_WEAK = 2

-- the types of symbols
abbrev pub STT_NOTYPE : ℕ
STT_NOTYPE = 0

abbrev pub STT_OBJECT : ℕ
STT_OBJECT = 1

abbrev pub STT_FUNC : ℕ
STT_FUNC = 2

abbrev pub STT_COMMON : ℕ
STT_COMMON = 5

abbrev pub STT_TLS : ℕ
STT_TLS = 6

abbrev pub STT_GNU_IFUNC : ℕ
STT_GNU_IFUNC = 10

-- the visibilities of symbols
abbrev pub STV_DEFAULT : ℕ
STV_DEFAULT = 0

abbrev pub STV_INTERNAL : ℕ
STV_INTERNAL = 1

abbrev pub STV_HIDDEN : ℕ
STV_HIDDEN = 2

abbrev pub STV_PROTECTED : ℕ
STV_PROTECTED = 3

-- the section indices of symbols
abbrev pub SHN_UNDEF : ℕ
SHN_UNDEF = 0

abbrev pub SHN_ABS : ℕ
SHN_ABS = 0xfff1

abbrev pub SHN_COMMON : ℕ
SHN_COMMON = 0xfff2

-- the types of relocations
abbrev pub R_X86_64_NONE : ℕ
R_X86_64_NONE = 0

abbrev pub R_X86_64_64 : ℕ
R_X86_64_64 = 1

abbrev pub R_X86_64_GLOB_DAT : ℕ
R_X86_64_GLOB_DAT = 6

abbrev pub R_X86_64_JUMP_SLOT : ℕ
R_X86_64_JUMP_SLOT = 7

abbrev pub R_X86_64_RELATIVE : ℕ
R_X86_64_RELATIVE = 8
