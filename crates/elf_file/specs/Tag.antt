-- The tags of the dynamic section that are read (gABI chapter 5).
use Rattle.std.specs.Prelude.{ℕ}
use Rattle.elf_file.specs.Constant.{DT_NEEDED, DT_PLTRELSZ, DT_HASH, DT_STRTAB, DT_SYMTAB, DT_RELA, DT_RELASZ, DT_RELAENT, DT_STRSZ, DT_SYMENT}
use Rattle.elf_file.specs.Constant.{DT_SONAME, DT_SYMBOLIC, DT_REL, DT_PLTREL, DT_JMPREL, DT_FLAGS, DT_RELR, DT_VERSYM, DT_VERDEF, DT_VERNEED}
use Rattle.elf_file.specs.declared.tag.Tag.{Tag}
use Rattle.elf_file.specs.declared.tag.Tag.TheVariants.{Needed, PltRelSize, Hash, StrTab, SymTab, Rela, RelaSize, RelaEntry, StrSize, SymEntry}
use Rattle.elf_file.specs.declared.tag.Tag.TheVariants.{SoName, Symbolic, Rel, PltRel, JmpRel, Flags, Relr, VerSym, VerDef, VerNeed}

-- the number of a tag
abbrev pub number_of : Tag → ℕ
number_of Needed = DT_NEEDED
number_of PltRelSize = DT_PLTRELSZ
number_of Hash = DT_HASH
number_of StrTab = DT_STRTAB
number_of SymTab = DT_SYMTAB
number_of Rela = DT_RELA
number_of RelaSize = DT_RELASZ
number_of RelaEntry = DT_RELAENT
number_of StrSize = DT_STRSZ
number_of SymEntry = DT_SYMENT
number_of SoName = DT_SONAME
number_of Symbolic = DT_SYMBOLIC
number_of Rel = DT_REL
number_of PltRel = DT_PLTREL
number_of JmpRel = DT_JMPREL
number_of Flags = DT_FLAGS
number_of Relr = DT_RELR
number_of VerSym = DT_VERSYM
number_of VerDef = DT_VERDEF
number_of VerNeed = DT_VERNEED
