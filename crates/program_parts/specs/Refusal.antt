-- The texts of refusals (own).
use Rattle.std.specs.Prelude.{ℕ, List, [], ◌++◌, codes}
use Rattle.std.specs.Fmt.{decimal}
use Rattle.elf_file.specs.declared.refusal.ObjectRefusal.{ObjectRefusal}
use Rattle.elf_file.specs.declared.refusal.ObjectRefusal.TheVariants.{TooShort, BadMagic, BadClass, BadData, BadVersion, BadOsAbi, BadType, BadMachine}
use Rattle.elf_file.specs.declared.refusal.ObjectRefusal.TheVariants.{BadHeaderSize, BadProgramHeaders, TlsSegment, BadSegment, TooLarge, SegmentOrder}
use Rattle.elf_file.specs.declared.refusal.ObjectRefusal.TheVariants.{BadDynamic, DuplicateTag, SymbolVersions, UnsupportedTag, NoHashTable, MissingTag}
use Rattle.elf_file.specs.declared.refusal.ObjectRefusal.TheVariants.{BadEntrySize, BadRange, BadString, CommonSymbol, TlsSymbol, IfuncSymbol}
use Rattle.elf_file.specs.declared.refusal.ObjectRefusal.TheVariants.{BadBinding, RelocationType, RelocationSymbol, RelocationPlace, BadSoname}
use Rattle.hash_check.specs.declared.file_refusal.FileRefusal.{FileRefusal}
use Rattle.hash_check.specs.declared.file_refusal.FileRefusal.TheVariants.{Object, DuplicateDefinition, BadHashTable}
use Rattle.image.specs.declared.refusal.BindRefusal.{BindRefusal}
use Rattle.image.specs.declared.refusal.BindRefusal.TheVariants as bind
use Rattle.text_output.specs.Name.{name_text}
use Rattle.store.specs.declared.refusal.StoreRefusal.{StoreRefusal}
use Rattle.store.specs.declared.refusal.StoreRefusal.TheVariants.{Device, Reopen, NotFormatted, AlreadyFormatted, Damaged, BadGeometry}
use Rattle.store.specs.declared.refusal.StoreRefusal.TheVariants.{Full, Fragmented, TooMany, GenerationEnd, OutOfMemory, OldFormat}

-- the number and the name of the refusal of an object
abbrev pub object_refusal_name : ObjectRefusal → List ℕ
object_refusal_name TooShort = codes "E1 TooShort"
object_refusal_name BadMagic = codes "E2 BadMagic"
object_refusal_name BadClass = codes "E3 BadClass"
object_refusal_name BadData = codes "E4 BadData"
object_refusal_name BadVersion = codes "E5 BadVersion"
object_refusal_name BadOsAbi = codes "E6 BadOsAbi"
object_refusal_name BadType = codes "E7 BadType"
object_refusal_name BadMachine = codes "E8 BadMachine"
object_refusal_name BadHeaderSize = codes "E9 BadHeaderSize"
object_refusal_name BadProgramHeaders = codes "E10 BadProgramHeaders"
object_refusal_name TlsSegment = codes "E11 TlsSegment"
object_refusal_name BadSegment = codes "E12 BadSegment"
object_refusal_name TooLarge = codes "E13 TooLarge"
object_refusal_name SegmentOrder = codes "E14 SegmentOrder"
object_refusal_name BadDynamic = codes "E15 BadDynamic"
object_refusal_name DuplicateTag = codes "E16 DuplicateTag"
object_refusal_name SymbolVersions = codes "E17 SymbolVersions"
object_refusal_name UnsupportedTag = codes "E18 UnsupportedTag"
object_refusal_name NoHashTable = codes "E19 NoHashTable"
object_refusal_name MissingTag = codes "E20 MissingTag"
object_refusal_name BadEntrySize = codes "E21 BadEntrySize"
object_refusal_name BadRange = codes "E22 BadRange"
object_refusal_name BadString = codes "E23 BadString"
object_refusal_name CommonSymbol = codes "E24 CommonSymbol"
object_refusal_name TlsSymbol = codes "E25 TlsSymbol"
object_refusal_name IfuncSymbol = codes "E26 IfuncSymbol"
object_refusal_name BadBinding = codes "E27 BadBinding"
object_refusal_name (RelocationType kind) = codes "E30 RelocationType"
object_refusal_name RelocationSymbol = codes "E31 RelocationSymbol"
object_refusal_name RelocationPlace = codes "E32 RelocationPlace"
object_refusal_name BadSoname = codes "E33 BadSoname"

-- the text after the name: the type, if the refusal is about a relocation's type
abbrev pub object_refusal_detail : ObjectRefusal → List ℕ
object_refusal_detail (RelocationType kind) = codes " " ++ decimal kind
object_refusal_detail refusal = []

-- the text of the refusal of a file: its number, its name, and the detail after the name
abbrev pub file_refusal_text : FileRefusal → List ℕ
file_refusal_text (Object refusal) = object_refusal_name refusal ++ object_refusal_detail refusal
file_refusal_text DuplicateDefinition = codes "E28 DuplicateDefinition"
file_refusal_text BadHashTable = codes "E29 BadHashTable"

-- the number and the name of the refusal of a disk
abbrev pub disk_refusal_name : StoreRefusal → List ℕ
disk_refusal_name Device = codes "S1 Device"
disk_refusal_name Reopen = codes "S2 Reopen"
disk_refusal_name NotFormatted = codes "S3 NotFormatted"
disk_refusal_name AlreadyFormatted = codes "S4 AlreadyFormatted"
disk_refusal_name Damaged = codes "S5 Damaged"
disk_refusal_name BadGeometry = codes "S6 BadGeometry"
disk_refusal_name Full = codes "S7 Full"
disk_refusal_name Fragmented = codes "S8 Fragmented"
disk_refusal_name TooMany = codes "S9 TooMany"
disk_refusal_name GenerationEnd = codes "S10 GenerationEnd"
disk_refusal_name OutOfMemory = codes "S11 OutOfMemory"
disk_refusal_name OldFormat = codes "S12 OldFormat"

-- the line of the refusal of a disk
abbrev pub disk_refusal_text : StoreRefusal → List ℕ
disk_refusal_text refusal = codes "refused " ++ disk_refusal_name refusal ++ codes "\n"

-- the line for refused memory
abbrev pub memory_text : List ℕ
memory_text = disk_refusal_text OutOfMemory

-- the line of a refusal: `head`; `first`, the name of an object; and `second`, the name that the object
-- lacks
abbrev pub named_text : List ℕ → List ℕ → List ℕ → List ℕ
named_text head first second = head ++ name_text first ++ codes " " ++ name_text second ++ codes "\n"

-- the line of the answer to a bind that is refused
abbrev pub refusal_text : BindRefusal → List ℕ
refusal_text (bind.Program refusal) = codes "refused B1 " ++ file_refusal_text refusal ++ codes "\n"
refusal_text bind.BadBase = codes "refused B2 BadBase\n"
refusal_text (bind.Missing needer name) = named_text (codes "refused B3 Missing ") needer name
refusal_text bind.NoRoom = codes "refused B4 NoRoom\n"
refusal_text (bind.Undefined object symbol) = named_text (codes "refused B5 Undefined ") object symbol
refusal_text bind.OutOfMemory = memory_text
