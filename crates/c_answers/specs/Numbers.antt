-- The numbers of statuses and of refusals (own).
use Rattle.std.specs.Prelude.{ℕ}
use Rattle.elf_file.specs.declared.refusal.ObjectRefusal.{ObjectRefusal}
use Rattle.elf_file.specs.declared.refusal.ObjectRefusal.TheVariants as object
use Rattle.hash_check.specs.declared.file_refusal.FileRefusal.{FileRefusal}
use Rattle.hash_check.specs.declared.file_refusal.FileRefusal.TheVariants as file
use Rattle.image.specs.declared.refusal.BindRefusal.{BindRefusal}
use Rattle.image.specs.declared.refusal.BindRefusal.TheVariants as bind
use Rattle.store.specs.declared.refusal.StoreRefusal.{StoreRefusal}
use Rattle.store.specs.declared.refusal.StoreRefusal.TheVariants as store
use Rattle.requests.specs.declared.refusal.Refusal.{Refusal}
use Rattle.requests.specs.declared.refusal.Refusal.TheVariants as refusal
use Rattle.requests.specs.declared.reply.Reply.{Reply}
use Rattle.requests.specs.declared.reply.Reply.TheVariants as reply

-- the status of a call that succeeded
abbrev pub done : ℕ
done = 0

-- the status of a call with a buffer that is too small
abbrev pub no_room : ℕ
no_room = 1

-- the status of a call with an argument that doesn't have the required form
abbrev pub bad_argument : ℕ
bad_argument = 2

-- the status of S11 (OutOfMemory)
abbrev pub out_of_memory : ℕ
out_of_memory = 311

-- The status of a refusal to open, format or upgrade: 300 plus the refusal's number. No call over bytes
-- returns 301.
abbrev pub store_number : StoreRefusal → ℕ
store_number store.Device = 301
store_number store.Reopen = 302
store_number store.NotFormatted = 303
store_number store.AlreadyFormatted = 304
store_number store.Damaged = 305
store_number store.BadGeometry = 306
store_number store.Full = 307
store_number store.Fragmented = 308
store_number store.TooMany = 309
store_number store.GenerationEnd = 310
store_number store.OutOfMemory = 311
store_number store.OldFormat = 312

-- the status of a refused bind: 100 plus the refusal's number, or that of S11 if memory was refused
abbrev pub bind_number : BindRefusal → ℕ
bind_number (bind.Program refusal) = 101
bind_number bind.BadBase = 102
bind_number (bind.Missing needer name) = 103
bind_number bind.NoRoom = 104
bind_number (bind.Undefined object symbol) = 105
bind_number bind.OutOfMemory = 311

-- The status of a refusal: 200 plus the refusal's number for a refusal of a command, `bind_number`
-- for a refusal of a bind, and 300 plus the refusal's number for a refusal of a disk.
abbrev pub refusal_number : Refusal → ℕ
refusal_number (refusal.Object why) = 201
refusal_number refusal.AlreadyInstalled = 202
refusal_number refusal.NotInstalled = 203
refusal_number refusal.InPreloads = 204
refusal_number refusal.RepeatedPreload = 205
refusal_number refusal.TooManyPreloads = 206
refusal_number refusal.NoSlot = 207
refusal_number refusal.NoSuchBinder = 208
refusal_number (refusal.Bind why) = bind_number why
refusal_number refusal.Device = 301
refusal_number refusal.Reopen = 302
refusal_number refusal.Damaged = 305
refusal_number refusal.Full = 307
refusal_number refusal.Fragmented = 308
refusal_number refusal.TooMany = 309
refusal_number refusal.GenerationEnd = 310
refusal_number refusal.OutOfMemory = 311

-- the status of a reply: the status of the refusal, or 0 if the reply isn't a refusal
abbrev pub reply_number : Reply → ℕ
reply_number (reply.Refused why) = refusal_number why
reply_number other = done

-- the number n of the test En that refuses an object
abbrev pub object_number : ObjectRefusal → ℕ
object_number object.TooShort = 1
object_number object.BadMagic = 2
object_number object.BadClass = 3
object_number object.BadData = 4
object_number object.BadVersion = 5
object_number object.BadOsAbi = 6
object_number object.BadType = 7
object_number object.BadMachine = 8
object_number object.BadHeaderSize = 9
object_number object.BadProgramHeaders = 10
object_number object.TlsSegment = 11
object_number object.BadSegment = 12
object_number object.TooLarge = 13
object_number object.SegmentOrder = 14
object_number object.BadDynamic = 15
object_number object.DuplicateTag = 16
object_number object.SymbolVersions = 17
object_number object.UnsupportedTag = 18
object_number object.NoHashTable = 19
object_number object.MissingTag = 20
object_number object.BadEntrySize = 21
object_number object.BadRange = 22
object_number object.BadString = 23
object_number object.CommonSymbol = 24
object_number object.TlsSymbol = 25
object_number object.IfuncSymbol = 26
object_number object.BadBinding = 27
object_number (object.RelocationType kind) = 30
object_number object.RelocationSymbol = 31
object_number object.RelocationPlace = 32
object_number object.BadSoname = 33

-- the number n of the test En that refuses a file
abbrev pub file_number : FileRefusal → ℕ
file_number (file.Object why) = object_number why
file_number file.DuplicateDefinition = 28
file_number file.BadHashTable = 29

-- the number n of the test En that refuses the file if the refusal is about a refused file, and
-- otherwise 0
abbrev pub file_number_of : Refusal → ℕ
file_number_of (refusal.Object why) = file_number why
file_number_of (refusal.Bind (bind.Program why)) = file_number why
file_number_of other = 0

-- the number n of the test En that refuses the file if the reply is a refusal about a refused file,
-- and otherwise 0
abbrev pub file_number_in : Reply → ℕ
file_number_in (reply.Refused why) = file_number_of why
file_number_in other = 0
