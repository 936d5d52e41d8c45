-- The text of a reply of a registry (own).
use Rattle.std.specs.Prelude.{ℕ, List, ◌++◌, codes}
use Rattle.std.specs.List.{flat_map}
use Rattle.std.specs.Fmt.{decimal}
use Rattle.text_output.specs.Name.{name_text}
use Rattle.requests.specs.Table.{Listed}
use Rattle.requests.specs.declared.refusal.Refusal.{Refusal}
use Rattle.requests.specs.declared.refusal.Refusal.TheVariants.{Object, AlreadyInstalled, NotInstalled, InPreloads, RepeatedPreload}
use Rattle.requests.specs.declared.refusal.Refusal.TheVariants.{TooManyPreloads, NoSlot, NoSuchBinder, Device, Reopen, Damaged}
use Rattle.requests.specs.declared.refusal.Refusal.TheVariants.{Full, Fragmented, TooMany, GenerationEnd, OutOfMemory, Bind}
use Rattle.requests.specs.declared.reply.Reply.{Reply}
use Rattle.requests.specs.declared.reply.Reply.TheVariants.{Done, Listing, Bound, Refused}
use Rattle.image.specs.Text.{image_text}
use Rattle.store.specs.declared.refusal.StoreRefusal.TheVariants as disk
use Rattle.program_parts.specs.Refusal.{disk_refusal_text, file_refusal_text, refusal_text}

-- the line of a refusal; `said` is the number and the name of the refusal, and the text after them,
-- if there is any
abbrev pub refused_line : List ℕ → List ℕ
refused_line said = codes "refused " ++ said ++ codes "\n"

-- The line of a command's refusal. After C1, it has the refusal of the file. A refused bind has the
-- line `refusal_text`, and a refusal of the disk has the line `disk_refusal_text`.
abbrev pub command_refusal_text : Refusal → List ℕ
command_refusal_text (Object refusal) = refused_line (codes "C1 " ++ file_refusal_text refusal)
command_refusal_text AlreadyInstalled = refused_line (codes "C2 AlreadyInstalled")
command_refusal_text NotInstalled = refused_line (codes "C3 NotInstalled")
command_refusal_text InPreloads = refused_line (codes "C4 InPreloads")
command_refusal_text RepeatedPreload = refused_line (codes "C5 RepeatedPreload")
command_refusal_text TooManyPreloads = refused_line (codes "C6 TooManyPreloads")
command_refusal_text NoSlot = refused_line (codes "C7 NoSlot")
command_refusal_text NoSuchBinder = refused_line (codes "C8 NoSuchBinder")
command_refusal_text (Bind refusal) = refusal_text refusal
command_refusal_text Device = disk_refusal_text disk.Device
command_refusal_text Reopen = disk_refusal_text disk.Reopen
command_refusal_text Damaged = disk_refusal_text disk.Damaged
command_refusal_text Full = disk_refusal_text disk.Full
command_refusal_text Fragmented = disk_refusal_text disk.Fragmented
command_refusal_text TooMany = disk_refusal_text disk.TooMany
command_refusal_text GenerationEnd = disk_refusal_text disk.GenerationEnd
command_refusal_text OutOfMemory = disk_refusal_text disk.OutOfMemory

-- the line for a library: its name, and the length of its file
abbrev pub library_text : List ℕ × ℕ → List ℕ
library_text e = codes "library " ++ name_text e.0 ++ codes " " ++ decimal e.1 ++ codes "\n"

-- the line for a preload
abbrev pub preload_text : List ℕ → List ℕ
preload_text name = codes "preload " ++ name_text name ++ codes "\n"

-- the lines for the libraries and the preloads, and the line `end`
abbrev pub listing_text : Listed → List ℕ
listing_text l = flat_map library_text l.libraries ++ flat_map preload_text l.preloads ++ codes "end\n"

-- the text of a reply
abbrev pub reply_text : Reply → List ℕ
reply_text Done = codes "ok\n"
reply_text (Listing listing) = listing_text listing
reply_text (Bound image) = image_text image
reply_text (Refused refusal) = command_refusal_text refusal
