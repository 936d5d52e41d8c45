-- The possible ends of a form on any disk, honest or not: the form writes a text of its own, and
-- exits with the status for this text (own).
use Rattle.std.specs.Prelude.{◌≡◌, ◌≢◌, ◌⊎◌, ◌<◌, ℕ, List, ◌++◌, length, codes, All, Option, count_by, is_none}
use Rattle.std.specs.List.{flat_map}
use Rattle.sector_disk.specs.Disk.{DiskFacts}
use Rattle.states.specs.State.{Library}
use Rattle.contents.specs.Digest.{IsDigestOfSome}
use Rattle.contents.specs.Finding.{is_unreadable}
use Rattle.contents.specs.declared.finding.Finding.{Finding}
use Rattle.contents.specs.declared.finding.Finding.TheVariants.{Sound, Unreadable}
use Rattle.contents.specs.declared.info.Info.{Info}
use Rattle.program_parts.specs.declared.status.Status.{Status}
use Rattle.program_parts.specs.declared.status.Status.TheVariants.{Done, Refused, Failed, NoMemory}
use Rattle.tool_commands.specs.Check.{HaveFailed, check_text, check_status, finding_line}
use Rattle.tool_commands.specs.Digest.{TellsDigests}
use Rattle.tool_commands.specs.Dump.{cut_status, install_text, last_text}
use Rattle.tool_commands.specs.Form.{Question, info, check, digest, file, dump}
use Rattle.tool_commands.specs.Info.{info_text}
use Rattle.tool_parts.specs.Said.{device_line, memory_line, said_line}
use Rattle.tool_commands.specs.Said.{not_installed_line}
use Rattle.tool_parts.specs.Streams.{Streams, CannotWrite, IsSilent, Says, SaysOnly, Tells, TellsOnly}
use Rattle.tool_commands.specs.declared.form.Purpose.{Purpose}

-- `info`: the lines for some numbers are written, and nothing else
abbrev pub InfoTells : Streams → Status → Type 0
InfoTells io status = (told : Info)
    × TellsOnly Done (info_text told.sectors told.generation told.libraries told.preloads told.unused.sectors told.unused.free told.unused.runs told.unused.largest) io status

-- The forms read byte strings. Their calls changed the disk's facts from `old` to `new`.
module _ (old new : DiskFacts) where
  -- `check`: the findings for some libraries are written, and at least one call failed for each
  -- library that can't be read; or memory was refused
  abbrev pub CheckTells : Streams → Status → Type 0
  CheckTells io status =
      ((libraries : List Library) × (findings : List Finding) × (length findings ≡ length libraries) × HaveFailed old new (count_by is_unreadable findings)
      × TellsOnly (check_status findings) (check_text libraries findings) io status)
      ⊎ SaysOnly NoMemory memory_line io status

  -- `digest`: the digests of some bytes are written with the names of some libraries, and at least
  -- one call failed for each library that can't be read; or memory was refused
  abbrev pub DigestTells : Streams → Status → Type 0
  DigestTells io status =
      ((libraries : List Library) × (digests : List (Option (List ℕ))) × (length digests ≡ length libraries) × All IsDigestOfSome digests
      × HaveFailed old new (count_by is_none digests) × TellsDigests libraries digests io status)
      ⊎ SaysOnly NoMemory memory_line io status

  -- a call failed, so that the bytes of a library can't be read; or memory was refused
  abbrev pub IsUnread : Streams → Status → Type 0
  IsUnread io status = ((old.failures < new.failures) × SaysOnly Failed device_line io status) ⊎ SaysOnly NoMemory memory_line io status

  -- `file`: some bytes are written; or the library isn't installed; or its bytes can't be read
  abbrev pub FileTells : Streams → Status → Type 0
  FileTells io status =
      ((bytes : List ℕ) × TellsOnly Done bytes io status)
      ⊎ (SaysOnly Refused not_installed_line io status ⊎ IsUnread io status)

  -- Standard error reports why a script is cut: a library can't be read because a call failed, or a
  -- file isn't a library with its entry's name, or memory was refused.
  abbrev pub IsCut : Streams → Status → Type 0
  IsCut io status =
      ((finding : Finding) × (name : List ℕ) × (size : ℕ) × (finding ≢ Sound) × (finding ≡ Unreadable → old.failures < new.failures)
      × (status ≡ cut_status finding) × Says io (said_line (finding_line name size finding)))
      ⊎ ((status ≡ NoMemory) × Says io memory_line)

  -- `dump`: the whole script for some libraries, some preloads and this purpose is written; or a
  -- cut script for some libraries is written; or the output failed
  abbrev pub DumpTells : Purpose → Streams → Status → Type 0
  DumpTells purpose io status =
      ((libraries : List Library) × (preloads : List (List ℕ)) × (status ≡ Done)
      × Tells io (flat_map install_text libraries ++ last_text purpose preloads) × IsSilent io)
      ⊎ (((libraries : List Library) × IsCut io status × Tells io (flat_map install_text libraries ++ codes "cut"))
      ⊎ CannotWrite io status)

-- the question is answered with a text about the disk, and the calls changed the disk's facts from
-- `old` to `new`
abbrev pub FormTells : (old new : DiskFacts) → Question → Streams → Status → Type 0
FormTells old new info io status = InfoTells io status
FormTells old new check io status = CheckTells old new io status
FormTells old new digest io status = DigestTells old new io status
FormTells old new (file name) io status = FileTells old new io status
FormTells old new (dump purpose) io status = DumpTells old new purpose io status
