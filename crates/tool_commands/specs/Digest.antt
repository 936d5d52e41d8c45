-- The text of `digest`: lines in the format of GNU sha256sum (Coreutils manual, "md5sum
-- invocation").
use Rattle.std.specs.Prelude.{◌≡◌, ◌⊎◌, ℕ, ◌<◌, List, [], ◌∷◌, ◌++◌, length, slice_index_or, Bool, true, ◌==◌, ◌||◌, if◌then◌else◌, codes, Option, Some, None, is_some}
use Rattle.std.specs.List.{flat_map, list_all, list_any}
use Rattle.hex.specs.Hex.{encode_lower}
use Rattle.states.specs.State.{Library}
use Rattle.store.specs.Stands.{no_library}
use Rattle.contents.specs.Digest.{IsDigest}
use Rattle.program_parts.specs.declared.status.Status.{Status}
use Rattle.program_parts.specs.declared.status.Status.TheVariants.{Done, Refused}
use Rattle.tool_commands.specs.Check.{unreadable_line}
use Rattle.tool_commands.specs.Lines.{lines_of}
use Rattle.tool_parts.specs.Said.{said_line}
use Rattle.tool_parts.specs.Streams.{Streams, CannotWrite, IsSilent, Says, Tells}

-- the byte is a backslash, a newline or a carriage return
abbrev pub is_escaped : ℕ → Bool
is_escaped b = b == 92 || b == 10 || b == 13

-- the text for a byte of a name: the byte itself, or its escape, which begins with a backslash
abbrev pub escaped_byte : ℕ → List ℕ
escaped_byte b = if b == 92 then codes "\\\\" else if b == 10 then codes "\\n" else if b == 13 then codes "\\r" else b ∷ []

-- the beginning of a line: a backslash if a byte of the name is escaped, and otherwise no bytes
abbrev pub escape_mark : List ℕ → List ℕ
escape_mark name = if list_any is_escaped name then codes "\\" else []

-- the line for a name and its digest
abbrev pub sum_line : (name digest : List ℕ) → List ℕ
sum_line name digest = escape_mark name ++ encode_lower digest ++ codes "  " ++ flat_map escaped_byte name ++ codes "\n"

-- the line on the output for a library named `name`; empty if the library can't be read
abbrev pub digest_line : (name : List ℕ) → Option (List ℕ) → List ℕ
digest_line name (Some digest) = sum_line name digest
digest_line name None = []

-- the line on standard error for a library named `name`; empty if the library can be read
abbrev pub unread_line : (name : List ℕ) → Option (List ℕ) → List ℕ
unread_line name (Some digest) = []
unread_line name None = said_line (unreadable_line name)

-- the text on the output: the lines for all libraries with a digest
abbrev pub digests_text : List Library → List (Option (List ℕ)) → List ℕ
digests_text libraries digests = lines_of (λ l. digest_line l.name) libraries digests

-- the text on standard error: the lines for all libraries that can't be read
abbrev pub unread_text : List Library → List (Option (List ℕ)) → List ℕ
unread_text libraries digests = lines_of (λ l. unread_line l.name) libraries digests

-- There is one item for each library: the library's digest, or none if the library can't be read.
pub record AreDigests (libraries : List Library) (digests : List (Option (List ℕ))) : Type 0 where
  pub all : length digests ≡ length libraries
  pub each : (i : ℕ) → i < length libraries → (d : Option (List ℕ)) → IsDigest (slice_index_or libraries i no_library).bytes (slice_index_or digests i d)

-- each library could be read
abbrev pub are_read : List (Option (List ℕ)) → Bool
are_read digests = list_all is_some digests

-- the status of `digest`: Refused if a library can't be read, and Done otherwise
abbrev pub digest_status : List (Option (List ℕ)) → Status
digest_status digests = if are_read digests then Done else Refused

-- The lines for the digests were written, and standard error reports only the libraries that can't
-- be read; or the output failed.
abbrev pub TellsDigests : List Library → List (Option (List ℕ)) → Streams → Status → Type 0
TellsDigests libraries digests io status =
    ((status ≡ digest_status digests) × Tells io (digests_text libraries digests)
    × Says io (unread_text libraries digests) × (are_read digests ≡ true → IsSilent io))
    ⊎ CannotWrite io status
