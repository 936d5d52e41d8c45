-- The lines for the digests of libraries on each of the two streams.
use Rattle.std.specs.Prelude.{ℕ, List, Option}
use Rattle.states.specs.State.{Library}
use Rattle.tool_commands.specs.Digest.{digest_line, unread_line}
use Rattle.tool_commands.specs.Lines.{lines_of}
use Rattle.tool_commands.specs.declared.stream.Stream.{Stream}
use Rattle.tool_commands.specs.declared.stream.Stream.TheVariants.{Output, Errors}

-- the line for a library named `name` on the stream
abbrev pub stream_line : Stream → (name : List ℕ) → Option (List ℕ) → List ℕ
stream_line Output = digest_line
stream_line Errors = unread_line

-- the lines for all libraries on the stream
abbrev pub stream_text : Stream → List Library → List (Option (List ℕ)) → List ℕ
stream_text stream libraries digests = lines_of (λ l. stream_line stream l.name) libraries digests
