-- The texts of replies that are written through the buffer of a line.
use Rattle.std.specs.Prelude.{ℕ, List, []}
use Rattle.requests.specs.declared.reply.Reply.{Reply}
use Rattle.requests.specs.declared.reply.Reply.TheVariants.{Bound}
use Rattle.program_parts.specs.Reply.{reply_text}

abbrev pub short_text : Reply → List ℕ
short_text (Bound image) = []
short_text reply = reply_text reply
