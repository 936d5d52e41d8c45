-- The answers to the lines of an update (own).
use Rattle.std.specs.Prelude.{ℕ, List, codes}
use Rattle.std.specs.List.{flat_map}
use Rattle.requests.specs.declared.reply.Reply.{Reply}
use Rattle.requests.specs.declared.reply.Reply.TheVariants.{Done, Bound}
use Rattle.program_parts.specs.Reply.{command_refusal_text, reply_text}
use Rattle.scripts.specs.Line.{line_refusal_text}
use Rattle.scripts.specs.declared.line_refusal.LineRefusal.TheVariants as line
use Rattle.updates.specs.declared.answer.UpdateRefusal.{UpdateRefusal}
use Rattle.updates.specs.declared.answer.UpdateRefusal.TheVariants as update

-- the text of an answer to a line: `planned` for a change, because it isn't on the disk yet, and
-- `bound` for a bind, because the state of its image may never be on the disk
abbrev pub plan_text : Reply → List ℕ
plan_text Done = codes "planned\n"
plan_text (Bound image) = codes "bound\n"
plan_text reply = reply_text reply

-- the texts of the answers, one after the other
abbrev pub plan_texts : List Reply → List ℕ
plan_texts replies = flat_map plan_text replies

-- the text about a refused update
abbrev pub update_refusal_text : UpdateRefusal → List ℕ
update_refusal_text update.BadLine = line_refusal_text line.BadLine
update_refusal_text update.CutLine = line_refusal_text line.CutLine
update_refusal_text update.NoCommit = codes "refused L3 NoCommit\n"
update_refusal_text (update.Refused refusal) = command_refusal_text refusal
