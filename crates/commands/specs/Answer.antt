-- The answers to the lines of a script, and their texts (own).
use Rattle.std.specs.Prelude.{◌≡◌, ℕ, List, Some, None, Bool, true, false, ◌&&◌, ◌||◌, not}
use Rattle.std.specs.List.{flat_map}
use Rattle.requests.specs.declared.refusal.Refusal.TheVariants.{Device, Reopen}
use Rattle.requests.specs.declared.reply.Reply.TheVariants.{Refused}
use Rattle.binders.specs.Events.{Happening}
use Rattle.binders.specs.declared.event.EventReply.{EventReply}
use Rattle.binders.specs.declared.event.EventReply.TheVariants as event_reply
use Rattle.scripts.specs.Line.{line_refusal_text}
use Rattle.scripts.specs.declared.line_refusal.LineRefusal.TheVariants as refusal
use Rattle.commands.specs.EventReply.{event_text}
use Rattle.commands.specs.Line.{is_no_change, meaning}
use Rattle.commands.specs.declared.answer.Answer.{Answer}
use Rattle.commands.specs.declared.answer.Answer.TheVariants.{Replied, BadLine, CutLine}

-- The answer to a line is the reply to the event that the line requests. A line that has none of
-- the forms is answered with BadLine, and changes nothing.
abbrev pub LineStep : {S : Type 0} → (S → Happening → EventReply → S → Type 0) → S → List ℕ → Answer → S → Type 0
LineStep step s line (Replied reply) s' = (happening : Happening) × (meaning line ≡ Some happening) × step s happening reply s'
LineStep step s line BadLine s' = (meaning line ≡ None) × (s' ≡ s)
LineStep step s line CutLine s' = ⊥

-- the text that is written for an answer
abbrev pub answer_text : Answer → List ℕ
answer_text (Replied reply) = event_text reply
answer_text BadLine = line_refusal_text refusal.BadLine
answer_text CutLine = line_refusal_text refusal.CutLine

-- an answer is counted as a refusal
abbrev pub is_refused : Answer → Bool
is_refused (Replied (event_reply.Replied (Refused refusal))) = true
is_refused (Replied reply) = false
is_refused answer = true

-- an answer refuses with S1 or S2: this call of the disk or an earlier one failed
abbrev pub is_failure : Answer → Bool
is_failure (Replied (event_reply.Replied (Refused Device))) = true
is_failure (Replied (event_reply.Replied (Refused Reopen))) = true
is_failure answer = false

-- the answer to a line may be sent later: it is neither S1 nor S2, and the line was refused or
-- requests no change
abbrev pub may_wait : List ℕ → Answer → Bool
may_wait line answer = not (is_failure answer) && (is_refused answer || is_no_change (meaning line))

-- the answer to a line may be sent later, together with others
abbrev pub MayWait : List ℕ → Answer → Type 0
MayWait line answer = may_wait line answer ≡ true

-- the text that is written for answers
abbrev pub output : List Answer → List ℕ
output answers = flat_map answer_text answers
