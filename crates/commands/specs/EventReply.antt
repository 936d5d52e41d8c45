-- The text of the reply to an event (own).
use Rattle.std.specs.Prelude.{ℕ, List, ◌++◌, codes}
use Rattle.std.specs.Fmt.{decimal}
use Rattle.binders.specs.declared.event.EventReply.{EventReply}
use Rattle.binders.specs.declared.event.EventReply.TheVariants.{Replied, Slot, Going}
use Rattle.program_parts.specs.Reply.{reply_text}

-- the line with the slot of a new binder
abbrev pub slot_text : ℕ → List ℕ
slot_text slot = codes "slot " ++ decimal slot ++ codes "\n"

-- the text of the reply to an event
abbrev pub event_text : EventReply → List ℕ
event_text (Replied reply) = reply_text reply
event_text (Slot slot) = slot_text slot
event_text Going = codes "going\n"
