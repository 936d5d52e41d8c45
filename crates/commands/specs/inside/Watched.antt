-- The steps of a registry with binders, with the greatest status of the replies.
use Rattle.std.specs.Prelude.{◌≡◌}
use Rattle.binders.specs.Events.{Happening}
use Rattle.binders.specs.declared.event.EventReply.{EventReply}
use Rattle.commands.specs.Status.{greatest, event_status}
use Rattle.commands.specs.declared.watched.Watched.{Watched}

-- a step of the registry with binders, with the greatest status so far
abbrev pub WatchedStep : {G : Type 0} → (G → Happening → EventReply → G → Type 0) → Watched G → Happening → EventReply → Watched G → Type 0
WatchedStep step old happening reply new = step old.binders happening reply new.binders × (new.worst ≡ greatest old.worst (event_status reply))
