-- The number of calls of the disk that a command makes (own).
use Rattle.std.specs.Prelude.{ℕ, ◌+◌, ◌-◌, length}
use Rattle.std.specs.Int.{div_ceil}
use Rattle.sector_disk.specs.Disk.{sector_bytes}
use Rattle.states.specs.Cost.{catalogues_for}
use Rattle.states.specs.State.{State}
use Rattle.requests.specs.Request.{Request, install, replace, remove, set_preloads, bind, list}
use Rattle.requests.specs.declared.reply.Reply.{Reply}
use Rattle.requests.specs.declared.reply.Reply.TheVariants.{Refused}
use Rattle.registry.specs.Binding.{bind_sectors}

-- The number of calls that an accepted command makes. An install or a replacement makes one for
-- each sector of the file, one for each catalogue of the new list, and four more: for the entry,
-- for the root, and two syncs. A removal makes one for each catalogue, and three more: for the
-- root, and two syncs. Setting the preloads makes two. A bind makes one for each sector that it
-- reads.
abbrev pub calls_of : State → Request → ℕ
calls_of s (install bytes) = div_ceil (length bytes) sector_bytes + catalogues_for (length s.libraries + 1) + 4
calls_of s (replace bytes) = div_ceil (length bytes) sector_bytes + catalogues_for (length s.libraries) + 4
calls_of s (remove name) = catalogues_for (length s.libraries - 1) + 3
calls_of s (set_preloads names) = 2
calls_of s (bind program base) = bind_sectors s program
calls_of s list = 0

-- P holds if the command was accepted
abbrev pub IfAccepted : Reply → Type 0 → Type 0
IfAccepted (Refused refusal) P = Unit {0}
IfAccepted answer P = P
