use Rattle.std.proofs.Common.{sym}
use Rattle.executable.proofs.Notes.{found-whole}
use Rattle.executable.proofs.note.notes_of.Goals as goal

pub notes_by-requires-clause-within : goal.notes_by-requires-clause-within
notes_by-requires-clause-within c = found-whole c.section_memory-headers.result c.args.object.now.addresses.header_count c.in-Some.i (sym c.in-Some.ensures.found)
