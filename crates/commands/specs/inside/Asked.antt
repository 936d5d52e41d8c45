-- The event of a line that the code has read.
use Rattle.binders.specs.Events.{Happening, apply, begin, advance, cancel}
use Rattle.scripts.specs.Asked.{request_asked}
use Rattle.commands.specs.declared.asked.Asked.{Asked}
use Rattle.commands.specs.declared.asked.Asked.TheVariants as asked

abbrev pub happening_asked : Asked → Happening
happening_asked (asked.Apply command) = apply (request_asked command)
happening_asked (asked.Begin program base) = begin program.items base
happening_asked (asked.Advance slot) = advance slot
happening_asked (asked.Cancel slot) = cancel slot
