use Rattle.std.proofs.Common.{◌≡◌, List, length, take}
use Rattle.elf_dynamic.specs.Strings.{needed}
use Rattle.store.specs.Stands.{HaveOwnNames}
use Rattle.store.specs.declared.placed_entry.PlacedEntry.{PlacedEntry}
use Rattle.store.specs.NameOrder.{entry_names}
use Rattle.registry.specs.inside.Walked.{Grows, more_needs}
use Rattle.registry.proofs.needs.Needs.add_each.Given as goal

abbrev pub invariant-loop-name : goal.invariant-loop-name
invariant-loop-name g l =
    ((entries : List PlacedEntry) → g.N.Named.has l.files entries → HaveOwnNames entries
    → l.self ≡ more_needs (entry_names entries) l.fn.self l.needer (take (length l.yielded) (needed l.object)))
    × Grows l.fn.self l.self
