use Rattle.std.proofs.Common.{◌∙◌}
use Rattle.store.specs.inside.Edit.{no_entry}
use Rattle.store.proofs.Drafts.{found_is}
use Rattle.store.proofs.draft.has_entry.Goals as goal

pub returns-in-Some : goal.returns-in-Some
returns-in-Some c =
    found_is c.args.entries.now c.args.placed.now c.in-Some.position no_entry c.in-Some.ensures.some.0 (c.in-Some.ensures.some.1 no_entry ∙ c.name_bytes.ensures) c.requires.names c.requires.same
