use Rattle.std.proofs.Common.{rules, sym, ap, ◌∙◌, arith}
use Rattle.std.proofs.lemmas.List.{get_or_past}
use Rattle.store.specs.NameOrder.{entry_names, name_at}
use Rattle.store.specs.Stands.{name_of}
use Rattle.store.specs.declared.placed_entry.PlacedEntry.{PlacedEntry}
use Rattle.store.proofs.NameIndex.{entry_name, entry_count}
use Rattle.store.proofs.name_index.name_at.Goals as goal

pub name_bytes-requires : goal.name_bytes-requires
name_bytes-requires c = search rules

pub returns-in-Some : goal.returns-in-Some
returns-in-Some c =
    let entries = c.args.entries.now in
    let placed = c.in-Some.placed.now in
    let read = c.in-Some.ensures.lookup in
    c.name_bytes.ensures ∙ ap (λ (put : PlacedEntry). name_of put.entry) read.1 ∙ sym (entry_name entries c.from.result placed read.3.0) ∙ ap (name_at (entry_names entries)) c.from.ensures

pub returns-in-None : goal.returns-in-None
returns-in-None c =
    let entries = c.args.entries.now in
    sym (get_or_past (entry_names entries) c.args.position _ (omega (arith, c.in-None.ensures.lookup.3, c.from.ensures, entry_count entries)))
