use Rattle.std.proofs.Common.{subst, arith}
use Rattle.store.specs.inside.Edit.{CanEdit, no_entry}
use Rattle.store.proofs.NameIndex.{replaced}
use Rattle.store.proofs.edit.Edit.enter.Goals as goal

pub name_bytes-requires : goal.name_bytes-requires
name_bytes-requires c = (subst (λ e. CanEdit e c.args.entries.now c.args.index.now.room) c.in-Append.is c.requires.edit).spelt

pub push_reserved-requires : goal.push_reserved-requires
push_reserved-requires c = (subst (λ e. CanEdit e c.args.entries.now c.args.index.now.room) c.in-Append.is c.requires.edit).memory

pub index_mut-requires : goal.index_mut-requires
index_mut-requires c = omega (arith, (subst (λ e. CanEdit e c.args.entries.now c.args.index.now.room) c.in-Replace.is c.requires.edit).within)

pub returns-in-Replace-clause-index : goal.returns-in-Replace-clause-index
returns-in-Replace-clause-index c =
    let can = subst (λ e. CanEdit e c.args.entries.now c.args.index.now.room) c.in-Replace.is c.requires.edit in
    replaced c.args.entries.now.items c.args.index.now c.in-Replace.position c.in-Replace.put no_entry c.requires.index can.within can.names
