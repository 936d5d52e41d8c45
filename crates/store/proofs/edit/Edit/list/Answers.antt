use Rattle.std.proofs.Common.{subst, arith}
use Rattle.store.specs.inside.Edit.{CanEditSectors}
use Rattle.store.proofs.edit.Edit.list.Goals as goal

pub push_reserved-requires : goal.push_reserved-requires
push_reserved-requires c = (subst (λ e. CanEditSectors e c.args.sectors.now) c.in-Append.is c.requires).memory

pub index_mut-requires : goal.index_mut-requires
index_mut-requires c = omega (arith, (subst (λ e. CanEditSectors e c.args.sectors.now) c.in-Replace.is c.requires).within)

pub remove-requires : goal.remove-requires
remove-requires c = omega (arith, (subst (λ e. CanEditSectors e c.args.sectors.now) c.in-Remove.is c.requires).within)
