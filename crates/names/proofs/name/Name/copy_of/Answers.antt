use Rattle.std.proofs.Common.{rules}
use Rattle.names.proofs.name.Name.copy_of.Goals as goal

pub returns : goal.returns
returns c = c.in_ok-to_vec.ensures.items_if_clones_equal (search rules)
