use Rattle.std.proofs.Common.{rules}
use Rattle.hash_check.specs.Export.{exports}
use Rattle.hash_check.proofs.export.exports.Goals as goal

pub returns-then-is_function_or_object : goal.returns-then-is_function_or_object
unfolding exports
returns-then-is_function_or_object c = search rules
