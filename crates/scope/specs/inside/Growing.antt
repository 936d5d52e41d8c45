-- A queue to which several places are added. To understand the contracts of public calls, you don't
-- need this definition.
use Rattle.std.specs.Prelude.{ℕ, List, fold}
use Rattle.scope.specs.Queue.{grown_by}

-- a queue after several places were added, one after another
unfoldable pub grown : List ℕ → List ℕ → List ℕ
grown ps qs = fold grown_by ps qs
