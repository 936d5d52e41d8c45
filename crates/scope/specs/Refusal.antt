-- The reasons why there is no load order (own).
use Rattle.std.specs.Prelude.{◌≡◌, Option, Some}
use Rattle.scope.specs.LoadOrder.{Need}
use Rattle.scope.specs.declared.refusal.OrderRefusal.{OrderRefusal}
use Rattle.scope.specs.declared.refusal.OrderRefusal.TheVariants.{Missing, OutOfMemory}

-- the refusal has the first needed name that isn't installed and the name of the object that needs
-- it, or it is OutOfMemory
abbrev pub IsRefusal : Option Need → OrderRefusal → Type 0
IsRefusal first (Missing needer name) = first ≡ Some (record { needer = needer; name = name })
IsRefusal first OutOfMemory = Unit {0}
