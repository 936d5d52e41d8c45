-- A line that has none of the forms.
use Rattle.std.proofs.Common.{◌≡◌, ◌∙◌, ℕ, List, codes, Bool, true, false, cond, None, refl}
use Rattle.std.specs.Prelude.{bytes_eq}
use Rattle.scripts.specs.Asked.{request_meaning}
use Rattle.scripts.specs.Words.{has_front}

passed : {A : Type 0} (b : Bool) (x y : A) → b ≡ false → y ≡ cond b x y
passed false x y is = refl
passed true x y is = cc

pub asks_none : (line : List ℕ) → has_front (codes "install ") line ≡ false → has_front (codes "replace ") line ≡ false → has_front (codes "remove ") line ≡ false
    → has_front (codes "preload") line ≡ false → has_front (codes "bind ") line ≡ false → bytes_eq line (codes "list") ≡ false → None ≡ request_meaning line
asks_none line installs replaces removes preloads binds lists =
    passed (bytes_eq line (codes "list")) _ _ lists ∙ passed (has_front (codes "bind ") line) _ _ binds ∙ passed (has_front (codes "preload") line) _ _ preloads
    ∙ passed (has_front (codes "remove ") line) _ _ removes ∙ passed (has_front (codes "replace ") line) _ _ replaces ∙ passed (has_front (codes "install ") line) _ _ installs
