use Rattle.std.proofs.Common.{◌≡◌, [], None, All, subst, ◌∙◌}
use Rattle.binders.specs.Slotted.{HoldAlone, Slotted}
use Rattle.binders.proofs.HeldBy.{held_empty, held_nobody}
use Rattle.binders.proofs.binders.Binders.holds_are_sound.Goals as goal

pub returns-clause-empty : goal.returns-clause-empty
returns-clause-empty g c =
    subst (λ (k : Slotted g.row.D.Denot). HoldAlone k → All (λ slot. slot ≡ None) k.slots → k.registry.held ≡ []) c.self.view_is
    (λ alone none. held_empty c.self.inside.registry.held c.holds_are_sound.ensures.holders (λ sector. alone sector ∙ held_nobody c.self.inside.slots none sector))
