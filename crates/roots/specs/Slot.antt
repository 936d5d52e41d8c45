-- The contents of one of the two root sectors.
use Rattle.std.specs.Prelude.{List, ℕ}
use Rattle.roots.specs.declared.root.Root.{Root}
use Rattle.roots.specs.declared.slot.Slot.{Slot}
use Rattle.roots.specs.declared.slot.Slot.TheVariants.{Empty, Good, Bad}
use Rattle.roots.specs.Root.{HasMagic, LacksMagic, SpellsRoot}

-- A sector without a magic is Empty. A sector with a magic is Good if it encodes a root, and Bad
-- otherwise.
abbrev pub IsSlotOf : List ℕ → Slot → Type 0
IsSlotOf bytes Empty = LacksMagic bytes
IsSlotOf bytes (Good root) = SpellsRoot bytes root
IsSlotOf bytes Bad = HasMagic bytes × ((root : Root) → SpellsRoot bytes root → ⊥)
