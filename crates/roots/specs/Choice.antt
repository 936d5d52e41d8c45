-- The current root: the choice between the two slots, and the condition on the two sectors.
use Rattle.std.specs.Prelude.{◌≡◌, ◌⊎◌, ℕ, ◌+◌, ◌%◌, List, Bool, true, false}
use Rattle.std.specs.Prelude.{Result, Ok, Err, ◌&&◌, ◌==◌, nat_lt, if◌then◌else◌}
use Rattle.std.specs.Int.{abs_diff}
use Rattle.extents.specs.Limits.{root_sectors}
use Rattle.roots.specs.declared.root.Root.{Root}
use Rattle.roots.specs.declared.version.Version.{Version}
use Rattle.roots.specs.declared.version.Version.TheVariants.{One, Two}
use Rattle.roots.specs.declared.slot.Slot.{Slot}
use Rattle.roots.specs.declared.slot.Slot.TheVariants.{Empty, Good}
use Rattle.roots.specs.declared.choice.ChooseRefusal.{ChooseRefusal}
use Rattle.roots.specs.declared.choice.ChooseRefusal.TheVariants.{NotFormatted, Damaged}
use Rattle.roots.specs.Root.{version_of, LacksMagic, SpellsRoot}

-- the root sector for a generation: 0 for even generations, 1 for odd ones
abbrev pub slot_of : ℕ → ℕ
slot_of generation = generation % root_sectors

-- the generation `even` belongs to slot 0 and `odd` belongs to slot 1, and they differ by one
abbrev pub are_neighbours : ℕ → ℕ → Bool
are_neighbours even odd = slot_of even == 0 && slot_of odd == 1 && abs_diff even odd == 1

-- the root of the greater generation
abbrev pub later : Root → Root → Root
later a b = if nat_lt a.generation b.generation then b else a

-- the root of the lesser generation
abbrev pub earlier : Root → Root → Root
earlier a b = if nat_lt a.generation b.generation then a else b

-- a root of version `newer` may follow a root of version `older`: only version 1 doesn't follow
-- version 2
abbrev pub keeps_version : Version → Version → Bool
keeps_version Two One = false
keeps_version older newer = true

-- the two roots, each in its sector, are one commit apart, and the version of the later root may
-- follow that of the earlier one
abbrev pub are_in_row : Root → Root → Bool
are_in_row even odd =
    are_neighbours even.generation odd.generation && keeps_version (version_of (earlier even odd)) (version_of (later even odd))

-- the choice of the current root, for each pair of slots
abbrev pub chosen : Slot → Slot → Result Root ChooseRefusal
chosen (Good even) (Good odd) = if are_in_row even odd then Ok (later even odd) else Err Damaged
chosen (Good root) Empty = if root.generation == 0 then Ok root else Err Damaged
chosen Empty Empty = Err NotFormatted
chosen slot0 slot1 = Err Damaged

-- an even and an odd generation that are one commit apart
pub record AreSuccessive (even odd : ℕ) : Type 0 where
  pub parity0 : slot_of even ≡ 0
  pub parity1 : slot_of odd ≡ 1
  pub apart : (odd ≡ even + 1) ⊎ (even ≡ odd + 1)

-- the newer root is of version 1 only if the older root is of version 1
abbrev pub KeepsVersion : Root → Root → Type 0
KeepsVersion older newer = version_of newer ≡ One → version_of older ≡ One

-- `root` is current in sectors 0 and 1: it has generation 0, and the other sector has no magic; or
-- it is the later of two roots that are one commit apart
abbrev pub IsCurrent : List ℕ → List ℕ → Root → Type 0
IsCurrent sector0 sector1 root =
    (SpellsRoot sector0 root × (root.generation ≡ 0) × LacksMagic sector1)
    ⊎ ((even : Root) × (odd : Root) × SpellsRoot sector0 even × SpellsRoot sector1 odd
    × AreSuccessive even.generation odd.generation × KeepsVersion (earlier even odd) (later even odd) × (root ≡ later even odd))
