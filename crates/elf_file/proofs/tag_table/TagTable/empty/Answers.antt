use Rattle.std.proofs.Common.{◌≡◌, ℕ, ◌<◌, arith, Some}
use Rattle.std.proofs.lemmas.Bool.Decides.{nat_tests}
use Rattle.std.proofs.lemmas.List.{get_or-replicate}
use Rattle.elf_file.specs.inside.Tags.{place_of}
use Rattle.elf_file.specs.declared.tag_table.Slot.{Slot}
use Rattle.elf_file.proofs.tag_table.TagTable.empty.Goals as goal

place-within : (n k : ℕ) → place_of n ≡ Some k → k < 20
place-within n k at = grind (arith, nat_tests)

absent : Slot
absent = record { count = 0; value = 0 }

pub returns : goal.returns
unfolding absent
returns c = λ n k d at. get_or-replicate 20 k absent d (place-within n k at)
