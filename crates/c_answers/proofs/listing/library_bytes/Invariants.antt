use Rattle.std.proofs.Common.{◌≡◌, ◌-◌, ◌^◌, length, min, take}
use Rattle.c_answers.specs.Listing.{names_in_row}
use Rattle.c_answers.proofs.listing.library_bytes.Given as goal

abbrev pub invariant-loop-name : goal.invariant-loop-name
invariant-loop-name l = l.bytes ≡ min (length (names_in_row (take l.name-index l.libraries))) (2 ^ 64 - 1)
