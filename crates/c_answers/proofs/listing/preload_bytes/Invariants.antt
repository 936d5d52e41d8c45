use Rattle.std.proofs.Common.{◌≡◌, ◌-◌, ◌^◌, length, min, take}
use Rattle.c_answers.specs.Listing.{names_in_row, preload_entries}
use Rattle.c_answers.proofs.listing.preload_bytes.Given as goal

abbrev pub invariant-loop-name : goal.invariant-loop-name
invariant-loop-name l = l.bytes ≡ min (length (names_in_row (preload_entries (take l.name-index l.preloads)))) (2 ^ 64 - 1)
