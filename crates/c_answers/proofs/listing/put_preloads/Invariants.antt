use Rattle.std.proofs.Common.{◌≡◌, ◌+◌, ◌++◌, length, take}
use Rattle.c_answers.specs.Listing.{names_in_row, places_of, preload_entries}
use Rattle.c_answers.proofs.listing.put_preloads.Given as goal

abbrev pub invariant-loop-i : goal.invariant-loop-i
invariant-loop-i l = record {
  at : l.at ≡ l.from + length (names_in_row (preload_entries (take l.i l.preloads)));
  entries : take (l.libraries + l.i) l.entries ≡ take l.libraries l.fn.entries ++ places_of l.from (preload_entries (take l.i l.preloads));
  names : take l.at l.names ≡ take l.from l.fn.names ++ names_in_row (preload_entries (take l.i l.preloads));
}
