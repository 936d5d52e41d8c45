use Rattle.std.proofs.Common.{◌≡◌, length, take}
use Rattle.c_answers.specs.Listing.{names_in_row, places_of}
use Rattle.c_answers.proofs.listing.put_libraries.Given as goal

abbrev pub invariant-loop-i : goal.invariant-loop-i
invariant-loop-i l = record {
  at : l.at ≡ length (names_in_row (take l.i l.libraries));
  entries : take l.i l.entries ≡ places_of 0 (take l.i l.libraries);
  names : take l.at l.names ≡ names_in_row (take l.i l.libraries);
}
