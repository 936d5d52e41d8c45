-- The tests of a change for lack of room, in their order (own).
use Rattle.std.specs.Prelude.{ℕ, ◌+◌, ◌-◌, ◌==◌, Bool, nat_le, nat_lt, List, [], ◌∷◌, ◌++◌}
use Rattle.states.specs.Limits.{most_libraries, last_generation}
use Rattle.states.specs.Cost.{cost, catalogue_cost}

-- the reasons why there is no room: no more libraries (S9), no more generations (S10), too few
-- sectors (S7), or sectors in too many runs (S8)
pub data RoomRefusal : Type 0 where
  TooMany : RoomRefusal
  GenerationEnd : RoomRefusal
  Full : RoomRefusal
  Fragmented : RoomRefusal

-- the numbers that the tests read
pub record Room : Type 0 where
  pub generation : ℕ
  -- the number of libraries
  pub libraries : ℕ
  -- the number of free sectors, not counting those for the catalogues of the next change
  pub free : ℕ
  -- the number of sectors in the longest runs of unused sectors, with at most as many runs as a file may have extents
  pub longest : ℕ

-- the maximum number of libraries has been reached
abbrev pub has_most : ℕ → Bool
has_most libraries = nat_le most_libraries libraries

-- the generation is the greatest possible one
abbrev pub is_last : ℕ → Bool
is_last generation = generation == last_generation

-- a file of `size` bytes and `more` additional sectors take more sectors than are free
abbrev pub is_full : (free more size : ℕ) → Bool
is_full free more size = nat_lt free (cost size + more)

-- the longest runs of unused sectors are too short for the bytes of a file of `size` bytes
abbrev pub is_fragmented : (longest size : ℕ) → Bool
is_fragmented longest size = nat_lt longest (cost size - 1)

-- the only test of a change that takes no sectors, with its refusal: S10
abbrev pub change_tests : (generation : ℕ) → List (Bool × RoomRefusal)
change_tests generation = (is_last generation, GenerationEnd) ∷ []

-- The tests for S10, S7 and S8, in this order, of a file of `size` bytes that takes `more`
-- additional sectors. If the file replaces another one, `more` is 0, because the number of
-- catalogues stays the same.
abbrev pub put_tests : Room → (more size : ℕ) → List (Bool × RoomRefusal)
put_tests room more size = change_tests room.generation ++ (is_full room.free more size, Full) ∷ (is_fragmented room.longest size, Fragmented) ∷ []

-- the tests for S9, S10, S7 and S8, in this order, of a file of `size` bytes under a new name; such a
-- file may need one more catalogue
abbrev pub new_tests : Room → (size : ℕ) → List (Bool × RoomRefusal)
new_tests room size = (has_most room.libraries, TooMany) ∷ put_tests room (catalogue_cost room.libraries) size
