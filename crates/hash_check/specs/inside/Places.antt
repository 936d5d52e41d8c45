-- The walks that the code has followed. For each index, the code keeps the number of steps to 0, and an index further
-- along the walk.
use Rattle.std.specs.Prelude.{ℕ, List, Option, Some, None, ◌≡◌, ◌≢◌, ◌<◌, ◌≤◌}
use Rattle.std.specs.Prelude.{◌-◌, ◌+◌, length, slice_index, slice_index_or, set}
use Rattle.std.proofs.Math.ListN.{replicate}
use Rattle.std.specs.List.{All}
use Rattle.hash_check.specs.Walk.{walk, Meets}
use Rattle.hash_check.specs.declared.place.Place.{Place}

-- the walk from index `from` first reaches 0 after `d` steps
pub record Depth (chains : List ℕ) (from d : ℕ) : Type 0 where
  pub arrives : walk chains from d ≡ 0
  pub before : (k : ℕ) → k < d → walk chains from k ≢ 0

abbrev pub place_at : List (Option Place) → ℕ → Option Place
place_at places i = slice_index_or places i None

-- index `i` has a place
pub record Known (places : List (Option Place)) (i : ℕ) : Type 0 where
  pub place : Place
  pub is : place_at places i ≡ Some place

-- `p` is a correct place of index `i`: it describes the walk from this index
pub record Says (chains : List ℕ) (places : List (Option Place)) (i : ℕ) (p : Place) : Type 0 where
  pub depth : Depth chains i p.depth
  pub landing : p.landing ≤ p.depth
  pub ahead : 0 < p.depth → p.landing < p.depth
  pub jump : walk chains i (p.depth - p.landing) ≡ p.jump
  pub along : (k : ℕ) → k ≤ p.depth → Known places (walk chains i k)
  pub head : i ≢ 0 → Meets chains p.head i

pub record Sound (chains : List ℕ) (places : List (Option Place)) : Type 0 where
  pub says : (i : ℕ) (p : Place) → place_at places i ≡ Some p → Says chains places i p

-- every index that had a place still has one
pub record Keeps (old new : List (Option Place)) : Type 0 where
  pub known : (i : ℕ) → Known old i → Known new i

-- `new` is a correct place for an index on the walk from `head`; the next index on this walk is `next`, and the place
-- of `next` is `p`
pub record IsBefore (chains : List ℕ) (head next : ℕ) (p new : Place) : Type 0 where
  pub begins : new.head ≡ head
  pub depth : new.depth ≡ p.depth + 1
  pub landing : new.landing ≤ p.depth
  pub jump : walk chains next (p.depth - new.landing) ≡ new.jump

-- the path has the first indices of the walk from `from`, and none of these indices is 0
pub record IsPath (chains : List ℕ) (from : ℕ) (path : List ℕ) : Type 0 where
  pub walked : (k : ℕ) → k < length path → slice_index path k ≡ walk chains from k
  pub before : (k : ℕ) → k < length path → walk chains from k ≢ 0

-- the places of `n` indices before any walk is followed: only index 0 has one
unfoldable pub none_but_zero : ℕ → List (Option Place)
none_but_zero n = set (replicate n None) 0 (Some (record { depth = 0; jump = 0; landing = 0; head = 0 }))

-- the walks from all buckets have been followed
pub record Placed (buckets chains : List ℕ) (places : List (Option Place)) : Type 0 where
  pub size : length places ≡ length chains
  pub sound : Sound chains places
  pub known : All (Known places) buckets

-- `joint` is 0, or the walks from all buckets meet the index `joint`
pub record IsJoint (buckets chains : List ℕ) (places : List (Option Place)) (joint : ℕ) : Type 0 where
  pub within : joint < length chains
  pub known : Known places joint
  pub met : joint ≢ 0 → All (λ b. Meets chains b joint) buckets
