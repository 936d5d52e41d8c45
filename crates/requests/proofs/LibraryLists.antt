-- Lists of libraries after a change.
use Rattle.std.proofs.Common.{ℕ, Bool, true, false, List, [], ◌∷◌, cond}
use Rattle.std.specs.Prelude.{All, bytes_eq}
use Rattle.std.proofs.lemmas.List.Elements.{All-cons, All-head, All-tail}
use Rattle.requests.specs.Library.{IsLibrary}
use Rattle.states.specs.State.{Library}
use Rattle.states.specs.Changes.{libraries_with, libraries_without}

-- if all files are libraries, they still are after one is replaced by another library's file
pub each_replaced : (name bytes : List ℕ) (ls : List Library) → IsLibrary (record { name = name; bytes = bytes }) → All IsLibrary ls → All IsLibrary (libraries_with name bytes ls)
each_replaced name bytes [] is all = all
each_replaced name bytes (l ∷ ls) is all = by (bytes_eq name l.name) (All-tail IsLibrary l ls all) (each_replaced name bytes ls is (All-tail IsLibrary l ls all))
  where
    by : (b : Bool) → All IsLibrary ls → All IsLibrary (libraries_with name bytes ls)
        → All IsLibrary (cond b (record { name = name; bytes = bytes } ∷ ls) (l ∷ libraries_with name bytes ls))
    by true rest h = All-cons IsLibrary (record { name = name; bytes = bytes }) ls is rest
    by false rest h = All-cons IsLibrary l (libraries_with name bytes ls) (All-head IsLibrary l ls all) h

-- The list without one library.
module _ (P : Library → Type 0) where
  pub each_left : (name : List ℕ) (ls : List Library) → All P ls → All P (libraries_without name ls)
  each_left name [] all = all
  each_left name (l ∷ ls) all = by (bytes_eq name l.name) (All-tail P l ls all) (each_left name ls (All-tail P l ls all))
    where
      by : (b : Bool) → All P ls → All P (libraries_without name ls) → All P (cond b ls (l ∷ libraries_without name ls))
      by true rest h = rest
      by false rest h = All-cons P l (libraries_without name ls) (All-head P l ls all) h
