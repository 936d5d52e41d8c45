-- Lists of names, and tests of them.
use Rattle.std.proofs.Common.{◌≡◌, ◌≢◌, ℕ, Bool, true, false, List, [], ◌∷◌, map, refl, ap, arith}
use Rattle.std.specs.Prelude.{◌||◌, All, AllPairs, bytes_eq}
use Rattle.std.specs.List.{list_any}
use Rattle.std.proofs.lemmas.Slice.Eq.{bytes_eq-Decides}
use Rattle.std.proofs.lemmas.List.Elements.{All-nil, All-cons}
use Rattle.std.proofs.lemmas.List.Kept.{AllPairs-cons}
use Rattle.states.specs.State.{has_name}
use Rattle.requests.specs.Tests.{has_repeat}

-- testing `f x` for each element `x` of a list is testing each element of the mapped list
pub any_now : {X Y : Type 0} (p : Y → Bool) (f : X → Y) (xs : List X) → list_any (λ x. p (f x)) xs ≡ list_any p (map f xs)
any_now p f [] = refl
any_now p f (x ∷ xs) = ap (λ b. p (f x) || b) (any_now p f xs)

pub or_left : (a b : Bool) → (a || b) ≡ false → a ≡ false
or_left true b h = cc
or_left false b h = refl

pub or_right : (a b : Bool) → (a || b) ≡ false → b ≡ false
or_right true b h = cc
or_right false b h = h

-- if the test of two names is true, they are equal
pub same : (x y : List ℕ) → bytes_eq x y ≡ true → x ≡ y
same x y h = (bytes_eq-Decides x y).0 h

-- if the test of two names is false, they differ
pub differ : (x y : List ℕ) → bytes_eq x y ≡ false → x ≢ y
differ x y h is =
    let yes : bytes_eq x y ≡ true = (bytes_eq-Decides x y).1 is in
    cc

-- if no element passes the test, the test is false for each element
pub none_pass : {X : Type 0} (p : X → Bool) (xs : List X) → list_any p xs ≡ false → All (λ x. p x ≡ false) xs
none_pass p [] h = All-nil (λ x. p x ≡ false)
none_pass p (x ∷ xs) h = All-cons (λ x. p x ≡ false) x xs (or_left (p x) (list_any p xs) h) (none_pass p xs (or_right (p x) (list_any p xs) h))

-- a name that isn't among others differs from each of them
pub none_same : (x : List ℕ) (ns : List (List ℕ)) → has_name ns x ≡ false → All (λ n. x ≢ n) ns
none_same x ns h k d lt = differ x _ (none_pass (bytes_eq x) ns h k d lt)

-- if no name occurs twice, any two of the names differ
pub no_repeat : (ns : List (List ℕ)) → has_repeat ns ≡ false → AllPairs (λ a b. a ≢ b) ns
no_repeat [] h = λ i j d lt within. absurd (omega (arith, within))
no_repeat (n ∷ ns) h =
    AllPairs-cons (λ a b. a ≢ b) n ns (none_same n ns (or_left (has_name ns n) (has_repeat ns) h)) (no_repeat ns (or_right (has_name ns n) (has_repeat ns) h))
