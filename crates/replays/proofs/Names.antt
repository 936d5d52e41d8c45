-- Lemmas about libraries' names, which differ, and about preloads, which are installed.
use Rattle.std.proofs.Common.{◌≡◌, ◌<◌, ℕ, suc, Bool, true, false, List, [], ◌∷◌, ◌++◌, length, length-append, refl, sym, ap, ◌∙◌, arith}
use Rattle.std.specs.Prelude.{◌≢◌, ◌||◌, not, All, AllPairs, bytes_eq}
use Rattle.std.specs.List.{list_any}
use Rattle.std.proofs.Math.Seq.{get_or-append_seam}
use Rattle.std.proofs.lemmas.Slice.Eq.{bytes_eq-Decides}
use Rattle.std.proofs.lemmas.List.{get_or_append_left, get_or-map, length-map}
use Rattle.std.proofs.lemmas.List.Elements.{All-head, All-tail}
use Rattle.std.proofs.lemmas.List.Folds.{list_any_none}
use Rattle.states.specs.State.{Library, has_name, names_of}
use Rattle.requests.specs.Tests.{has_repeat}

-- if two names differ, the test for equality fails
other_name : (x y : List ℕ) → x ≢ y → bytes_eq x y ≡ false
other_name x y other = by (bytes_eq x y) (bytes_eq-Decides x y).0
  where
    by : (b : Bool) → (b ≡ true → x ≡ y) → b ≡ false
    by true h = absurd (other (h refl))
    by false h = refl

or_none : (a b : Bool) → a ≡ false → b ≡ false → (a || b) ≡ false
or_none true b h k = cc h
or_none false b h k = k

-- a name that differs from each of the names isn't in the list of names
no_such_name : (name : List ℕ) (names : List (List ℕ)) → All (λ n. name ≢ n) names → has_name names name ≡ false
no_such_name name [] h = refl
no_such_name name (n ∷ names) h =
    or_none (bytes_eq name n) (has_name names name) (other_name name n (All-head (λ n. name ≢ n) n names h)) (no_such_name name names (All-tail (λ n. name ≢ n) n names h))

-- no earlier library has the name of this library
pub no_earlier : (done rest : List Library) (l : Library) → AllPairs (λ a b. a.name ≢ b.name) (done ++ l ∷ rest) → has_name (names_of done) l.name ≡ false
no_earlier done rest l own = no_such_name l.name (names_of done) other
  where
    other : All (λ n. l.name ≢ n) (names_of done)
    other k d lt e =
        let inside : k < length done = omega (arith, lt, length-map done (λ (a : Library). a.name)) in
        let there : length done < length (done ++ l ∷ rest) = omega (arith, length-append done (l ∷ rest)) in
        own k (length done) l inside there
        (ap (λ (a : Library). a.name) (get_or_append_left done (l ∷ rest) l k inside)
        ∙ sym (get_or-map (λ (a : Library). a.name) done k l d inside)
        ∙ sym e
        ∙ sym (ap (λ (a : Library). a.name) (get_or-append_seam done l rest l)))

-- a list of names that differ from each other has no repetition
pub no_repeat : (names : List (List ℕ)) → AllPairs (λ a b. a ≢ b) names → has_repeat names ≡ false
no_repeat [] h = refl
no_repeat (n ∷ names) h =
    or_none (has_name names n) (has_repeat names) (no_such_name n names (λ k d lt. h 0 (suc k) d (omega arith) (omega (arith, lt))))
    (no_repeat names (λ i j d lt within. h (suc i) (suc j) d (omega (arith, lt)) (omega (arith, within))))

-- if each of the names is installed, none is missing
pub none_missing : (installed names : List (List ℕ)) → All (λ n. has_name installed n ≡ true) names → list_any (λ n. not (has_name installed n)) names ≡ false
none_missing installed names h = list_any_none (λ n. not (has_name installed n)) names (λ k d lt. ap not (h k d lt))
