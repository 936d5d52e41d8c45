-- The meaning of the levels, for readers and callers. First occurrences are the same objects, each only
-- once and in their order. Each object of a level is needed by an object of the level just before. The
-- joined levels are closed: they have every object that one of their objects needs.
use Rattle.std.proofs.Common.{◌≡◌, ◌⊎◌, ◌↔◌, ℕ, zero, suc, ◌+◌, ◌<◌, ◌≤◌, eqb, nat_eq, Bool, true, false, not, cond, ◌&&◌, ◌||◌, List, [], ◌∷◌}
use Rattle.std.proofs.Common.{◌++◌, length, get_or, take, filter, refl, sym, ap, subst, ◌∙◌, ⊎_elim, inl, inr, arith, append_assoc, append-nil}
use Rattle.std.proofs.Common.{length-append}
use native.Mathlib.Numerals.{unary_clauses}
use Rattle.std.specs.List.{All, Contains, IsDistinct, flat_map, concat}
use Rattle.std.proofs.lemmas.Bool.{eqb-true, eq-eqb, false≢true, or_cases, and_parts, not-true}
use Rattle.std.proofs.lemmas.Cmp.{nat_eq_equiv}
use Rattle.std.proofs.Math.Seq.{take-length}
use Rattle.std.proofs.lemmas.List.{take-append-le}
use Rattle.std.proofs.lemmas.List.Elements.{All-append, All-push, All-from_get_or, Contains-get_or}
use Rattle.std.proofs.lemmas.List.Folds.{list_any-append}
use Rattle.std.proofs.lemmas.Map.Keys.{IsDistinct-push}
use Rattle.scope.specs.Queue.{AreApart}
use Rattle.scope.specs.inside.Growing.{grown}
use Rattle.scope.proofs.Growing.{grown_is, grown-append}
use Rattle.scope.proofs.Apart.{few}
use Rattle.scope.proofs.DistinctLevels.{grown-distinct, next-distinct}
use Rattle.scope.specs.Levels.{is_among, first_occurrences, without, next_level, levels_after, levels, joined_levels}

-- the object is in the list, by the test that the definitions use
abbrev In : List ℕ → ℕ → Type 0
In xs x = is_among xs x ≡ true

pub among-contains : (xs : List ℕ) (x : ℕ) → In xs x → Contains xs x
among-contains [] x e = absurd (false≢true e)
among-contains (y ∷ ys) x e = ⊎_elim
    (λ here. (0, omega arith, sym (eqb-true x y here)))
    (λ later. let c = among-contains ys x later in (suc c.0, omega (arith, c.1), c.2))
    (or_cases (eqb x y) (is_among ys x) e)

or_right : (a b : Bool) → b ≡ true → (a || b) ≡ true
or_right true b e = refl
or_right false b e = e

or_left : (a b : Bool) → a ≡ true → (a || b) ≡ true
or_left a b e = ap (λ c. c || b) e

pub contains-among : (xs : List ℕ) (x : ℕ) → Contains xs x → In xs x
contains-among [] x (k, lt, is) = absurd (omega (arith, lt))
contains-among (y ∷ ys) x (zero, lt, is) = or_left (eqb x y) (is_among ys x) (ap (eqb x) is ∙ eq-eqb x x refl)
contains-among (y ∷ ys) x (suc k, lt, is) = or_right (eqb x y) (is_among ys x) (contains-among ys x (k, omega (arith, lt), is))

in-left : (xs ys : List ℕ) (x : ℕ) → In xs x → In (xs ++ ys) x
in-left xs ys x h = list_any-append (eqb x) xs ys ∙ or_left (is_among xs x) (is_among ys x) h

in-right : (xs ys : List ℕ) (x : ℕ) → In ys x → In (xs ++ ys) x
in-right xs ys x h = list_any-append (eqb x) xs ys ∙ or_right (is_among xs x) (is_among ys x) h

in-cases : (xs ys : List ℕ) (x : ℕ) → In (xs ++ ys) x → In xs x ⊎ In ys x
in-cases xs ys x h = or_cases (is_among xs x) (is_among ys x) (sym (list_any-append (eqb x) xs ys) ∙ h)

-- an element is in a filtered list exactly if it is in the list and passes the test
among-filter : (f : ℕ → Bool) (xs : List ℕ) (x : ℕ) → is_among (filter f xs) x ≡ (f x && is_among xs x)
among-filter f [] x = nothing (f x)
  where
    nothing : (b : Bool) → false ≡ (b && false)
    nothing true = refl
    nothing false = refl
among-filter f (y ∷ ys) x = by (f y) refl (among-filter f ys x)
  where
    kept : (a b c : Bool) → (a ≡ true → b ≡ true) → (a || (b && c)) ≡ (b && (a || c))
    kept true true c f = refl
    kept true false c f = absurd (false≢true (f refl))
    kept false b c f = refl

    dropped : (a b c : Bool) → (a ≡ true → b ≡ false) → (b && c) ≡ (b && (a || c))
    dropped true true c f = absurd (false≢true (sym (f refl)))
    dropped true false c f = refl
    dropped false b c f = refl

    by : (b : Bool) → f y ≡ b → is_among (filter f ys) x ≡ (f x && is_among ys x)
        → is_among (cond b (y ∷ filter f ys) (filter f ys)) x ≡ (f x && (eqb x y || is_among ys x))
    by true fy more = ap (λ b. eqb x y || b) more ∙ kept (eqb x y) (f x) (is_among ys x) (λ e. ap f (eqb-true x y e) ∙ fy)
    by false fy more = more ∙ dropped (eqb x y) (f x) (is_among ys x) (λ e. ap f (eqb-true x y e) ∙ fy)

-- an object is among the first occurrences exactly if it is in the list
among-first_occurrences : (ps : List ℕ) (x : ℕ) → is_among (first_occurrences ps) x ≡ is_among ps x
among-first_occurrences [] x = refl
among-first_occurrences (p ∷ ps) x =
    ap (λ b. eqb x p || b) (among-filter (λ q. not (eqb q p)) (first_occurrences ps) x)
    ∙ ap (λ b. eqb x p || (not (eqb x p) && b)) (among-first_occurrences ps x)
    ∙ once (eqb x p) (is_among ps x)
  where
    once : (a b : Bool) → (a || (not a && b)) ≡ (a || b)
    once true b = refl
    once false b = refl

in-flat_map : (f : ℕ → List ℕ) (xs : List ℕ) (x y : ℕ) → In xs y → In (f y) x → In (flat_map f xs) x
in-flat_map f [] x y h g = absurd (false≢true h)
in-flat_map f (z ∷ zs) x y h g = ⊎_elim
    (λ e. in-left (f z) (flat_map f zs) x (subst (λ k. In (f k) x) (eqb-true y z e) g))
    (λ later. in-right (f z) (flat_map f zs) x (in-flat_map f zs x y later g))
    (or_cases (eqb y z) (is_among zs y) h)

flat_map-in : (f : ℕ → List ℕ) (xs : List ℕ) (x : ℕ) → In (flat_map f xs) x → (y : ℕ) × In xs y × In (f y) x
flat_map-in f [] x h = absurd (false≢true h)
flat_map-in f (z ∷ zs) x h = ⊎_elim
    (λ here. (z, or_left (eqb z z) (is_among zs z) (eq-eqb z z refl), here))
    (λ later. let r = flat_map-in f zs x later in (r.0, or_right (eqb r.0 z) (is_among zs r.0) r.1, r.2))
    (in-cases (f z) (flat_map f zs) x h)

get_or-suc : (first : List ℕ) (rest : List (List ℕ)) (k : ℕ) → get_or (first ∷ rest) (k + 1) [] ≡ get_or rest k []
get_or-suc first rest k = simp unary_clauses refl

empty : (xs : List ℕ) → ((x : ℕ) → In xs x → ⊥) → xs ≡ []
empty [] h = refl
empty (x ∷ xs) h = absurd (h x (or_left (eqb x x) (is_among xs x) (eq-eqb x x refl)))

module _ (needs : ℕ → List ℕ) where
  among-next : (earlier level : List ℕ) (x : ℕ) → is_among (next_level needs earlier level) x ≡ (not (is_among earlier x) && is_among (flat_map needs level) x)
  unfolding next_level
  among-next earlier level x =
      among-filter (λ p. not (is_among earlier p)) (first_occurrences (flat_map needs level)) x
      ∙ ap (λ b. not (is_among earlier x) && b) (among-first_occurrences (flat_map needs level) x)

  -- an object that an object of a level needs is in the levels up to the next one
  in-or_next : (earlier level : List ℕ) (x y : ℕ) → In level y → In (needs y) x → In (earlier ++ next_level needs earlier level) x
  in-or_next earlier level x y h g = by (is_among earlier x) refl
    where
      by : (b : Bool) → is_among earlier x ≡ b → In (earlier ++ next_level needs earlier level) x
      by true e = in-left earlier (next_level needs earlier level) x e
      by false e = in-right earlier (next_level needs earlier level) x
          (among-next earlier level x ∙ ap (λ b. not b && is_among (flat_map needs level) x) e ∙ in-flat_map needs level x y h g)

  -- an object of the next level is needed by an object of the level
  next-in : (earlier level : List ℕ) (x : ℕ) → In (next_level needs earlier level) x → (y : ℕ) × In level y × In (needs y) x
  next-in earlier level x h = flat_map-in needs level x (and_parts (not (is_among earlier x)) (is_among (flat_map needs level) x) (sym (among-next earlier level x) ∙ h)).1

  needed-after : (n k : ℕ) (earlier level : List ℕ) (x : ℕ) → In (get_or (levels_after needs n earlier level) k []) x
      → (y : ℕ) × In (get_or (level ∷ levels_after needs n earlier level) k []) y × In (needs y) x
  unfolding levels_after
  needed-after zero k earlier level x h = absurd (false≢true h)
  needed-after (suc n) zero earlier level x h = next-in earlier level x h
  needed-after (suc n) (suc k) earlier level x h = needed-after n k (earlier ++ next_level needs earlier level) (next_level needs earlier level) x h

  -- Each object of a level, except level 0, is needed by an object of the level just before.
  pub level-needed : (n k : ℕ) (first : List ℕ) (x : ℕ) → Contains (get_or (levels needs n first) (k + 1) []) x
      → (y : ℕ) × Contains (get_or (levels needs n first) k []) y × Contains (needs y) x
  unfolding levels
  level-needed n k first x h =
      let r = needed-after n k first first x (contains-among (get_or (levels_after needs n first first) k []) x
      (subst (λ l. Contains l x) (get_or-suc first (levels_after needs n first first) k) h)) in
      (r.0, among-contains _ r.0 r.1, among-contains _ x r.2)

  -- if the next level is empty, all levels after it are empty
  none_after : (n : ℕ) (earlier level : List ℕ) → next_level needs earlier level ≡ [] → concat (levels_after needs n earlier level) ≡ []
  unfolding levels_after next_level
  none_after zero earlier level none = refl
  none_after (suc n) earlier level none =
      ap (λ l. l ++ concat (levels_after needs n (earlier ++ l) l)) none ∙ none_after n (earlier ++ []) [] refl

  -- the list has every object that an object of it needs, except perhaps objects that only those of
  -- `level` need
  abbrev IsClosedBut : List ℕ → List ℕ → Type 0
  IsClosedBut level xs = (y x : ℕ) → In xs y → In (needs y) x → In level y ⊎ In xs x

  abbrev IsClosed : List ℕ → Type 0
  IsClosed xs = (y x : ℕ) → In xs y → In (needs y) x → In xs x

  -- if a list has `limit` distinct numbers below `limit`, it has every number below it
  full : (limit : ℕ) (xs : List ℕ) (x : ℕ) → AreApart limit xs → limit ≤ length xs → x < limit → In xs x
  full limit xs x apart many lt = by (is_among xs x) refl
    where
      by : (b : Bool) → is_among xs x ≡ b → In xs x
      by true e = e
      by false e =
          let more : AreApart limit (xs ++ x ∷ []) = record {
            below = All-push (λ p. p < limit) xs x apart.below lt;
            distinct = IsDistinct-push nat_eq_equiv xs x apart.distinct e;
          } in
          absurd (omega (arith, few limit (xs ++ x ∷ []) more, length-append xs (x ∷ []), many))

  -- if a fact is true of each object that is in the list, `All` has it
  all-in : (P : ℕ → Type 0) (xs : List ℕ) → ((x : ℕ) → In xs x → P x) → All P xs
  all-in P xs h = All-from_get_or P xs 0 (λ i lt. h (get_or xs i 0) (contains-among xs (get_or xs i 0) (Contains-get_or xs i 0 lt)))

  module _ (limit : ℕ) (below : (y x : ℕ) → Contains (needs y) x → x < limit) where
    next-apart : (earlier level : List ℕ) → AreApart limit earlier → AreApart limit (earlier ++ next_level needs earlier level)
    next-apart earlier level apart = record {
      below = All-append (λ p. p < limit) earlier (next_level needs earlier level) apart.below
          (all-in (λ p. p < limit) (next_level needs earlier level) (λ x h. let r = next-in earlier level x h in below r.0 x (among-contains (needs r.0) x r.2)));
      distinct = next-distinct needs earlier level apart.distinct;
    }

    next-closed : (earlier level : List ℕ) → IsClosedBut level earlier
        → IsClosedBut (next_level needs earlier level) (earlier ++ next_level needs earlier level)
    next-closed earlier level closed y x h g = ⊎_elim
        (λ old. inr (⊎_elim (λ now. in-or_next earlier level x y now g) (λ there. in-left earlier (next_level needs earlier level) x there) (closed y x old g)))
        (λ new. inl new)
        (in-cases earlier (next_level needs earlier level) y h)

    closed-after : (n : ℕ) (earlier level : List ℕ) → AreApart limit earlier → limit ≤ length earlier + n → IsClosedBut level earlier
        → IsClosed (earlier ++ concat (levels_after needs n earlier level))
    unfolding levels_after
    closed-after zero earlier level apart room closed = λ y x h g.
        in-left earlier [] x (full limit earlier x apart (omega (arith, room)) (below y x (among-contains (needs y) x g)))
    closed-after (suc n) earlier level apart room closed =
        by (next_level needs earlier level) refl (λ more. closed-after n (earlier ++ next_level needs earlier level) (next_level needs earlier level)
        (next-apart earlier level apart) more (next-closed earlier level closed))
      where
        next : List ℕ
        next = next_level needs earlier level

        by : (l : List ℕ) → next ≡ l
            → (limit ≤ length (earlier ++ next) + n → IsClosed ((earlier ++ next) ++ concat (levels_after needs n (earlier ++ next) next)))
            → IsClosed (earlier ++ (next ++ concat (levels_after needs n (earlier ++ next) next)))
        by (z ∷ zs) e more =
            subst IsClosed (append_assoc earlier next (concat (levels_after needs n (earlier ++ next) next)))
            (more (omega (arith, room, length-append earlier next, ap length e)))
        by [] e more =
            subst (λ l. IsClosed (earlier ++ l)) (sym (none_after (suc n) earlier level e))
            (λ y x h g. ⊎_elim
            (λ now. subst (λ l. In (earlier ++ l) x) e (in-or_next earlier level x y now g))
            (λ there. in-left earlier [] x there)
            (closed y x (subst (λ l. In l y) (append-nil earlier) h) g))

    -- if the levels so far have all objects, the next level is empty
    next-none : (earlier level : List ℕ) → AreApart limit earlier → limit ≤ length earlier → next_level needs earlier level ≡ []
    next-none earlier level apart many = empty (next_level needs earlier level) (λ x h.
        let r = next-in earlier level x h in
        let fresh = and_parts (not (is_among earlier x)) (is_among (flat_map needs level) x) (sym (among-next earlier level x) ∙ h) in
        let there : In earlier x = full limit earlier x apart many (below r.0 x (among-contains (needs r.0) x r.2)) in
        false≢true (sym (not-true (is_among earlier x) fresh.0) ∙ there))

    same-after : (n m : ℕ) (earlier level : List ℕ) → AreApart limit earlier → limit ≤ length earlier + n → limit ≤ length earlier + m
        → concat (levels_after needs n earlier level) ≡ concat (levels_after needs m earlier level)
    unfolding levels_after
    same-after zero m earlier level apart room more = sym (none_after m earlier level (next-none earlier level apart (omega (arith, room))))
    same-after (suc n) zero earlier level apart room more = none_after (suc n) earlier level (next-none earlier level apart (omega (arith, more)))
    same-after (suc n) (suc m) earlier level apart room more =
        by (next_level needs earlier level) refl (λ room' more'. same-after n m (earlier ++ next_level needs earlier level) (next_level needs earlier level)
        (next-apart earlier level apart) room' more')
      where
        next : List ℕ
        next = next_level needs earlier level

        rest : ℕ → List ℕ
        rest k = concat (levels_after needs k (earlier ++ next) next)

        by : (l : List ℕ) → next ≡ l → (limit ≤ length (earlier ++ next) + n → limit ≤ length (earlier ++ next) + m → rest n ≡ rest m) → next ++ rest n ≡ next ++ rest m
        by [] e same = none_after (suc n) earlier level e ∙ sym (none_after (suc m) earlier level e)
        by (z ∷ zs) e same =
            ap (λ l. next ++ l)
            (same (omega (arith, room, length-append earlier next, ap length e)) (omega (arith, more, length-append earlier next, ap length e)))

    -- If there are already as many levels as objects, further levels change nothing.
    pub joined_levels-enough : (n m : ℕ) (first : List ℕ) → All (λ p. p < limit) first → IsDistinct nat_eq first → limit ≤ length first + n → limit ≤ length first + m
        → joined_levels needs n first ≡ joined_levels needs m first
    unfolding joined_levels levels
    joined_levels-enough n m first low distinct room more =
        ap (λ l. first ++ l) (same-after n m first first (record { below = low; distinct = distinct }) room more)

    apart-after : (n : ℕ) (earlier level : List ℕ) → AreApart limit earlier → AreApart limit (earlier ++ concat (levels_after needs n earlier level))
    unfolding levels_after
    apart-after zero earlier level apart = subst (AreApart limit) (sym (append-nil earlier)) apart
    apart-after (suc n) earlier level apart =
        let next : List ℕ = next_level needs earlier level in
        subst (AreApart limit) (append_assoc earlier next (concat (levels_after needs n (earlier ++ next) next)))
        (apart-after n (earlier ++ next) next (next-apart earlier level apart))

    -- If level 0 and the needs have only objects below a limit, the joined levels have only such objects.
    pub joined_levels-below : (n : ℕ) (first : List ℕ) → All (λ p. p < limit) first → IsDistinct nat_eq first → All (λ p. p < limit) (joined_levels needs n first)
    unfolding joined_levels levels
    joined_levels-below n first low distinct =
        let apart : AreApart limit (first ++ concat (levels_after needs n first first)) = apart-after n first first (record { below = low; distinct = distinct }) in
        apart.below

    -- The joined levels have every object that one of their objects needs, if there are at least as many levels as objects.
    pub joined_levels-closed : (n : ℕ) (first : List ℕ) → All (λ p. p < limit) first → IsDistinct nat_eq first → limit ≤ length first + n
        → (y x : ℕ) → Contains (joined_levels needs n first) y → Contains (needs y) x → Contains (joined_levels needs n first) x
    unfolding joined_levels levels
    joined_levels-closed n first low distinct room y x h g =
        among-contains (joined_levels needs n first) x
        (closed-after n first first (record { below = low; distinct = distinct }) room (λ y' x' h' g'. inl h') y x
        (contains-among (joined_levels needs n first) y h) (contains-among (needs y) x g))

among-concat : (ls : List (List ℕ)) (x : ℕ) → In (concat ls) x → (k : ℕ) × In (get_or ls k []) x
among-concat [] x h = absurd (false≢true h)
among-concat (l ∷ ls) x h = ⊎_elim
    (λ here. (0, here))
    (λ later. let r = among-concat ls x later in (suc r.0, r.1))
    (in-cases l (concat ls) x h)

-- Each object of the joined levels is in one of the levels.
pub joined_levels-level : (needs : ℕ → List ℕ) (n : ℕ) (first : List ℕ) (x : ℕ) → Contains (joined_levels needs n first) x
    → (k : ℕ) × Contains (get_or (levels needs n first) k []) x
unfolding joined_levels
joined_levels-level needs n first x h =
    let r = among-concat (levels needs n first) x (contains-among (joined_levels needs n first) x h) in
    (r.0, among-contains (get_or (levels needs n first) r.0 []) x r.1)

-- The joined levels begin with level 0.
pub joined_levels-first : (needs : ℕ → List ℕ) (n : ℕ) (first : List ℕ) → take (length first) (joined_levels needs n first) ≡ first
unfolding joined_levels levels
joined_levels-first needs n first =
    take-append-le (length first) first (concat (levels_after needs n first first)) (omega arith) ∙ take-length first

-- The first occurrences are the same objects as the list, and each is there only once.
pub first_occurrences-contains : (ps : List ℕ) (x : ℕ) → Contains (first_occurrences ps) x ↔ Contains ps x
first_occurrences-contains ps x = (
  λ h. among-contains ps x (sym (among-first_occurrences ps x) ∙ contains-among (first_occurrences ps) x h),
  λ h. among-contains (first_occurrences ps) x (among-first_occurrences ps x ∙ contains-among ps x h),
)

without-none : (ps : List ℕ) → without [] ps ≡ ps
without-none [] = refl
without-none (p ∷ ps) = ap (λ l. p ∷ l) (without-none ps)

first_occurrences-grown : (ps : List ℕ) → grown [] ps ≡ first_occurrences ps
first_occurrences-grown ps = grown_is [] ps ∙ without-none (first_occurrences ps)

pub first_occurrences-distinct : (ps : List ℕ) → IsDistinct nat_eq (first_occurrences ps)
unfolding IsDistinct
first_occurrences-distinct ps = subst (IsDistinct nat_eq) (first_occurrences-grown ps) (grown-distinct [] ps tt)

without-same : (ps qs rs : List ℕ) → ((x : ℕ) → is_among ps x ≡ is_among qs x) → without ps rs ≡ without qs rs
without-same ps qs [] same = refl
without-same ps qs (r ∷ rs) same =
    ap (λ l. cond (not (is_among ps r)) (r ∷ l) l) (without-same ps qs rs same)
    ∙ ap (λ b. cond (not b) (r ∷ without qs rs) (without qs rs)) (same r)

-- First occurrences keep their order: those of two joined lists are those of the first list, followed by the new ones of the second.
pub first_occurrences-append : (ps qs : List ℕ) → first_occurrences (ps ++ qs) ≡ first_occurrences ps ++ without ps (first_occurrences qs)
first_occurrences-append ps qs =
    sym (first_occurrences-grown (ps ++ qs)) ∙ grown-append [] ps qs ∙ ap (λ l. grown l qs) (first_occurrences-grown ps)
    ∙ grown_is (first_occurrences ps) qs
    ∙ ap (λ l. first_occurrences ps ++ l) (without-same (first_occurrences ps) ps (first_occurrences qs) (among-first_occurrences ps))
