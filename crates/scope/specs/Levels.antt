-- Levels of needed objects (gABI chapter 5, "Shared Object Dependencies": breadth first). Here,
-- numbers identify objects. `needs` returns the objects that an object needs, in the order in which
-- this object names them.
use Rattle.std.specs.Prelude.{ℕ, zero, suc, ◌==◌, List, [], ◌∷◌, ◌++◌, Bool, not}
use Rattle.std.specs.List.{list_any, filter, flat_map, concat}

-- object `p` is in the list
abbrev pub is_among : List ℕ → ℕ → Bool
is_among ps p = list_any (λ q. p == q) ps

-- the objects of a list, each only once, at its first place
abbrev pub first_occurrences : List ℕ → List ℕ
first_occurrences [] = []
first_occurrences (p ∷ ps) = p ∷ filter (λ q. not (q == p)) (first_occurrences ps)

-- the objects of `ps` that aren't in `others`
abbrev pub without : List ℕ → List ℕ → List ℕ
without others ps = filter (λ p. not (is_among others p)) ps

-- The next level: the objects that the objects of `level` need, without those in `earlier`, which
-- has the objects of all levels up to `level`. They are in the order of the objects that need them,
-- and then in the order in which each object needs them. Each occurs only once.
unfoldable pub next_level : (ℕ → List ℕ) → List ℕ → List ℕ → List ℕ
next_level needs earlier level = without earlier (first_occurrences (flat_map needs level))

-- the `n` levels after `level`; `earlier` has the objects of all levels up to `level`
unfoldable pub levels_after : (ℕ → List ℕ) → ℕ → List ℕ → List ℕ → List (List ℕ)
levels_after needs zero earlier level = []
levels_after needs (suc n) earlier level =
    let next = next_level needs earlier level in next ∷ levels_after needs n (earlier ++ next) next

-- level 0, which is `first`, and the `n` levels after it
unfoldable pub levels : (ℕ → List ℕ) → ℕ → List ℕ → List (List ℕ)
levels needs n first = first ∷ levels_after needs n first first

-- the objects of level 0, which is `first`, and of the `n` levels after it, level by level
unfoldable pub joined_levels : (ℕ → List ℕ) → ℕ → List ℕ → List ℕ
joined_levels needs n first = concat (levels needs n first)
