-- The joined levels have no object twice.
use Rattle.std.proofs.Common.{◌≡◌, ℕ, zero, suc, nat_eq, Bool, true, false, List, [], ◌∷◌, ◌++◌, refl, sym, subst, append_assoc, append-nil, if◌then◌else◌}
use Rattle.std.specs.List.{IsDistinct, flat_map, concat}
use Rattle.std.proofs.lemmas.Cmp.{nat_eq_equiv}
use Rattle.std.proofs.lemmas.Map.Keys.{IsDistinct-push}
use Rattle.scope.specs.Levels.{is_among, next_level, levels_after, levels, joined_levels}
use Rattle.scope.specs.Queue.{grown_by}
use Rattle.scope.specs.inside.Growing.{grown}
use Rattle.scope.proofs.Growing.{grown_is}

grown_by-distinct : (ps : List ℕ) (q : ℕ) → IsDistinct nat_eq ps → IsDistinct nat_eq (grown_by ps q)
grown_by-distinct ps q distinct = by (is_among ps q) refl
  where
    by : (b : Bool) → is_among ps q ≡ b → IsDistinct nat_eq (if b then ps else ps ++ q ∷ [])
    by true e = distinct
    by false e = IsDistinct-push nat_eq_equiv ps q distinct e

pub grown-distinct : (ps qs : List ℕ) → IsDistinct nat_eq ps → IsDistinct nat_eq (grown ps qs)
unfolding grown
grown-distinct ps [] distinct = distinct
grown-distinct ps (q ∷ qs) distinct = grown-distinct (grown_by ps q) qs (grown_by-distinct ps q distinct)

module _ (needs : ℕ → List ℕ) where
  -- if the levels so far have no object twice, they and the next level have none twice
  pub next-distinct : (earlier level : List ℕ) → IsDistinct nat_eq earlier → IsDistinct nat_eq (earlier ++ next_level needs earlier level)
  unfolding next_level
  next-distinct earlier level distinct = subst (IsDistinct nat_eq) (grown_is earlier (flat_map needs level)) (grown-distinct earlier (flat_map needs level) distinct)

  more-distinct : (n : ℕ) (earlier level : List ℕ) → IsDistinct nat_eq earlier → IsDistinct nat_eq (earlier ++ concat (levels_after needs n earlier level))
  unfolding levels_after
  more-distinct zero earlier level distinct = subst (IsDistinct nat_eq) (sym (append-nil earlier)) distinct
  more-distinct (suc n) earlier level distinct =
      let next : List ℕ = next_level needs earlier level in
      let rest : List ℕ = concat (levels_after needs n (earlier ++ next) next) in
      subst (IsDistinct nat_eq) (append_assoc earlier next rest)
      (more-distinct n (earlier ++ next) next (next-distinct earlier level distinct))

  -- if level 0 has no object twice, the joined levels have none twice
  pub joined_levels-distinct : (n : ℕ) (first : List ℕ) → IsDistinct nat_eq first → IsDistinct nat_eq (joined_levels needs n first)
  unfolding joined_levels levels
  joined_levels-distinct n first distinct = more-distinct n first first distinct
