-- For readers and callers: two sectors have at most one current root, and a commit's write makes the next root current.
use Rattle.std.proofs.Common.{◌≡◌, ℕ, ◌+◌, ◌<◌, ◌≤◌, ◌%◌, List, ltb, sym, ap, subst, ◌∙◌, ⊎_elim, inl, inr, arith}
use Rattle.std.proofs.lemmas.Bool.{cases_lt, lt-ltb, le-ltb, cond-true, cond-false}
use Rattle.roots.specs.declared.root.Root.{Root}
use Rattle.roots.specs.Root.{SpellsRoot}
use Rattle.roots.specs.Choice.{earlier, later, slot_of, KeepsVersion, IsCurrent}
use Rattle.roots.proofs.Roots.{one_root, spelt_has_magic}

-- At most one root is current in two sectors.
pub one_current : (sector0 sector1 : List ℕ) (a b : Root) → IsCurrent sector0 sector1 a → IsCurrent sector0 sector1 b → a ≡ b
one_current s0 s1 a b (inl first) (inl second) = one_root s0 a b first.0 second.0
one_current s0 s1 a b (inl first) (inr (even, odd, spells0, spells1, successive, keeps, is)) = absurd (first.2 (spelt_has_magic s1 odd spells1))
one_current s0 s1 a b (inr (even, odd, spells0, spells1, successive, keeps, is)) (inl second) = absurd (second.2 (spelt_has_magic s1 odd spells1))
one_current s0 s1 a b (inr (even, odd, spells0, spells1, successive, keeps, is)) (inr (even', odd', spells0', spells1', successive', keeps', is')) =
    let same0 : even ≡ even' = one_root s0 even even' spells0 spells0' in
    let same1 : odd ≡ odd' = one_root s1 odd odd' spells1 spells1' in
    is ∙ ap (λ r. later r odd) same0 ∙ ap (later even') same1 ∙ sym is'

-- the later of two roots is the one with the greater generation
later_first : (a b : Root) → b.generation ≤ a.generation → later a b ≡ a
later_first a b le = cond-false (ltb a.generation b.generation) b a (le-ltb a.generation b.generation le)

later_second : (a b : Root) → a.generation < b.generation → later a b ≡ b
later_second a b lt = cond-true (ltb a.generation b.generation) b a (lt-ltb a.generation b.generation lt)

-- the earlier of two roots is the one with the lesser generation
earlier_first : (a b : Root) → a.generation < b.generation → earlier a b ≡ a
earlier_first a b lt = cond-true (ltb a.generation b.generation) a b (lt-ltb a.generation b.generation lt)

earlier_second : (a b : Root) → b.generation ≤ a.generation → earlier a b ≡ b
earlier_second a b le = cond-false (ltb a.generation b.generation) a b (le-ltb a.generation b.generation le)

-- a current root is in the sector of its generation
pub current-spelt_even : (sector0 sector1 : List ℕ) (root : Root) → IsCurrent sector0 sector1 root → slot_of root.generation ≡ 0 → SpellsRoot sector0 root
current-spelt_even s0 s1 root (inl alone) slot = alone.0
current-spelt_even s0 s1 root (inr (even, odd, spells0, spells1, successive, keeps, is)) slot = ⊎_elim
    (λ lt.
    let odd_is : root ≡ odd = is ∙ later_second even odd lt in
    absurd (omega (arith, slot, ap (λ (r : Root). r.generation % 2) odd_is, successive.parity1)))
    (λ le. let even_is : root ≡ even = is ∙ later_first even odd le in subst (SpellsRoot s0) (sym even_is) spells0)
    (cases_lt even.generation odd.generation)

pub current-spelt_odd : (sector0 sector1 : List ℕ) (root : Root) → IsCurrent sector0 sector1 root → slot_of root.generation ≡ 1 → SpellsRoot sector1 root
current-spelt_odd s0 s1 root (inl alone) slot = absurd (omega (arith, ap (λ n. n % 2) alone.1, slot))
current-spelt_odd s0 s1 root (inr (even, odd, spells0, spells1, successive, keeps, is)) slot = ⊎_elim
    (λ lt. let odd_is : root ≡ odd = is ∙ later_second even odd lt in subst (SpellsRoot s1) (sym odd_is) spells1)
    (λ le.
    let even_is : root ≡ even = is ∙ later_first even odd le in
    absurd (omega (arith, slot, ap (λ (r : Root). r.generation % 2) even_is, successive.parity0)))
    (cases_lt even.generation odd.generation)

-- The root of the next generation, written to the other sector, is current if it may follow the current root by its version.
pub current-next_odd : (sector0 sector1 written : List ℕ) (root next : Root) → IsCurrent sector0 sector1 root → slot_of root.generation ≡ 0
    → next.generation ≡ root.generation + 1 → KeepsVersion root next → SpellsRoot written next → IsCurrent sector0 written next
current-next_odd s0 s1 written root next current slot follows keeps spells =
    inr (
      root,
      next,
      current-spelt_even s0 s1 root current slot,
      spells,
      record {
        parity0 = slot;
        parity1 = let odd : next.generation % 2 ≡ 1 = ap (λ n. n % 2) follows ∙ omega (arith, slot) in odd;
        apart = inl follows;
      },
      subst (λ r. KeepsVersion r (later root next)) (sym (earlier_first root next (omega (arith, follows))))
          (subst (KeepsVersion root) (sym (later_second root next (omega (arith, follows)))) keeps),
      sym (later_second root next (omega (arith, follows))),
    )

pub current-next_even : (sector0 sector1 written : List ℕ) (root next : Root) → IsCurrent sector0 sector1 root → slot_of root.generation ≡ 1
    → next.generation ≡ root.generation + 1 → KeepsVersion root next → SpellsRoot written next → IsCurrent written sector1 next
current-next_even s0 s1 written root next current slot follows keeps spells =
    inr (
      next,
      root,
      spells,
      current-spelt_odd s0 s1 root current slot,
      record {
        parity0 = let even : next.generation % 2 ≡ 0 = ap (λ n. n % 2) follows ∙ omega (arith, slot) in even;
        parity1 = slot;
        apart = inr follows;
      },
      subst (λ r. KeepsVersion r (later next root)) (sym (earlier_second next root (omega (arith, follows))))
          (subst (KeepsVersion root) (sym (later_first next root (omega (arith, follows)))) keeps),
      sym (later_first next root (omega (arith, follows))),
    )
