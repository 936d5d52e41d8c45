-- Taking sectors for bytes is a claim of these sectors.
use Rattle.std.proofs.Common.{◌≡◌, ⊎_elim, ℕ, Bool, true, List, ◌++◌, length, get_or, sym, ap, subst, ◌∙◌, arith}
use Rattle.std.specs.Prelude.{Contains}
use Rattle.std.proofs.lemmas.List.Elements.{Contains-get_or, Contains-append_left, Contains-append_right, Contains-append_cases}
use Rattle.extents.specs.declared.extent.Extent.{Extent}
use Rattle.extents.specs.Extent.{places}
use Rattle.extents.specs.Layout.{with_flags}
use Rattle.extents.specs.Taken.{IsGiven}
use Rattle.extents.specs.Used.{ClaimsJust}
use Rattle.extents.proofs.LayoutLemmas.{length-with_flags}
use Rattle.extents.proofs.PlacesLemmas.{distinct-append, distinct-places}
use Rattle.extents.proofs.UsedLemmas.{claims-take, claims-same_elements, unused-not_used}
use Rattle.passes.proofs.Extents.{in_extent}
use Rattle.store.specs.inside.Claimed.{IsClaimedBeside}

abbrev none : Extent
none = record { start = 0; count = 0 }

module _ {need : ℕ} {old mid : List Bool} {extents : List Extent} (given : IsGiven need old mid extents) where
  swap : (xs ys : List ℕ) (s : ℕ) → Contains (xs ++ ys) s → Contains (ys ++ xs) s
  swap xs ys s found = ⊎_elim (Contains-append_right ys xs s) (Contains-append_left ys xs s) (Contains-append_cases xs ys s found)

  -- the sectors of the taken extents are claimed beside those that were claimed before
  pub given_claimed : mid ≡ with_flags true extents old → IsClaimedBeside old mid (places extents)
  given_claimed is = record {
    size = ap length is ∙ length-with_flags true extents old given.inside;
    each = λ used just. subst (λ flags. ClaimsJust flags (used ++ places extents)) (sym is)
        (claims-same_elements (with_flags true extents old) (places extents ++ used) (used ++ places extents)
        (λ s. (swap (places extents) used s, swap used (places extents) s))
        (claims-take old used extents given.inside just));
    once = λ used just once. distinct-append used (places extents) once (distinct-places extents given.apart)
        (λ s in_used here. let of = in_extent extents s none here in unused-not_used old used s just (given.unused of.0 none of.1 s of.2) in_used);
    inside = λ k d lt.
        let of = in_extent extents (get_or (places extents) k d) none (Contains-get_or (places extents) k d lt) in
        let inside = given.inside of.0 none of.1 in
        (omega (arith, inside.1, of.2.0), omega (arith, inside.2, of.2.1));
  }
