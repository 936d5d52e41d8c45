-- Lists in the first of their places.
use Rattle.std.proofs.Common.{◌≡◌, ℕ, ◌-◌, ◌<◌, ◌≤◌, List, ◌++◌, length, replicate, refl, sym, subst, arith, length-append}
use Rattle.std.specs.Prelude.{All}
use Rattle.std.proofs.lemmas.List.{take_at, drop_at, length-replicate}
use Rattle.std.proofs.lemmas.List.Elements.{All-replicate}
use Rattle.extents.specs.Limits.{root_sectors}
use Rattle.extents.specs.Extent.{AreDistinct}
use Rattle.roots.specs.Fields.{zeros, UsesFirst, ListsSectors}

-- values that fit, followed by unused values, use the first places
pub uses_first : {A : Type 0} (places : ℕ) (values : List A) (unused : A) (Fits : A → Type 0) → length values ≤ places → All Fits values
    → UsesFirst places (length values) Fits unused (values ++ replicate (places - length values) unused)
uses_first {A} places values unused Fits room fits =
    let rest : List A = replicate (places - length values) unused in
    record {
      size = omega (arith, length-append values rest, length-replicate (places - length values) unused, room);
      room = room;
      used = subst (All Fits) (sym (take_at values rest (length values) refl)) fits;
      rest = subst (All (λ value. value ≡ unused)) (sym (drop_at values rest (length values) refl)) (All-replicate (λ value. value ≡ unused) (places - length values) unused refl);
    }

-- distinct sectors before `end`, followed by zeros, are a list of sectors in its places
pub lists_sectors : (places end : ℕ) (sectors : List ℕ) → length sectors ≤ places → All (λ sector. (root_sectors ≤ sector) × (sector < end)) sectors → AreDistinct sectors
    → ListsSectors places (length sectors) end (sectors ++ zeros (places - length sectors))
lists_sectors places end sectors room inside distinct = record {
  listed = uses_first places sectors 0 (λ sector. (root_sectors ≤ sector) × (sector < end)) room inside;
  distinct = subst AreDistinct (sym (take_at sectors (zeros (places - length sectors)) (length sectors) refl)) distinct;
}
