-- The greatest length of bytes that a put under a new name accepts.
use Rattle.std.proofs.Common.{◌≡◌, ◌≢◌, ◌↔◌, ⊎_elim, ℕ, ◌+◌, ◌-◌, ◌*◌, ◌<◌, ◌≤◌, min, Bool, List, length, None, sym, ap, subst, ◌∙◌, arith}
use Rattle.std.specs.Int.{div_ceil}
use Rattle.std.proofs.lemmas.Bool.{cases_lt}
use Rattle.std.proofs.lemmas.Grind.{div_ceil_times}
use Rattle.extents.specs.Extent.{sector_count}
use Rattle.extents.specs.Layout.{unused_count}
use Rattle.extents.specs.Longest.{longest_runs}
use Rattle.states.specs.Limits.{most_libraries, last_generation}
use Rattle.states.specs.Cost.{catalogues_for, catalogue_cost, cost, free}
use Rattle.states.specs.State.{State}
use Rattle.store.specs.Names.{IsFileSize}
use Rattle.store.specs.Opened.{Opened}
use Rattle.store.specs.Holds.{room_of}
use Rattle.store.specs.Step.{longest_unused, refusal_of_new}
use Rattle.store.proofs.Frees.{IsCounted, bytes_full, bytes_fragmented, bytes_accepted, new_as_put, refusal_of_bytes}

-- bytes are accepted exactly if there is room for them and their entry, and the longest runs have enough
-- sectors for them
accepted_iff : (sectors longest more : ℕ) (s : State) (bytes : List ℕ) → s.generation ≢ last_generation
    → (refusal_of_bytes sectors longest more s bytes ≡ None) ↔ ((cost (length bytes) + more ≤ free sectors s) × (cost (length bytes) - 1 ≤ longest))
accepted_iff sectors longest more s bytes usable = (
  λ none. ⊎_elim
      (λ lt. absurd (let full = bytes_full sectors longest more s bytes usable lt in cc))
      (λ enough. ⊎_elim
      (λ lt. absurd (let split = bytes_fragmented sectors longest more s bytes usable enough lt in cc))
      (λ whole. (enough, whole))
      (cases_lt longest (cost (length bytes) - 1)))
      (cases_lt (free sectors s) (cost (length bytes) + more)),
  λ both. bytes_accepted sectors longest more s bytes usable both.0 both.1,
)

-- `size` bytes are accepted in `sectors` sectors exactly if they need at most `sectors` sectors
fit_iff : (size sectors : ℕ) → size ≤ 16777216 → (size ≤ min (512 * sectors) 16777216) ↔ (div_ceil size 512 ≤ sectors)
fit_iff size sectors few =
    let bounds = div_ceil_times size 512 (omega arith) in
    (λ le. omega (arith, le, bounds.0, bounds.1), λ le. omega (arith, le, bounds.0, bounds.1, few))

some_sectors : (size : ℕ) → 64 ≤ size → 1 ≤ div_ceil size 512
some_sectors size some = omega (arith, some, (div_ceil_times size 512 (omega arith)).0)

-- a need of sectors is at most the maximum exactly if there is room for it and the longest runs have enough sectors
room_iff : (need all longest count spare more listed left : ℕ) → 1 ≤ need → left + listed ≡ all → count + spare ≡ more + listed
    → (need ≤ min (all - (1 + count + spare)) longest) ↔ ((need + 1 + more ≤ left) × (need ≤ longest))
room_iff need all longest count spare more listed left some counted same = (
  λ le. (omega (arith, le, some, counted, same), omega (arith, le)),
  λ both. omega (arith, both.0, both.1, counted, same),
)

catalogues_more : (libraries count spare : ℕ) → count ≡ catalogues_for (libraries + 1) → spare ≡ count - catalogues_for libraries → count + spare ≡ catalogue_cost libraries + catalogues_for libraries
catalogues_more libraries count spare more rest = omega (arith, more, rest)

module _ {D : Type 0} {store view : Opened D} {layout : List Bool} {s : State} (is : view ≡ store)
    (counted : IsCounted view.root view.entries view.held layout s) (usable : view.root.generation ≢ last_generation)
    (few : length view.entries < most_libraries) where
  module _ (count spare : ℕ) (more : count ≡ catalogues_for (length view.entries + 1)) (rest : spare ≡ count - catalogues_for (length view.entries)) where
    pub largest_iff : (bytes : List ℕ) → IsFileSize (length bytes)
        → (length bytes ≤ min (512 * min (unused_count layout - (1 + count + spare)) (sector_count (longest_runs layout))) 16777216)
        ↔ (refusal_of_new (room_of store) (longest_unused store) s bytes ≡ None)
    largest_iff bytes size =
        let extra = catalogue_cost (length s.libraries) in
        let taken = λ (o : Opened D). refusal_of_new (room_of o) (longest_unused o) s bytes ≡ None in
        let accepted = accepted_iff (room_of view) (longest_unused view) extra s bytes (λ last. usable (sym counted.generation ∙ last)) in
        let first : refusal_of_new (room_of view) (longest_unused view) s bytes ≡ refusal_of_bytes (room_of view) (longest_unused view) extra s bytes =
        new_as_put (room_of view) (longest_unused view) s bytes (omega (arith, few, counted.count)) in
        let need = div_ceil (length bytes) 512 in
        let all = unused_count layout in
        let longest = sector_count (longest_runs layout) in
        let same = catalogues_more (length view.entries) count spare more rest ∙ ap (λ n. catalogue_cost n + catalogues_for (length view.entries)) (sym counted.count) in
        let fit = fit_iff (length bytes) (min (all - (1 + count + spare)) longest) size.1 in
        let roomed = room_iff need all longest count spare extra (catalogues_for (length view.entries)) (free (room_of view) s) (some_sectors (length bytes) size.0) counted.room same in (
          λ le. let both = roomed.0 (fit.0 le) in subst taken is (first ∙ accepted.1 (omega (arith, both.0), omega (arith, both.1, counted.longest))),
          λ none. let both = accepted.0 (sym first ∙ subst taken (sym is) none) in fit.1 (roomed.1 (omega (arith, both.0), omega (arith, both.1, counted.longest))),
        )
