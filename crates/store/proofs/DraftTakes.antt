-- The room that bytes get beside a draft, and the refusal if they get none.
use Rattle.std.proofs.Common.{◌≡◌, ◌≢◌, ◌↔◌, ⊎_elim, ℕ, ◌+◌, ◌-◌, ◌<◌, ◌≤◌, nat_eq, nat_lt, Bool, List, [], length, IsTrue, IsFalse, Result, Ok, Err, Some, None, refl, sym, ap, subst, ◌∙◌, arith}
use Rattle.std.specs.Int.{div_ceil}
use Rattle.std.proofs.lemmas.Bool.{eq-eqb, eqb-true, false≢true}
use Rattle.std.proofs.lemmas.List.{nil_from_length}
use Rattle.extents.specs.declared.refusal.TakeRefusal.{TakeRefusal}
use Rattle.extents.specs.declared.refusal.TakeRefusal.TheVariants as take
use Rattle.states.specs.Cost.{catalogue_cost, cost, free}
use Rattle.states.specs.Limits.{last_generation, most_libraries}
use Rattle.states.specs.State.{State}
use Rattle.store.specs.declared.kept.Kept.{Kept}
use Rattle.store.specs.declared.placed_entry.PlacedEntry.{PlacedEntry}
use Rattle.store.specs.declared.refusal.StoreRefusal.{StoreRefusal}
use Rattle.store.specs.declared.refusal.StoreRefusal.TheVariants.{Device, GenerationEnd, OutOfMemory, Reopen}
use Rattle.store.specs.Stands.{catalogues_of}
use Rattle.store.specs.Step.{IsAnswer, refusal_of_new, refusal_of_take}
use Rattle.store.specs.inside.Draft.{IsDraftCounted, TakesBeside, spare_of, with_layout}
use Rattle.store.specs.inside.Prepared.{IsTestedChange}
use Rattle.store.specs.inside.Room.{IsPutTaken}
use Rattle.store.specs.inside.Stored.{longest_in}
use Rattle.store.proofs.Frees.{Takes, bytes_refused, bytes_taken, if_no, if_yes, new_as_put, refusal_of_bytes}
use Rattle.store.proofs.Holding.{err_is}
use Rattle.store.proofs.Outcomes.{memory_wants}
use Rattle.store.proofs.Refusals.{end-device, end-reopen}

module _ {kept : Kept} {name bytes : List ℕ} {spare : ℕ} {Refuses : StoreRefusal → Type 0} where
  pub takes_none : {layout : List Bool} → (e : StoreRefusal) → layout ≡ kept.layout → ((e ≡ Reopen) ↔ IsTrue kept.failed) → e ≢ Device → Refuses e
      → TakesBeside kept (with_layout kept layout) name bytes spare Refuses (Err e)
  takes_none e same reopen early may = record {
    kept = refl;
    taken = tt;
    same = same;
    reopen = (λ is. reopen.0 (err_is is), λ failed. ap Err (reopen.1 failed));
    refusals = may;
    early = early;
  }

  -- if the tests of a change refuse bytes, nothing is taken
  pub takes_tested : Refuses Reopen → Refuses GenerationEnd → (e : StoreRefusal) → IsTestedChange kept e → TakesBeside kept kept name bytes spare Refuses (Err e)
  takes_tested reopen ends e tested = ⊎_elim
      (λ failed. subst (λ e. TakesBeside kept kept name bytes spare Refuses (Err e)) (sym failed.0)
      (takes_none Reopen refl (λ _. failed.1, λ _. refl) (λ is. cc is) reopen))
      (λ last. subst (λ e. TakesBeside kept kept name bytes spare Refuses (Err e)) (sym last.0)
      (takes_none GenerationEnd refl (λ is. absurd (end-reopen is), λ failed. absurd (false≢true (sym last.1 ∙ failed))) end-device ends))
      tested

  -- if room is taken for bytes, only the layout changes
  pub takes_put : {put : PlacedEntry} {layout : List Bool} {more : ℕ} (listed : List ℕ) → IsPutTaken kept.layout layout name bytes 0 more put listed → more ≡ spare → IsFalse kept.failed
      → TakesBeside kept (with_layout kept layout) name bytes spare Refuses (Ok put)
  takes_put {put = put} {layout = layout} {more = more} listed taken same usable = record {
    kept = refl;
    taken = subst (λ n. IsPutTaken kept.layout layout name bytes 0 n put []) same
        (subst (IsPutTaken kept.layout layout name bytes 0 more put) (nil_from_length listed taken.count) taken);
    same = tt;
    reopen = (λ is. absurd (cc is), λ failed. absurd (false≢true (sym usable ∙ failed)));
    refusals = tt;
    early = tt;
  }

-- The first refusal of bytes in a draft, as determined by the result of taking room.
module _ {kept : Kept} {libraries sectors : ℕ} {d : State} (counted : IsDraftCounted kept libraries sectors d) (bytes : List ℕ) (usable : kept.root.generation ≢ last_generation) where
  going_on : d.generation ≢ last_generation
  going_on last = usable (sym counted.generation ∙ last)

  module _ {T : Type 0} {all : ℕ} {result : Result T TakeRefusal} (more : ℕ)
      (enough : all ≡ cost (length bytes) + more + spare_of (length (catalogues_of kept.root)) libraries) (takes : Takes kept.layout (div_ceil (length bytes) 512) all result) where
    full_is : (result ≡ Err take.Full) ↔ (free sectors d < cost (length bytes) + more)
    full_is = (
      λ of. omega (arith, takes.full.0 of, counted.free, enough),
      λ lt. takes.full.1 (omega (arith, lt, counted.free, enough)),
    )

    fragmented_is : (result ≡ Err take.Fragmented) ↔ ((cost (length bytes) + more ≤ free sectors d) × (longest_in kept < cost (length bytes) - 1))
    fragmented_is = (
      λ of. let both = takes.fragmented.0 of in (omega (arith, both.0, counted.free, enough), omega (arith, both.1)),
      λ both. takes.fragmented.1 (omega (arith, both.0, counted.free, enough), omega (arith, both.1)),
    )

  module _ {spare : ℕ} (few : libraries < most_libraries) (same : spare ≡ spare_of (length (catalogues_of kept.root)) libraries + catalogue_cost libraries) where
    new_enough : div_ceil (length bytes) 512 + 1 + 0 + spare ≡ cost (length bytes) + catalogue_cost (length d.libraries) + spare_of (length (catalogues_of kept.root)) libraries
    new_enough = omega (arith, same, ap catalogue_cost counted.count)

    first_is : refusal_of_new sectors (longest_in kept) d bytes ≡ refusal_of_bytes sectors (longest_in kept) (catalogue_cost (length d.libraries)) d bytes
    first_is = new_as_put sectors (longest_in kept) d bytes (omega (arith, few, counted.count))

    pub draft_new_refused : {T : Type 0} (e : TakeRefusal) → Takes {T = T} kept.layout (div_ceil (length bytes) 512) (div_ceil (length bytes) 512 + 1 + 0 + spare) (Err e)
        → refusal_of_new sectors (longest_in kept) d bytes ≡ Some (refusal_of_take e)
    draft_new_refused e takes = first_is ∙ bytes_refused sectors (longest_in kept) (catalogue_cost (length d.libraries)) d bytes going_on e
        (full_is (catalogue_cost (length d.libraries)) new_enough takes) (fragmented_is (catalogue_cost (length d.libraries)) new_enough takes)

    pub draft_new_taken : {T : Type 0} {x : T} → Takes kept.layout (div_ceil (length bytes) 512) (div_ceil (length bytes) 512 + 1 + 0 + spare) (Ok x)
        → refusal_of_new sectors (longest_in kept) d bytes ≡ None
    draft_new_taken {x = x} takes = first_is ∙ bytes_taken sectors (longest_in kept) (catalogue_cost (length d.libraries)) d bytes going_on x
        (full_is (catalogue_cost (length d.libraries)) new_enough takes) (fragmented_is (catalogue_cost (length d.libraries)) new_enough takes)

-- At the last generation bytes are refused with GenerationEnd.
draft_ends : (sectors longest more : ℕ) (d : State) (bytes : List ℕ) → d.generation ≡ last_generation → refusal_of_bytes sectors longest more d bytes ≡ Some GenerationEnd
draft_ends sectors longest more d bytes last = if_yes (nat_eq d.generation last_generation) _ _ (λ isnt. false≢true (sym isnt ∙ eq-eqb d.generation last_generation last))

-- The refusals of one more byte string that come before room is taken, by the numbers of the draft's state.
module _ {kept : Kept} {libraries sectors : ℕ} {d : State} (counted : IsDraftCounted kept libraries sectors d) (bytes : List ℕ) where
  module _ (few : libraries < most_libraries) where
    as_put : refusal_of_new sectors (longest_in kept) d bytes ≡ refusal_of_bytes sectors (longest_in kept) (catalogue_cost (length d.libraries)) d bytes
    as_put = new_as_put sectors (longest_in kept) d bytes (omega (arith, few, counted.count))

    pub draft_new_ends : kept.root.generation ≡ last_generation → IsAnswer (refusal_of_new sectors (longest_in kept) d bytes) (Err GenerationEnd)
    draft_new_ends last = subst (λ first. IsAnswer first (Err GenerationEnd))
        (sym (as_put ∙ draft_ends sectors (longest_in kept) (catalogue_cost (length d.libraries)) d bytes (counted.generation ∙ last))) refl

    pub draft_new_no_memory : kept.root.generation ≢ last_generation → IsAnswer (refusal_of_new sectors (longest_in kept) d bytes) (Err OutOfMemory)
    draft_new_no_memory usable = subst (λ first. IsAnswer first (Err OutOfMemory))
        (sym (as_put ∙ if_no (nat_eq d.generation last_generation) _ _ (λ last. usable (sym counted.generation ∙ eqb-true d.generation last_generation last))))
        (memory_wants (nat_lt (free sectors d) (cost (length bytes) + catalogue_cost (length d.libraries))) (nat_lt (longest_in kept) (cost (length bytes) - 1)))
