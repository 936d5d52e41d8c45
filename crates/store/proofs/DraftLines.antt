-- Lines of an update that are refused, and facts about a draft's state.
use Rattle.std.proofs.Common.{◌≡◌, ◌≢◌, ◌↔◌, ℕ, IsTrue, Err, refl, sym, ap, subst, ◌∙◌}
use Rattle.sector_disk.specs.Disk.{DiskFacts, HoldsNow, LeavesOnly}
use Rattle.sector_disk.proofs.Moments.{at_rest}
use Rattle.states.specs.State.{State}
use Rattle.store.specs.declared.refusal.StoreRefusal.{StoreRefusal}
use Rattle.store.specs.declared.refusal.StoreRefusal.TheVariants.{Device, Reopen}
use Rattle.store.specs.Draft.{Drafted, IsDraftedAt, IsLine, IsSameDraft, StaysBeside}
use Rattle.store.specs.Stands.{Stands}
use Rattle.store.proofs.Holding.{err_is}
use Rattle.store.proofs.KeepsHolders.{keeps_same}
use Rattle.store.proofs.Outcomes.{still}

-- A line that changed neither the current state nor its disk.
module _ {D : Type 0} (facts : D → DiskFacts) {old new : Drafted D} (same : new.store ≡ old.store) where
  stays_still : StaysBeside facts old new
  stays_still = record {
    any_moment = λ s at. subst (λ o. LeavesOnly (facts old.store.disk) (facts o.disk) (λ m. Stands m s)) (sym same)
        (at_rest (facts old.store.disk) (λ m. Stands m s) (λ m mixture. (old.store.root, old.store.entries, at.stands m mixture)));
    root = ap (λ o. o.root) same;
    entries = ap (λ o. o.entries) same;
    table = ap (λ o. o.held) same;
    held = keeps_same facts same;
  }

  -- if the line changed nothing and `e` isn't Device, the line may be refused with `e`
  pub line_refused : {most : ℕ} {Refuses : StoreRefusal → Type 0} (e : StoreRefusal) → ((e ≡ Reopen) ↔ IsTrue old.store.failed) → e ≢ Device → Refuses e → IsSameDraft old new
      → IsLine facts old new most Refuses (Err e)
  line_refused e reopen early may draft = record {
    beside = stays_still;
    changed = record {
      reopen = (λ is. reopen.0 (err_is is), λ failed. ap Err (reopen.1 failed));
      device = λ is. absurd (early is);
      same = λ _. same;
      usable = tt;
      refusals = may;
      all_calls = tt;
      calls = still facts same;
    };
    refused = draft;
  }

-- each draft is the same draft as itself
pub same_draft : {D : Type 0} (u : Drafted D) → IsSameDraft u u
same_draft u = record { entries = refl; preloads = refl; touched = refl }

-- Facts about a draft's state.
module _ {D : Type 0} (facts : D → DiskFacts) (u : Drafted D) (holds : IsTrue (facts u.store.disk).honest → HoldsNow (facts u.store.disk)) {s d : State} (at : IsDraftedAt facts u s d) where
  -- The draft's state has the current generation.
  pub generation_drafted : d.generation ≡ u.store.root.generation
  generation_drafted = ap (λ t. t.generation) at.is ∙ ap (λ t. t.generation) (at.stands.stands (facts u.store.disk).now (holds at.stands.honest)).is
