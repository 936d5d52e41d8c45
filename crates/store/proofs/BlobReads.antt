-- The effect of reading a byte string, derived from the effect of reading its sectors.
use Rattle.std.proofs.Common.{◌≡◌, ◌⊎◌, inl, inr, ⊎_elim, ℕ, ◌<◌, length, get_or, IsTrue, IsFalse, Result, Ok, Err, IfErr, IfOk, OnOk, refl, sym, ap, subst, ◌∙◌, arith}
use Rattle.std.specs.Global.{Vec}
use Rattle.std.specs.Int.{div_ceil}
use Rattle.std.proofs.lemmas.Bool.{false≢true}
use Rattle.std.proofs.lemmas.List.{get_or_default}
use Rattle.sector_disk.specs.Disk.{DiskFacts, HoldsNow, sector_bytes, AreCallsAtMost, AreCallsExactly}
use Rattle.sector_disk.proofs.Moments.{no_calls}
use Rattle.passes.specs.Calls.{AreReads}
use Rattle.passes.proofs.Readings.{no_reads, still_mixture}
use Rattle.roots.specs.declared.version.Version.{Version}
use Rattle.states.specs.State.{Library, State}
use Rattle.store.specs.declared.placed_entry.PlacedEntry.{PlacedEntry}
use Rattle.store.specs.declared.refusal.StoreRefusal.{StoreRefusal}
use Rattle.store.specs.declared.refusal.StoreRefusal.TheVariants.{Device, Reopen, OutOfMemory}
use Rattle.store.specs.Opened.{IsAtBy, Opened}
use Rattle.store.specs.Reads.{ReadsBlob}
use Rattle.store.specs.Stands.{library_of}
use Rattle.store.proofs.Holding.{err_is}
use Rattle.store.proofs.KeepsHolders.{keeps_reads}
use Rattle.store.proofs.Queries.{library_is}

module _ (version : Version) {D : Type 0} (facts : D → DiskFacts) (store : Opened D) where
  -- A store that failed answers a read with Reopen.
  pub blob_refused : (position : ℕ) → IsTrue store.failed → ReadsBlob version facts store store position (Err Reopen)
  blob_refused position failed = record {
    any_moment = λ honest. (no_reads (facts store.disk)).leaves;
    ok = λ s at. tt;
    unchanged = λ honest. (no_reads (facts store.disk)).same;
    same = λ s at. at;
    kept = (refl, refl, refl);
    table = refl;
    held = keeps_reads store.held (λ honest m mixture. mixture);
    size = λ d. tt;
    reopen = (λ is. failed, λ is. refl);
    refusals = inr (inl refl);
    device = λ is. absurd (cc is);
    untouched = λ other. refl;
    all_calls = λ d. tt;
    calls = λ d. record { some = no_calls (facts store.disk); time = omega arith };
  }

  -- The effect of reading the sectors of the entry at this position.
  module _ (after : D) (position : ℕ) (placed : PlacedEntry) (usable : IsFalse store.failed) (inside : position < length store.entries)
      (its : placed ≡ get_or store.entries position placed)
      (holds : IsTrue (facts store.disk).honest → HoldsNow (facts store.disk))
      (calls : AreCallsAtMost (div_ceil placed.entry.file_length sector_bytes) (facts store.disk) (facts after))
      (reads : IsTrue (facts store.disk).honest → AreReads (facts store.disk) (facts after)) where
    abbrev now : Opened D
    now = record { disk = after; root = store.root; entries = store.entries; held = store.held; failed = store.failed }

    is_at : (d : PlacedEntry) → placed ≡ get_or store.entries position d
    is_at d = its ∙ get_or_default store.entries position placed d inside

    still_at : (s : State) → IsAtBy version facts store s → IsAtBy version facts now s
    still_at s at = record {
      honest = subst IsTrue (sym calls.some.honest) at.honest;
      usable = at.usable;
      stands = λ m mixture. at.stands m (still_mixture (reads at.honest) m mixture);
    }

    its_calls : (d : PlacedEntry) → AreCallsAtMost (div_ceil (get_or store.entries position d).entry.file_length sector_bytes) (facts store.disk) (facts after)
    its_calls d = subst (λ (p : PlacedEntry). AreCallsAtMost (div_ceil p.entry.file_length sector_bytes) (facts store.disk) (facts after)) (is_at d) calls

    pub blob_read : (result : Result (Vec ℕ) StoreRefusal)
        → OnOk result (AreCallsExactly (div_ceil placed.entry.file_length sector_bytes) (facts store.disk) (facts after))
        → (IsTrue (facts store.disk).honest → IfOk result (λ bytes. bytes.items ≡ (library_of (facts store.disk).now placed).bytes))
        → IfOk result (λ bytes. length bytes.items ≡ placed.entry.file_length)
        → IfErr result (λ e. ((e ≡ Device) × ((facts store.disk).failures < (facts after).failures)) ⊎ ((e ≡ OutOfMemory) × (after ≡ store.disk)))
        → ReadsBlob version facts store now position result
    blob_read (Ok bytes) all_calls read size refused = record {
      any_moment = λ honest. (reads honest).leaves;
      ok = λ s at. read at.honest ∙ ap (λ (l : Library). l.bytes) (sym (library_is facts version store s holds at position placed inside ∙ ap (library_of (facts store.disk).now) (sym its)));
      unchanged = λ honest. (reads honest).same;
      same = still_at;
      kept = (refl, refl, refl);
      table = refl;
      held = keeps_reads store.held (λ honest. still_mixture (reads honest));
      size = λ d. size ∙ ap (λ (p : PlacedEntry). p.entry.file_length) (is_at d);
      reopen = (λ is. absurd (cc is), λ failed. absurd (false≢true (sym usable ∙ failed)));
      refusals = tt;
      device = tt;
      untouched = tt;
      all_calls = λ d. subst (λ (p : PlacedEntry). AreCallsExactly (div_ceil p.entry.file_length sector_bytes) (facts store.disk) (facts after)) (is_at d) all_calls;
      calls = its_calls;
    }
    blob_read (Err e) all_calls read size refused = record {
      any_moment = λ honest. (reads honest).leaves;
      ok = λ s at. tt;
      unchanged = λ honest. (reads honest).same;
      same = still_at;
      kept = (refl, refl, refl);
      table = refl;
      held = keeps_reads store.held (λ honest. still_mixture (reads honest));
      size = λ d. tt;
      reopen = (
        λ is. absurd (⊎_elim (λ both. absurd (cc (sym (err_is is) ∙ both.0))) (λ both. absurd (cc (sym (err_is is) ∙ both.0))) refused),
        λ failed. absurd (false≢true (sym usable ∙ failed)),
      );
      refusals = ⊎_elim (λ both. inl both.0) (λ both. inr (inr both.0)) refused;
      device = λ is. ⊎_elim (λ both. both.1) (λ both. absurd (cc (is, both.0))) refused;
      untouched = λ other. ⊎_elim (λ both. absurd (other both.0))
          (λ both. ap (λ disk. record { disk = disk; root = store.root; entries = store.entries; held = store.held; failed = store.failed }) both.1)
          refused;
      all_calls = λ d. tt;
      calls = its_calls;
    }
