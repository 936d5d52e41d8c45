-- Lemmas about registries that are made or upgraded on given bytes.
use Rattle.std.proofs.Common.{◌≡◌, ◌⊎◌, inl, inr, ⊎_elim, ℕ, ◌+◌, ◌≤◌, List, ◌∷◌, length, Err, refl, sym, ◌∙◌, ap, subst, arith}
use Rattle.std.proofs.lemmas.Bool.{both_ways}
use Rattle.std.proofs.lemmas.List.{length-map}
use Rattle.std.specs.Prelude.{Bool, IsTrue, IsFalse, ◌↔◌, Option, Result, Ok, IfOk, IfErr}
use Rattle.sector_disk.specs.Disk.{Sector, Mixture, LeavesOnly, GrowsBehindSync}
use Rattle.sector_disk.proofs.Moments.{weaken, at_rest}
use Rattle.byte_disk.specs.declared.disk.ByteDisk.{ByteDisk}
use Rattle.byte_disk.specs.Bytes.{IsDiskLength, sectors_in}
use Rattle.byte_disk.specs.ByteDisk.{byte_facts}
use Rattle.byte_disk.specs.declared.step.Step.TheVariants.{Sync}
use Rattle.states.specs.Cost.{catalogues_for}
use Rattle.states.specs.State.{State, empty_state}
use Rattle.roots.specs.Root.{version_of}
use Rattle.roots.specs.declared.root.Root.{Root}
use Rattle.roots.specs.declared.version.Version.{Version}
use Rattle.roots.specs.declared.version.Version.TheVariants.{One, Two}
use Rattle.store.specs.Opened.{Opened}
use Rattle.store.specs.declared.placed_entry.PlacedEntry.{PlacedEntry}
use Rattle.store.specs.Opening.{HasRootMagic, RefusesOpen, RefusesLook}
use Rattle.store.specs.Step.{refusal_of_upgrade, IsUpgradeAnswer}
use Rattle.store.specs.declared.refusal.StoreRefusal.{StoreRefusal}
use Rattle.store.specs.declared.refusal.StoreRefusal.TheVariants.{Device, OutOfMemory}
use Rattle.store.specs.Stands as sectors
use Rattle.store.specs.Stands.{StandsBy, library_of}
use Rattle.store.specs.Upgraded.{upgraded, IsRelistedFrom}
use Rattle.store.proofs.StandsLemmas.{one_root_intact}
use Rattle.registry.specs.Opened.{IsAt}
use Rattle.registry.specs.Stands.{Stands, StandsOld, StandsEither}
use Rattle.registry.specs.Upgraded.{IsNotOld}
use Rattle.byte_registry.specs.Asked.{IsDiskOf, IsBadLength, IsUnopened, IsFormatted, IsUpgraded, IsUnupgraded, LeadsOver}
use Rattle.byte_registry.specs.Plans.{behind_sync, synced_plan}
use Rattle.byte_registry.proofs.Asking.{leads_from, starts_with}
use Rattle.byte_registry.proofs.Syncs.{plan_few}

-- each mixture of a registry at a state holds that state
found_at : (opened : Opened ByteDisk) (s : State) → IsAt byte_facts opened s → (m : List Sector) → Mixture (byte_facts opened.disk) m → Stands m s
found_at opened s at m mixture = record { stored = (opened.root, opened.entries, at.stored.stands m mixture); libraries = at.libraries }

-- If an empty registry was made on the bytes, its plan is that of an empty registry.
pub formatted : (bytes : List ℕ) (old : ByteDisk) (opened : Opened ByteDisk) → IsDiskOf bytes old
    → LeavesOnly (byte_facts old) (byte_facts opened.disk) (λ m. Mixture (byte_facts old) m ⊎ Stands m empty_state)
    → IsAt byte_facts opened empty_state → (HasRootMagic (byte_facts old).now → ⊥)
    → GrowsBehindSync 2 (byte_facts old).log (byte_facts opened.disk).log → IsFormatted bytes (synced_plan opened.disk)
formatted bytes old opened is leaves at unformatted log = record {
  size = is.size;
  unformatted = subst (λ m. HasRootMagic m → ⊥) is.starts.now unformatted;
  leads = leads_from bytes old opened.disk (λ m. m ≡ sectors_in bytes) (λ m. Stands m empty_state) is
      (weaken (λ m. Mixture (byte_facts old) m ⊎ Stands m empty_state) (λ m. (m ≡ sectors_in bytes) ⊎ Stands m empty_state)
      (λ m left. ⊎_elim (λ mixture. inl (starts_with bytes old is m mixture)) (λ made. inr made) left) leaves)
      (found_at opened empty_state at);
  few = plan_few opened.disk 2 (subst (λ before. GrowsBehindSync 2 before (byte_facts opened.disk).log) is.starts.log log);
}

two_not_one : Two ≡ One → ⊥
two_not_one e = cc

-- Sectors that hold a state by the new rules hold none by the old rules.
pub not_old : (m : List Sector) (s : State) → Stands m s → IsNotOld m
not_old m s stands t old =
    let a = stands.stored in
    let b = old.stored in
    let same = one_root_intact m a.0 b.0 a.1 b.1 a.2.intact b.2.intact in
    two_not_one (sym a.2.of_version ∙ ap version_of same ∙ b.2.of_version)

-- A registry of version 1 on the bytes was upgraded.
module _ (bytes : List ℕ) (old : ByteDisk) (is : IsDiskOf bytes old) (opened : Opened ByteDisk) (s : State) where
  pub upgraded_old : StandsOld (byte_facts old).now s → IsAt byte_facts opened (upgraded s)
      → LeavesOnly (byte_facts old) (byte_facts opened.disk) (λ m. Mixture (byte_facts old) m ⊎ StandsOld m s ⊎ Stands m (upgraded s))
      → IsRelistedFrom (byte_facts old).now s opened
      → GrowsBehindSync (catalogues_for (length opened.entries) + 3) (byte_facts old).log (byte_facts opened.disk).log
      → LeadsOver bytes s (synced_plan opened.disk)
  upgraded_old stands at leaves listed log =
      let held : StandsOld (sectors_in bytes) s = subst (λ m. StandsOld m s) is.starts.now stands in
      let as_many : length opened.entries ≡ length s.libraries = sym (ap (λ (t : State). length t.libraries) listed.stood.is ∙ length-map opened.entries (library_of (byte_facts old).now)) in
      record {
        holds = record { size = is.size; stands = held };
        leads = leads_from bytes old opened.disk (λ m. StandsOld m s) (λ m. Stands m (upgraded s)) is
            (weaken (λ m. Mixture (byte_facts old) m ⊎ StandsOld m s ⊎ Stands m (upgraded s)) (λ m. StandsOld m s ⊎ Stands m (upgraded s))
            (λ m left. ⊎_elim (λ mixture. inl (subst (λ n. StandsOld n s) (sym (starts_with bytes old is m mixture)) held)) (λ later. later) left) leaves)
            (found_at opened (upgraded s) at);
        few = subst (λ n. length (synced_plan opened.disk) ≤ catalogues_for n + 4) as_many
            (omega (
              arith,
              plan_few opened.disk (catalogues_for (length opened.entries) + 3)
                  (subst (λ before. GrowsBehindSync (catalogues_for (length opened.entries) + 3) before (byte_facts opened.disk).log) is.starts.log
                  log),
            ));
      }

-- If the registry has version 2, the plan of a disk to which no call was made is one sync.
module _ (bytes : List ℕ) (disk : ByteDisk) (is : IsDiskOf bytes disk) (s : State) (stands : Stands (sectors_in bytes) s) where
  still : (m : List Sector) → Mixture (byte_facts disk) m → Stands m s
  still m mixture = subst (λ n. Stands n s) (sym (starts_with bytes disk is m mixture)) stands

  pub upgraded_current : IsUpgraded bytes s (synced_plan disk)
  upgraded_current = inr (
    record { size = is.size; stands = stands },
    leads_from bytes disk disk (λ m. Stands m s) (λ m. Stands m s) is (at_rest (byte_facts disk) (λ m. Stands m s ⊎ Stands m s) (λ m mixture. inl (still m mixture))) still,
    ap (λ steps. Sync ∷ behind_sync steps) is.unplanned,
  )

-- A disk that is made again from bytes of version 2 has this plan.
pub upgraded_anew : (bytes : List ℕ) (made : Result ByteDisk (StoreRefusal × Option ByteDisk)) (s : State) → Stands (sectors_in bytes) s → IfOk made (IsDiskOf bytes)
    → IfOk made (λ disk. (x : State) × IsUpgraded bytes x (synced_plan disk))
upgraded_anew bytes (Ok disk) s stands is = (s, upgraded_current bytes disk is s stands)
upgraded_anew bytes (Err refusal) s stands is = tt

pub is_disk : (bytes : List ℕ) (made : Result ByteDisk (StoreRefusal × Option ByteDisk)) → IsDiskLength (length bytes)
    → IfErr made (λ refused. IsBadLength bytes refused.0) → IfErr made (λ refused. IsUnupgraded bytes refused.0)
is_disk bytes (Ok disk) size bad = tt
is_disk bytes (Err refused) size bad = absurd (bad.1 size)

-- The version of the current root determines by which rules the sectors hold a state.
module _ (m : List Sector) (is_current : Bool)
    (tells : (version : Version) (root : Root) (entries : List PlacedEntry) (s : State) → StandsBy version m root entries s
    → IsTrue is_current ↔ (version ≡ Two)) (s : State) where
  pub current_only : IsTrue is_current → StandsOld m s → ⊥
  current_only true_is old = two_not_one (sym ((tells One old.stored.0 old.stored.1 s old.stored.2).0 true_is))

  pub old_only : IsFalse is_current → Stands m s → ⊥
  old_only false_is current = both_ways is_current false_is ((tells Two current.stored.0 current.stored.1 s current.stored.2).1 refl)

-- If an upgrade of the opened disk is refused, the bytes aren't upgraded, for the same reason.
pub unupgraded : (bytes : List ℕ) (old : ByteDisk) → IsDiskOf bytes old → (refusal : StoreRefusal)
    → ((s : State) → StandsOld (byte_facts old).now s → IsUpgradeAnswer (refusal_of_upgrade (byte_facts old).sectors s) (Err refusal))
    → ((s : State) → Stands (byte_facts old).now s → (refusal ≡ Device) ⊎ (refusal ≡ OutOfMemory))
    → (IsNotOld (byte_facts old).now → RefusesLook StandsEither (byte_facts old).now refusal) → IsUnupgraded bytes refusal
unupgraded bytes old is refusal answer stands refused = record {
  old = λ s held. subst (λ n. IsUpgradeAnswer (refusal_of_upgrade n s) (Err refusal)) is.starts.sectors (answer s (subst (λ m. StandsOld m s) (sym is.starts.now) held.stands));
  held = λ s held. stands s (subst (λ m. Stands m s) (sym is.starts.now) held.stands);
  why = inr (is.size, λ not_old. subst (λ m. RefusesLook StandsEither m refusal) is.starts.now (refused (subst IsNotOld (sym is.starts.now) not_old)));
}

-- If opening the disk is refused, nothing is opened on the bytes, for the same reason.
pub unopened : (bytes : List ℕ) (old : ByteDisk) → IsDiskOf bytes old → (refusal : StoreRefusal)
    → ((s : State) → sectors.Stands (byte_facts old).now s → (refusal ≡ Device) ⊎ (refusal ≡ OutOfMemory))
    → RefusesOpen sectors.Stands (byte_facts old).now refusal → IsUnopened bytes refusal
unopened bytes old is refusal stands refused = record {
  why = inr (is.size, subst (λ m. RefusesOpen sectors.Stands m refusal) is.starts.now refused);
  held = λ s held. stands s (subst (λ m. sectors.Stands m s) (sym is.starts.now) held.stands);
}
