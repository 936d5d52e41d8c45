-- A prepared change: its list, what is kept once it is made, and the answers of a store.
use Rattle.std.proofs.Common.{◌≡◌, ◌≢◌, ◌⊎◌, inl, ⊎_elim, ℕ, ◌-◌, Bool, List, [], ◌∷◌, ◌++◌, length, map, IsTrue, IsFalse, Option, Some, None, Result, Ok, Err, refl, sym, ap, subst, ◌∙◌, arith}
use Rattle.std.specs.Prelude.{IfErr, IsErrAnd}
use Rattle.std.proofs.lemmas.Bool.{false≢true}
use Rattle.std.proofs.lemmas.List.{map_push, map-set}
use Rattle.std.proofs.lemmas.Result.{IfErr-weaker, err_from_is_err_and}
use Rattle.std.specs.Int.{div_ceil}
use Rattle.sector_disk.specs.Disk.{Sector, sector_bytes, DiskFacts, LeavesOnly, Mixture, IsMixtureBut}
use Rattle.extents.specs.Extent.{sector_count}
use Rattle.extents.specs.Longest.{longest_runs}
use Rattle.roots.specs.declared.root.Root.{Root}
use Rattle.roots.specs.declared.version.Version.TheVariants.{Two}
use Rattle.states.specs.State.{State}
use Rattle.store.specs.declared.change.Change.{Change}
use Rattle.store.specs.declared.change.Staged.{Staged}
use Rattle.store.specs.declared.change.Staged.TheVariants.{Nothing, Catalogues, Put}
use Rattle.store.specs.declared.edit.Edit.{Edit}
use Rattle.store.specs.declared.edit.Edit.TheVariants as edit
use Rattle.store.specs.declared.kept.Kept.{Kept}
use Rattle.store.specs.declared.prepared.Prepared.{Prepared}
use Rattle.store.specs.declared.placed_entry.PlacedEntry.{PlacedEntry}
use Rattle.store.specs.declared.holds.HeldRow.{HeldRow}
use Rattle.store.specs.declared.refusal.StoreRefusal.{StoreRefusal}
use Rattle.store.specs.declared.refusal.StoreRefusal.TheVariants.{Device, Reopen, TooMany, GenerationEnd}
use Rattle.store.specs.Changed.{Changed}
use Rattle.store.specs.Holds.{KeepsHolders, layout_in_use, lone_sectors, room_of}
use Rattle.store.specs.Opened.{Opened, IsAt}
use Rattle.store.specs.Stands.{Stands, catalogues_of, entry_sectors, extents_of}
use Rattle.store.specs.Taken.{HaveBytes, IsTaken}
use Rattle.store.specs.Step.{IsAnswer, IsExactAnswer, longest_unused}
use Rattle.store.specs.inside.Change.{CanBeStaged, HasBytes, HasSpelling, IsFollowed, staged_sectors}
use Rattle.store.specs.inside.Edit.{ReleasesReplaced, IsWithin, edited, edited_by}
use Rattle.store.specs.inside.Kept.{IsKept}
use Rattle.store.specs.inside.Prepared.{IsMade, IsPrepared, IsReady, IsTestedChange, IsTestedNew, Makes, Prepares, Puts}
use Rattle.store.specs.inside.Room.{IsRootOr}
use Rattle.store.specs.inside.Stored.{IsStored, ShowsSame, longest_in, opened, sectors_for}
use Rattle.store.proofs.Anew.{more_free, moved_claimed, moved_size}
use Rattle.store.proofs.Following.{following_kept}
use Rattle.store.proofs.GivenUp.{given_claimed, given_few, given_keeps, given_rows, given_size, rows_more, still_removed, still_set}
use Rattle.store.proofs.Holding.{err_is}
use Rattle.store.proofs.KeepsHolders.{keeps_same, keeps_table}
use Rattle.store.proofs.Outcomes.{still}
use Rattle.store.proofs.Refusals.{end-device, end-reopen, many-device, many-reopen}
use Rattle.store.proofs.Removed.{map_remove}
use Rattle.store.proofs.Untouched.{untouched}
use Rattle.store.proofs.Written.{have_bytes}

-- an edit of the values of all entries results in the values of the edited entries
pub edited_map : {A : Type 0} (of : PlacedEntry → A) (its : Edit) (entries : List PlacedEntry) → edited_by of its (map of entries) ≡ map of (edited its entries)
edited_map of edit.Nothing entries = refl
edited_map of (edit.Append put) entries = sym (map_push of entries put)
edited_map of (edit.Replace position put) entries = sym (map-set of entries position put)
edited_map of (edit.Remove position) entries = sym (map_remove of entries position)

-- an entry that can be staged can be encoded
pub staged_spelt : (sectors : ℕ) (staged : Staged) (listed : List ℕ) → CanBeStaged sectors staged listed → HasSpelling staged
staged_spelt sectors Nothing listed room = tt
staged_spelt sectors (Catalogues catalogues) listed room = tt
staged_spelt sectors (Put put catalogues) listed room = room.0.spelling

-- What is kept once a change is made and the sectors that it gave up are free, except those that somebody
-- holds.
module _ {root : Root} {entries : List PlacedEntry} {held left : List HeldRow} {layout : List Bool} (change : Change) (new : List Bool) where
  pub settled_kept : (its : Edit) → IsPrepared root entries held layout (record { change = change; edit = its }) → IsWithin its (length entries) → ReleasesReplaced its root entries held left layout new → IsKept change.root (edited its entries) left new
  settled_kept edit.Nothing is within settled = subst (λ l. IsKept change.root entries l new) (sym settled.0)
      (following_kept is.next is.kept.root_fits held new
      (moved_size is.kept is.claimed new settled.1)
      (is.room (root.sectors - length (lone_sectors held)) (omega arith))
      is.kept.rows
      (moved_claimed is.kept is.claimed change.root entries is.moved new settled.1))
  settled_kept (edit.Append put) is within settled = subst (λ l. IsKept change.root (entries ++ put ∷ []) l new) (sym settled.0)
      (following_kept is.next is.kept.root_fits held new
      (moved_size is.kept is.claimed new settled.1)
      (is.room (root.sectors - length (lone_sectors held)) (omega arith))
      (rows_more put is.kept.rows)
      (moved_claimed is.kept is.claimed change.root (entries ++ put ∷ []) is.moved new settled.1))
  settled_kept (edit.Replace position put) is within up =
      following_kept is.next is.kept.root_fits left new
      (given_size is.kept position within up is.claimed)
      (is.room (root.sectors - length (lone_sectors left)) (omega (arith, given_few is.kept position within up)))
      (given_rows is.kept position within up (edited (edit.Replace position put) entries) (still_set entries position within put))
      (given_claimed is.kept position within up is.claimed change.root (edited (edit.Replace position put) entries) is.moved)
  settled_kept (edit.Remove position) is within up =
      following_kept is.next is.kept.root_fits left new
      (given_size is.kept position within up is.claimed)
      (is.room (root.sectors - length (lone_sectors left)) (omega (arith, given_few is.kept position within up)))
      (given_rows is.kept position within up (edited (edit.Remove position) entries) (still_removed entries position within))
      (given_claimed is.kept position within up is.claimed change.root (edited (edit.Remove position) entries) is.moved)

  -- Held byte strings keep their holders and their bytes on a disk of which only the staged sectors and the roots were
  -- changed.
  pub settled_keeps : (its : Edit) → IsPrepared root entries held layout (record { change = change; edit = its }) → IsWithin its (length entries) → ReleasesReplaced its root entries held left layout new → {before after : DiskFacts}
      → (IsTrue before.honest → (m : List Sector) → Mixture after m → IsMixtureBut (IsRootOr (staged_sectors change.staged)) before m) → KeepsHolders before after held left
  settled_keeps edit.Nothing is within settled {before = before} {after = after} others =
      subst (KeepsHolders before after held) (sym settled.0) (keeps_table is.kept (staged_sectors change.staged) (more_free is.kept is.claimed) others)
  settled_keeps (edit.Append put) is within settled {before = before} {after = after} others =
      subst (KeepsHolders before after held) (sym settled.0) (keeps_table is.kept (staged_sectors change.staged) (more_free is.kept is.claimed) others)
  settled_keeps (edit.Replace position put) is within up others = given_keeps is.kept position within up is.claimed others
  settled_keeps (edit.Remove position) is within up others = given_keeps is.kept position within up is.claimed others

-- data that are consistent beside a disk are consistent beside a disk of the same size
pub stored_as : {sectors size : ℕ} (kept : Kept) → size ≡ sectors → IsStored sectors kept → IsStored size kept
stored_as kept same stored = (stored.0, stored.1, same ∙ stored.2, stored.3, stored.4)

-- contracts see no difference between a store and itself
pub same_shown : (kept : Kept) → ShowsSame kept kept
same_shown kept = record { root = refl; entries = refl; held = refl; failed = refl }

-- The result of preparing if the store has failed before.
module _ {old new : Kept} {Refuses : StoreRefusal → Type 0} (same : ShowsSame old new) (stored : IsStored old.root.sectors new) where
  pub prepares_reopen : IsTrue old.failed → Refuses Reopen → Prepares old new Refuses (Err Reopen)
  prepares_reopen failed refuses = record {
    same = same;
    ready = tt;
    stored = stored;
    reopen = (λ _. failed, λ _. refl);
    refusals = refuses;
    early = λ is. cc is;
  }

  -- The result of preparing if it is refused for another reason.
  pub prepares_none : (e : StoreRefusal) → IsFalse old.failed → e ≢ Reopen → e ≢ Device → Refuses e → Prepares old new Refuses (Err e)
  prepares_none e usable other early refuses = record {
    same = same;
    ready = tt;
    stored = stored;
    reopen = (λ reopen. absurd (other (err_is reopen)), λ failed. absurd (false≢true (sym usable ∙ failed)));
    refusals = refuses;
    early = early;
  }

-- The tests of a change, and of one more byte string, come before everything else.
module _ {kept : Kept} {Refuses : StoreRefusal → Type 0} (stored : IsStored kept.root.sectors kept) where
  pub tested_change : (e : StoreRefusal) → Refuses Reopen → Refuses GenerationEnd
      → IsTestedChange kept e → Prepares kept kept Refuses (Err e)
  tested_change e reopen ends refused = ⊎_elim
      (λ failed. subst (λ e. Prepares kept kept Refuses (Err e)) (sym failed.0) (prepares_reopen (same_shown kept) stored failed.1 reopen))
      (λ last. subst (λ e. Prepares kept kept Refuses (Err e)) (sym last.0) (prepares_none (same_shown kept) stored GenerationEnd last.1 end-reopen end-device ends))
      refused

  pub tested_new : (e : StoreRefusal) → Refuses Reopen → Refuses GenerationEnd → Refuses TooMany → IsTestedNew kept e → Prepares kept kept Refuses (Err e)
  tested_new e reopen ends many refused = ⊎_elim
      (λ failed. subst (λ e. Prepares kept kept Refuses (Err e)) (sym failed.0) (prepares_reopen (same_shown kept) stored failed.1 reopen))
      (λ others. ⊎_elim
      (λ full. subst (λ e. Prepares kept kept Refuses (Err e)) (sym full.0) (prepares_none (same_shown kept) stored TooMany full.1 many-reopen many-device many))
      (λ last. subst (λ e. Prepares kept kept Refuses (Err e)) (sym last.0) (prepares_none (same_shown kept) stored GenerationEnd last.1 end-reopen end-device ends))
      others)
      refused

-- the result of preparing if it succeeds
pub prepares_ready : {old new : Kept} {Refuses : StoreRefusal → Type 0} {prepared : Prepared} → ShowsSame old new → IsReady old.root.sectors new prepared
    → IsFalse old.failed → Prepares old new Refuses (Ok prepared)
prepares_ready same ready usable = record {
  same = same;
  ready = ready;
  stored = tt;
  reopen = (λ reopen. absurd (cc reopen), λ failed. absurd (false≢true (sym usable ∙ failed)));
  refusals = tt;
  early = tt;
}

-- if Ok is an allowed answer, and Device is the only possible error, the result is an allowed answer
pub answered : (first : Option StoreRefusal) (result : Result (Unit {0}) StoreRefusal) → IsAnswer first (Ok tt) → IfErr result (λ e. e ≡ Device) → IsAnswer first result
answered first (Ok done) accepted device = accepted
answered None (Err e) accepted device = inl device
answered (Some refusal) (Err e) accepted device = absurd accepted

pub answered_exactly : (first : Option StoreRefusal) (result : Result (Unit {0}) StoreRefusal) → IsExactAnswer first (Ok tt) → IfErr result (λ e. e ≡ Device) → IsExactAnswer first result
answered_exactly first (Ok done) accepted device = accepted
answered_exactly None (Err e) accepted device = device
answered_exactly (Some refusal) (Err e) accepted device = absurd accepted

-- A store whose change is prepared, or is refused before the first write.
module _ {D : Type 0} (facts : D → DiskFacts) {store : Opened D} {disk : D} {kept mid : Kept} (is : opened disk kept ≡ store) (same : ShowsSame kept mid) where
  -- contracts see the same store as before preparing
  pub seen : opened disk mid ≡ store
  seen = (λ i. record { disk = disk; root = same.root i; entries = same.entries i; held = same.held i; failed = same.failed i }) ∙ is

  pub early_moment : (s s' : State) → IsAt facts store s → LeavesOnly (facts store.disk) (facts disk) (λ m. Stands m s ⊎ Stands m s')
  early_moment s s' at = untouched facts store (opened disk mid) s s' seen at

  pub at_mid : {s : State} → IsAt facts store s → IsAt facts (opened disk mid) s
  at_mid {s = s} at = subst (λ o. IsAt facts o s) (sym seen) at

  -- if a change makes `s'` from `s` with the data before preparing, it does so with the data after preparing
  pub makes_mid : (prepared : Prepared) {bytes : List ℕ} {s s' : State} → Makes (facts disk).now [] kept prepared bytes s s' → Makes (facts disk).now [] mid prepared bytes s s'
  makes_mid prepared {bytes = bytes} {s = s} {s' = s'} makes =
      subst (λ r. IsFollowed Two r mid.entries.items s (facts disk).now [] prepared.change bytes (entry_sectors (edited prepared.edit mid.entries.items)) (edited prepared.edit mid.entries.items) s')
      (sym same.root)
      (subst (λ l. IsFollowed Two kept.root l s (facts disk).now [] prepared.change bytes (entry_sectors (edited prepared.edit l)) (edited prepared.edit l) s') (sym same.entries) makes)

  pub made_moment : {after : D} {Q : List Sector → Type 0} → LeavesOnly (facts disk) (facts after) Q → LeavesOnly (facts store.disk) (facts after) Q
  made_moment {after = after} {Q = Q} leaves = subst (λ o. LeavesOnly (facts o.disk) (facts after) Q) seen leaves

  pub made_held : {after : D} {left : List HeldRow} → KeepsHolders (facts disk) (facts after) mid.held left → KeepsHolders (facts store.disk) (facts after) store.held left
  made_held {after = after} {left = left} keeps = subst (λ o. KeepsHolders (facts o.disk) (facts after) o.held left) seen keeps

  -- Bytes were put.
  module _ {prepared : Prepared} {how : PlacedEntry → Edit} {libraries : ℕ} {bytes : List ℕ} (puts : Puts kept prepared how libraries bytes) {new : Kept} (made : IsMade mid new prepared) where
    pub put_taken : IsTaken (layout_in_use store) (div_ceil (length bytes) sector_bytes) (extents_of puts.put.entry) puts.put.at (catalogues_of new.root)
    put_taken = subst (λ o. IsTaken (layout_in_use o) (div_ceil (length bytes) sector_bytes) (extents_of puts.put.entry) puts.put.at (catalogues_of new.root)) is
        (subst (λ r. IsTaken (layout_in_use (opened disk kept)) (div_ceil (length bytes) sector_bytes) (extents_of puts.put.entry) puts.put.at (catalogues_of r)) (sym made.root) puts.taken)

    pub put_entries : new.entries.items ≡ edited (how puts.put) store.entries
    put_entries = made.entries ∙ (λ i. edited (puts.edits i) ((same.entries ∙ ap (λ o. o.entries) is) i))

    pub put_written : {after : D} → (IsTrue (facts disk).honest → (m : List Sector) → Mixture (facts after) m → HasBytes m prepared.change.staged bytes)
        → IsTrue (facts store.disk).honest → HaveBytes (facts after) (extents_of puts.put.entry) bytes
    put_written {after = after} written honest = have_bytes (facts after) (extents_of puts.put.entry) bytes puts.size
        (λ m mixture. subst (λ staged. HasBytes m staged bytes) puts.staged (written (subst (λ o. IsTrue (facts o.disk).honest) (sym is) honest) m mixture))

  pub early_held : KeepsHolders (facts store.disk) (facts disk) store.held mid.held
  early_held = keeps_same facts seen

  module _ {Refuses : StoreRefusal → Type 0} where
    pub early_changed : {most : ℕ} (e : StoreRefusal) (result : Result (Unit {0}) StoreRefusal) → IsErrAnd result (λ y. y ≡ e) → Prepares kept mid Refuses (Err e)
        → Changed facts Device Reopen store (opened disk mid) most Refuses result
    early_changed {most = most} e result err prepares =
        let p = err_from_is_err_and result err in
        rw (p.1, p.2) early
      where
        early : Changed facts Device Reopen store (opened disk mid) most Refuses (Err e)
        early = record {
          reopen = (
            λ reopen. sym (ap (λ o. o.failed) is) ∙ prepares.reopen.0 (ap Err (err_is reopen)),
            λ failed. ap Err (err_is (prepares.reopen.1 (ap (λ o. o.failed) is ∙ failed))),
          );
          device = λ device. absurd (prepares.early device);
          same = λ _. seen;
          usable = tt;
          refusals = prepares.refusals;
          all_calls = tt;
          calls = still facts seen;
        }

    -- a change that is made, or that fails with a write or a sync, is a change of what contracts see
    pub made_changed : {new : Opened D} {n most : ℕ} (result : Result (Unit {0}) StoreRefusal) → Changed facts Device Reopen (opened disk mid) new n (λ e. e ≡ Device) result
        → n ≡ most → Refuses Device → Changed facts Device Reopen store new most Refuses result
    made_changed {new = new} {n = n} {most = most} result changed all may =
        subst (λ o. Changed facts Device Reopen o new most Refuses result) seen
        (subst (λ n. Changed facts Device Reopen (opened disk mid) new n Refuses result) all (record {
          reopen = changed.reopen;
          device = changed.device;
          same = changed.same;
          usable = changed.usable;
          refusals = IfErr-weaker result (λ e. e ≡ Device) Refuses (λ e device. subst Refuses (sym device) may) changed.refusals;
          all_calls = changed.all_calls;
          calls = changed.calls;
        }))

  -- A first refusal computed from what is kept is the one computed from what contracts see.
  pub first_as : (First : (sectors longest : ℕ) → Option StoreRefusal) → sector_count (longest_runs (layout_in_use (opened disk kept))) ≡ sector_count (longest_runs kept.layout)
      → First (sectors_for kept) (longest_in kept) ≡ First (room_of store) (longest_unused store)
  first_as First longest =
      ap (First (sectors_for kept)) (sym longest) ∙ ap (λ o. First (room_of o) (longest_unused o)) is
