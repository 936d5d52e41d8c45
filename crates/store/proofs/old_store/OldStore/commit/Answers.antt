use Rattle.std.proofs.Common.{◌≡◌, ◌≢◌, ◌⊎◌, inl, ⊎_elim, ◌↔◌, ◌+◌, ◌-◌, ◌*◌, ◌<◌, ◌≤◌, Bool}
use Rattle.std.proofs.Common.{IsTrue, List, ℕ, [], None, Ok, Err, length, refl, sym, ap, subst, ◌∙◌, arith}
use Rattle.std.proofs.lemmas.Bool.{cases_lt}
use Rattle.sector_disk.specs.Disk.{LeavesOnly, Mixture, DiskFacts, AreCallsAtMost, AreCallsExactly}
use Rattle.states.specs.Cost.{catalogues_for, taken_by}
use Rattle.roots.specs.Root.{listed_preloads, version_of}
use Rattle.roots.specs.declared.version.Version.TheVariants.{One, Two}
use Rattle.sector_disk.proofs.Mixtures.{whole_mixture}
use Rattle.extents.specs.Limits.{root_sectors}
use Rattle.extents.specs.Used.{layout_of}
use Rattle.states.specs.Limits.{last_generation}
use Rattle.states.specs.State.{State}
use Rattle.store.specs.declared.refusal.StoreRefusal.TheVariants.{Full}
use Rattle.store.specs.Step.{refusal_of_upgrade, IsExactAnswer, IsRefusalOfCommit}
use Rattle.store.specs.Opened.{IsOldAt, Opened}
use Rattle.store.specs.Stands.{Stands, StandsBy, StandsOld, catalogues_of, entry_sectors, used}
use Rattle.store.specs.Taken.{AreTaken}
use Rattle.store.specs.Upgraded.{upgraded}
use Rattle.store.specs.inside.Catalogues.{CanBeCatalogued}
use Rattle.store.specs.declared.change.Staged.TheVariants.{Catalogues}
use Rattle.store.specs.declared.change.Change.{Change}
use Rattle.store.specs.inside.Change.{IsFollowed}
use Rattle.store.specs.inside.Next.{next_root}
use Rattle.store.specs.inside.Room.{HavePlaces}
use Rattle.store.proofs.Anew.{more_inside, more_once, moved_claimed, moved_size, released_nothing}
use Rattle.store.proofs.Beside.{in_use_alone}
use Rattle.store.proofs.CataloguedEntries.{can_be_catalogued}
use Rattle.store.proofs.Frees.{old_free_is, upgrade_full, upgrade_accepted}
use Rattle.store.proofs.Following.{following_fits, following_kept, next_version}
use Rattle.store.proofs.Relistings.{IsRelist, relist_next, relist_moved, relist_room, relist_taken, relist_followed, few_old}
use Rattle.passes.proofs.Rows.{in_row_at_most, in_row_exactly}
use Rattle.sector_disk.proofs.Moments.{at_rest, exactly_at_most}
use Rattle.roots.specs.Limits.{most_root_entries}
use Rattle.roots.specs.declared.root.Root.{Root}
use Rattle.store.specs.declared.placed_entry.PlacedEntry.{PlacedEntry}
use Rattle.store.specs.inside.Kept.{IsKept}
use Rattle.store.proofs.Refusals.{end-device, full-device}
use Rattle.store.proofs.Outcomes.{still, upgrade_ends}
use Rattle.store.proofs.old_store.OldStore.commit.Given as given
use Rattle.store.proofs.old_store.OldStore.commit.Goals.{After-free_count, After-next_root-root, After-carry_out, After-into_store}
use Rattle.store.proofs.old_store.OldStore.commit.Goals as goal

-- the next root lists the same entries by the catalogues that were claimed
relisted : (g : given.Over) (c : After-next_root-root g)
    → IsRelist c.self.inside.found.root c.self.inside.found.entries.items [] c.self.inside.found.layout c.take_catalogues-taken.new.layout
    c.take_catalogues-taken.result c.next_root-root.result
relisted g c =
    let kept = c.self.invariant.0.kept in
    let count : c.len-libraries.result ≡ length c.self.inside.found.entries.items = omega (arith, c.len-libraries.ensures) in
    record {
      kept = kept;
      one = c.self.invariant.2;
      claimed = c.take_catalogues-taken.ensures.claimed;
      enough = omega (arith, c.take_catalogues-taken.ensures.count, c.catalogues_for-count.ensures, ap catalogues_for count);
      free = omega (arith, c.if-free_count-count.false, c.free_count.ensures.value, c.catalogues_for-count.ensures, ap catalogues_for count);
      later = omega (arith, c.if-found.false, kept.root_fits.generation);
      is_next = c.next_root-root.ensures
          ∙ ap (λ n. next_root c.self.inside.found.root n c.as_slice.result.now (listed_preloads c.self.inside.found.root)) count
          ∙ ap (λ l. next_root c.self.inside.found.root (length c.self.inside.found.entries.items) l (listed_preloads c.self.inside.found.root)) c.as_slice.ensures.value;
    }

-- the catalogues list the entries' sectors
sectors_are : (g : given.Over) (c : After-next_root-root g) → c.self.inside.found.sectors.items ≡ entry_sectors c.self.inside.found.entries.items
sectors_are g c = c.self.invariant.0.listed

abbrev change : (g : given.Over) (c : After-next_root-root g) → Change
change g c = record { staged = Catalogues c.take_catalogues-taken.result; root = c.next_root-root.result }

following : (g : given.Over) (c : After-next_root-root g) (s : State) (bytes sectors : List ℕ) → sectors ≡ c.self.inside.found.sectors.items
    → IsFollowed One c.self.inside.found.root c.self.inside.found.entries.items s (g.D.Disk.facts c.self.inside.disk).now [] (change g c) bytes sectors c.self.inside.found.entries.items (upgraded s)
following g c s bytes sectors are =
    subst (λ l. IsFollowed One c.self.inside.found.root c.self.inside.found.entries.items s (g.D.Disk.facts c.self.inside.disk).now [] (change g c) bytes l c.self.inside.found.entries.items (upgraded s))
    (sym (are ∙ sectors_are g c)) (relist_followed (relisted g c) (g.D.Disk.facts c.self.inside.disk).now s bytes)

pub carry_out-requires-clause-root : goal.carry_out-requires-clause-root
carry_out-requires-clause-root g c =
    following_fits (relist_next (relisted g (goal.at.carry_out-requires-clause-root g c).After-next_root-root)) c.self.invariant.0.kept.root_fits

pub carry_out-requires-clause-room : goal.carry_out-requires-clause-room
carry_out-requires-clause-room g c =
    let before = (goal.at.carry_out-requires-clause-room g c).After-next_root-root in
    let is = relisted g before in
    let next = relist_next is in
    let taken = c.take_catalogues-taken.result in (
      subst (λ n. HavePlaces n taken) (sym c.self.invariant.1) (record { inside = more_inside is.kept is.claimed; once = more_once is.kept is.claimed }),
      subst (CanBeCatalogued (length taken)) (sym (c.deref.ensures.value ∙ sectors_are g before))
          (can_be_catalogued c.self.inside.found.root.sectors (length taken) c.next_root-root.result c.self.inside.found.entries.items
          (omega (arith, is.kept.root_fits.sectors)) is.enough next.few next.apart),
    )

-- a stop leaves the state before the commit or the state after it
leaves : (g : given.Over) (c : After-carry_out g) (s : State)
    → IsFollowed One c.self.inside.found.root c.self.inside.found.entries.items s (g.D.Disk.facts c.self.inside.disk).now [] (record { staged = Catalogues c.take_catalogues-taken.result; root = c.next_root-root.result })
    [] c.deref.result.now c.self.inside.found.entries.items (upgraded s)
    → IsOldAt g.D.Disk.facts c.args.self s → LeavesOnly (g.D.Disk.facts c.args.self.disk) (g.D.Disk.facts c.carry_out.new.disk) (λ m. StandsOld m s ⊎ Stands m (upgraded s))
leaves g c s is at_entry =
    let at = subst (λ store. IsOldAt g.D.Disk.facts store s) (sym c.self.view_is) at_entry in
    subst (λ store. LeavesOnly (g.D.Disk.facts store.disk) (g.D.Disk.facts c.carry_out.new.disk) (λ m. StandsOld m s ⊎ Stands m (upgraded s))) c.self.view_is
    ((c.carry_out.ensures.carried_out at.honest).any_moment
    (record { version = One; root = c.self.inside.found.root; entries = c.self.inside.found.entries.items; before = s; written = []; others = c.self.inside.found.entries.items; after = upgraded s })
    (record { stands = at.stands; followed = is }))

pub returns-in-Err-clause-any_moment : goal.returns-in-Err-clause-any_moment
returns-in-Err-clause-any_moment g c s at =
    let here = goal.at.returns-in-Err-clause-any_moment g c in
    leaves g here.After-carry_out s (following g here.After-next_root-root s [] c.deref.result.now c.deref.ensures.value) at

pub returns-in-Ok-clause-any_moment : goal.returns-in-Ok-clause-any_moment
returns-in-Ok-clause-any_moment g c s at =
    let here = goal.at.returns-in-Ok-clause-any_moment g c in
    subst (λ d. LeavesOnly (g.D.Disk.facts c.args.self.disk) (g.D.Disk.facts d) (λ m. StandsOld m s ⊎ Stands m (upgraded s))) (sym c.into_store.ensures.disk)
    (leaves g here.After-carry_out s (following g here.After-next_root-root s [] c.deref.result.now c.deref.ensures.value) at)

pub into_store-requires-clause-found : goal.into_store-requires-clause-found
into_store-requires-clause-found g c =
    let here = (goal.at.into_store-requires-clause-found g c).After-next_root-root in
    let is = relisted g here in
    let mid = c.take_catalogues-taken.new.layout in
    let nothing = released_nothing mid in
    record {
      kept = following_kept (relist_next is) is.kept.root_fits [] mid
          (moved_size is.kept is.claimed mid nothing)
          (relist_room is (c.self.inside.found.root.sectors - 0) (omega arith))
          is.kept.rows
          (moved_claimed is.kept is.claimed c.next_root-root.result c.self.inside.found.entries.items (relist_moved is) mid nothing);
      indexed = c.self.invariant.0.indexed;
      listed = sectors_are g here;
    }

pub into_store-requires-clause-sectors : goal.into_store-requires-clause-sectors
into_store-requires-clause-sectors g c = c.carry_out.ensures.calls.sectors ∙ c.self.invariant.1 ∙ sym (ap (λ r. r.sectors) c.next_root-root.ensures)

pub into_store-requires-clause-version : goal.into_store-requires-clause-version
into_store-requires-clause-version g c =
    let is = relisted g (goal.at.into_store-requires-clause-version g c).After-next_root-root in
    next_version (relist_next is) is.kept.root_fits

pub returns-in-Ok-clause-ok : goal.returns-in-Ok-clause-ok
returns-in-Ok-clause-ok g c s at_entry =
    let facts = g.D.Disk.facts in
    let at = subst (λ store. IsOldAt facts store s) (sym c.self.view_is) at_entry in
    let before = (goal.at.returns-in-Ok-clause-ok g c).After-next_root-root in
    let next = c.next_root-root.result in
    let entries = c.self.inside.found.entries.items in
    let done = (c.in-Ok.ensures.carried_out at.honest).done
    (record { version = One; root = c.self.inside.found.root; entries = entries; before = s; written = []; others = entries; after = upgraded s })
    (record { stands = at.stands; followed = following g before s [] c.deref.result.now c.deref.ensures.value }) in
    record {
      honest = subst (λ d. IsTrue (facts d).honest) (sym c.into_store.ensures.disk) (subst IsTrue (sym c.carry_out.ensures.calls.honest) at.honest);
      usable = c.into_store.ensures.usable;
      stands = λ m mixture. subst (λ r. StandsBy Two m r c.into_store.result.entries (upgraded s)) (sym c.into_store.ensures.root)
          (subst (λ l. StandsBy Two m next l (upgraded s)) (sym c.into_store.ensures.entries) (done m (subst (λ d. Mixture (facts d) m) c.into_store.ensures.disk mixture)));
    }

-- a commit is refused only because of the generation or for lack of room
usable_of : (g : given.Over) (c : After-free_count g) (s : State) → IsOldAt g.D.Disk.facts c.args.self s → s.generation ≢ last_generation
usable_of g c s at_entry is =
    let at = subst (λ store. IsOldAt g.D.Disk.facts store s) (sym c.self.view_is) at_entry in
    let by = at.stands (g.D.Disk.facts c.self.inside.disk).now (g.met.D.Disk.holds_now _ at.honest) in
    omega (arith, is, ap (λ t. t.generation) by.is, c.if-found.false)

room_of : (g : given.Over) (c : After-free_count g) (s : State) → IsOldAt g.D.Disk.facts c.args.self s
    → (c.free_count.result < 2 * c.catalogues_for-count.result) ↔ (c.self.inside.found.root.sectors < root_sectors + taken_by s)
room_of g c s at_entry =
    let at = subst (λ store. IsOldAt g.D.Disk.facts store s) (sym c.self.view_is) at_entry in
    let now = (g.D.Disk.facts c.self.inside.disk).now in
    let holds = g.met.D.Disk.holds_now _ at.honest in
    let whole = whole_mixture (g.met.D.Disk.whole_sectors _ at.honest) (g.D.Disk.facts c.self.inside.disk).time (omega arith) now holds in
    let count : c.len-libraries.result ≡ length c.self.inside.found.entries.items = omega (arith, c.len-libraries.ensures) in
    let all : c.catalogues_for-count.result ≡ catalogues_for (length c.self.inside.found.entries.items) = c.catalogues_for-count.ensures ∙ ap catalogues_for count in
    let is = old_free_is c.self.inside.found.root c.self.inside.found.entries.items [] c.self.inside.found.layout c.self.invariant.0.kept refl now s whole (at.stands now holds) in (
      λ lt. is.0 (omega (arith, lt, c.free_count.ensures.value, all)),
      λ lt. omega (arith, is.1 lt, c.free_count.ensures.value, all),
    )

pub returns-then-free_count-count-clause-refused : goal.returns-then-free_count-count-clause-refused
returns-then-free_count-count-clause-refused g c s at =
    let before = (goal.at.returns-then-free_count-count-clause-refused g c).After-free_count in
    let first = upgrade_full c.self.inside.found.root.sectors s (usable_of g before s at) ((room_of g before s at).0 c.if-free_count-count.true) in
    subst (λ store. IsExactAnswer (refusal_of_upgrade store.root.sectors s) (Err Full)) c.self.view_is
    (subst (λ refusal. IsExactAnswer refusal (Err Full)) (sym first) refl)

accepted_of : (g : given.Over) (c : After-free_count g) (s : State) → IsOldAt g.D.Disk.facts c.args.self s
    → 2 * c.catalogues_for-count.result ≤ c.free_count.result → refusal_of_upgrade c.self.inside.found.root.sectors s ≡ None
accepted_of g c s at enough = upgrade_accepted c.self.inside.found.root.sectors s (usable_of g c s at)
    (⊎_elim (λ few. omega (arith, (room_of g c s at).1 few, enough)) (λ room. room) (cases_lt c.self.inside.found.root.sectors (root_sectors + taken_by s)))

pub returns-in-Err-clause-refused : goal.returns-in-Err-clause-refused
returns-in-Err-clause-refused g c s at =
    let first = accepted_of g (goal.at.returns-in-Err-clause-refused g c).After-free_count s at (omega (arith, c.if-free_count-count.false)) in
    subst (λ store. IsExactAnswer (refusal_of_upgrade store.root.sectors s) (Err c.from.result)) c.self.view_is
    (subst (λ refusal. IsExactAnswer refusal (Err c.from.result)) (sym first) c.from.ensures)

pub returns-in-Ok-clause-refused : goal.returns-in-Ok-clause-refused
returns-in-Ok-clause-refused g c s at =
    let first = accepted_of g (goal.at.returns-in-Ok-clause-refused g c).After-free_count s at (omega (arith, c.if-free_count-count.false)) in
    subst (λ store. IsExactAnswer (refusal_of_upgrade store.root.sectors s) (Ok tt)) c.self.view_is
    (subst (λ refusal. IsExactAnswer refusal (Ok tt)) (sym first) tt)

pub returns-in-Ok-clause-placed : goal.returns-in-Ok-clause-placed
returns-in-Ok-clause-placed g c =
    let is = relisted g (goal.at.returns-in-Ok-clause-placed g c).After-next_root-root in
    let root = c.self.inside.found.root in
    let entries = c.self.inside.found.entries.items in
    let all = subst (λ l. AreTaken (layout_of root.sectors l) (catalogues_of c.next_root-root.result)) (in_use_alone root entries [] refl) (relist_taken is c.take_catalogues-taken.ensures.taken) in
    record {
      taken = subst (λ store. AreTaken (layout_of store.root.sectors (used store.root store.entries)) (catalogues_of c.into_store.result.root)) c.self.view_is
          (subst (λ r. AreTaken (layout_of root.sectors (used root entries)) (catalogues_of r)) (sym c.into_store.ensures.root) all);
      entries = c.into_store.ensures.entries ∙ ap (λ store. store.entries) c.self.view_is;
    }

-- if the commit is refused before it writes, a stop leaves the state before
stays : {D : Type 0} (facts : D → DiskFacts) {view store : Opened D} (s : State) → view ≡ store → IsOldAt facts store s
    → LeavesOnly (facts store.disk) (facts view.disk) (λ m. StandsOld m s ⊎ Stands m (upgraded s))
stays facts {store = store} s is at =
    subst (λ view. LeavesOnly (facts store.disk) (facts view.disk) (λ m. StandsOld m s ⊎ Stands m (upgraded s))) (sym is)
    (at_rest (facts store.disk) (λ m. StandsOld m s ⊎ Stands m (upgraded s)) (λ m mixture. inl (store.root, store.entries, at.stands m mixture)))

-- the number of entries is at most the number that a root of version 1 lists itself
few_kept : (root : Root) (entries : List PlacedEntry) (layout : List Bool) → IsKept root entries [] layout → version_of root ≡ One → length entries ≤ most_root_entries
few_kept root entries layout kept one = omega (arith, kept.counted, few_old root.library_count root.sectors root.list one kept.root_fits.list)

pub returns-then-found-clause-few : goal.returns-then-found-clause-few
returns-then-found-clause-few g c =
    subst (λ store. length store.entries ≤ most_root_entries) c.self.view_is
    (few_kept c.self.inside.found.root c.self.inside.found.entries.items c.self.inside.found.layout c.self.invariant.0.kept c.self.invariant.2)

pub returns-then-free_count-count-clause-few : goal.returns-then-free_count-count-clause-few
returns-then-free_count-count-clause-few g c =
    subst (λ store. length store.entries ≤ most_root_entries) c.self.view_is
    (few_kept c.self.inside.found.root c.self.inside.found.entries.items c.self.inside.found.layout c.self.invariant.0.kept c.self.invariant.2)

pub returns-in-Err-clause-few : goal.returns-in-Err-clause-few
returns-in-Err-clause-few g c =
    subst (λ store. length store.entries ≤ most_root_entries) c.self.view_is
    (few_kept c.self.inside.found.root c.self.inside.found.entries.items c.self.inside.found.layout c.self.invariant.0.kept c.self.invariant.2)

pub returns-in-Ok-clause-few : goal.returns-in-Ok-clause-few
returns-in-Ok-clause-few g c =
    subst (λ store. length store.entries ≤ most_root_entries) c.self.view_is
    (few_kept c.self.inside.found.root c.self.inside.found.entries.items c.self.inside.found.layout c.self.invariant.0.kept c.self.invariant.2)

pub returns-then-found-clause-any_moment : goal.returns-then-found-clause-any_moment
returns-then-found-clause-any_moment g c s at = stays g.D.Disk.facts s c.self.view_is at

pub returns-then-found-clause-calls : goal.returns-then-found-clause-calls
returns-then-found-clause-calls g c = still g.D.Disk.facts c.self.view_is

pub returns-then-found-clause-untouched : goal.returns-then-found-clause-untouched
returns-then-found-clause-untouched g c other = ap (λ store. store.disk) c.self.view_is

pub returns-then-found-clause-device : goal.returns-then-found-clause-device
returns-then-found-clause-device g c is = absurd (end-device is)

pub returns-then-free_count-count-clause-any_moment : goal.returns-then-free_count-count-clause-any_moment
returns-then-free_count-count-clause-any_moment g c s at = stays g.D.Disk.facts s c.self.view_is at

pub returns-then-free_count-count-clause-calls : goal.returns-then-free_count-count-clause-calls
returns-then-free_count-count-clause-calls g c = still g.D.Disk.facts c.self.view_is

pub returns-then-free_count-count-clause-untouched : goal.returns-then-free_count-count-clause-untouched
returns-then-free_count-count-clause-untouched g c other = ap (λ store. store.disk) c.self.view_is

pub returns-then-free_count-count-clause-device : goal.returns-then-free_count-count-clause-device
returns-then-free_count-count-clause-device g c is = absurd (full-device is)

pub returns-then-found-clause-refused : goal.returns-then-found-clause-refused
returns-then-found-clause-refused g c s at =
    upgrade_ends g.D.Disk.facts g.met.D.Disk.holds_now g.met.D.Disk.whole_sectors c.self.view_is at
    c.args.self.root.sectors (omega (arith, c.if-found.true))

pub returns-in-Err-clause-device : goal.returns-in-Err-clause-device
returns-in-Err-clause-device g c is =
    subst (λ store. (g.D.Disk.facts store.disk).failures < (g.D.Disk.facts c.carry_out.new.disk).failures) c.self.view_is
    (omega (arith, c.in-Err.ensures.calls.err))

pub returns-in-Err-clause-untouched : goal.returns-in-Err-clause-untouched
returns-in-Err-clause-untouched g c other = absurd (other c.from.ensures)

pub returns-in-Err-clause-refusals : goal.returns-in-Err-clause-refusals
returns-in-Err-clause-refusals g c = subst IsRefusalOfCommit (sym c.from.ensures) tt

pub returns-in-Err-clause-calls : goal.returns-in-Err-clause-calls
returns-in-Err-clause-calls g c =
    let is = relisted g (goal.at.returns-in-Err-clause-calls g c).After-next_root-root in
    subst (λ store. AreCallsAtMost (catalogues_for (length store.entries) + 3) (g.D.Disk.facts store.disk) (g.D.Disk.facts c.carry_out.new.disk)) c.self.view_is
    (in_row_at_most c.in-Err.ensures.calls (omega (arith, is.enough)))

-- the number of calls of a commit that is done
calls_are : (g : given.Over) (c : After-into_store g)
    → AreCallsExactly (catalogues_for (length c.args.self.entries) + 3) (g.D.Disk.facts c.args.self.disk) (g.D.Disk.facts c.into_store.result.disk)
calls_are g c =
    let is = relisted g (goal.at.returns-in-Ok-clause-all_calls g c).After-next_root-root in
    let n : ℕ = catalogues_for (length c.self.inside.found.entries.items) + 3 in
    let all : AreCallsExactly n (g.D.Disk.facts c.self.inside.disk) (g.D.Disk.facts c.carry_out.new.disk) =
    subst (λ n. AreCallsExactly n (g.D.Disk.facts c.self.inside.disk) (g.D.Disk.facts c.carry_out.new.disk)) (omega (arith, is.enough))
    (in_row_exactly c.in-Ok.ensures.calls) in
    subst (λ d. AreCallsExactly (catalogues_for (length c.args.self.entries) + 3) (g.D.Disk.facts c.args.self.disk) (g.D.Disk.facts d)) (sym c.into_store.ensures.disk)
    (subst (λ store. AreCallsExactly (catalogues_for (length store.entries) + 3) (g.D.Disk.facts store.disk) (g.D.Disk.facts c.carry_out.new.disk)) c.self.view_is all)

pub returns-in-Ok-clause-all_calls : goal.returns-in-Ok-clause-all_calls
returns-in-Ok-clause-all_calls g c = calls_are g c

pub returns-in-Ok-clause-calls : goal.returns-in-Ok-clause-calls
returns-in-Ok-clause-calls g c = exactly_at_most (calls_are g c) (omega arith)

pub carry_out-requires-clause-fits : goal.carry_out-requires-clause-fits
carry_out-requires-clause-fits g c = omega (arith, c.self.invariant.1, c.self.invariant.0.kept.root_fits.sectors)

pub carry_out-requires-clause-roots : goal.carry_out-requires-clause-roots
carry_out-requires-clause-roots g c = omega (arith, c.self.invariant.1, c.self.invariant.0.kept.root_fits.sectors)

pub next_root-root-requires-clause-catalogues : goal.next_root-root-requires-clause-catalogues
next_root-root-requires-clause-catalogues g c = c.as_slice.ensures.fits
