use Rattle.std.proofs.Common.{◌≡◌, ◌≢◌, ⊎_elim, ◌+◌, ◌-◌, All, length, Err, refl, sym, subst, ap, ◌∙◌, arith}
use Rattle.std.proofs.lemmas.Bool.{false≢true}
use Rattle.std.proofs.lemmas.Grind.{div_ceil_times}
use Rattle.std.proofs.lemmas.Result.{err_from_is_err_and}
use Rattle.states.specs.Cost.{catalogues_for}
use Rattle.roots.specs.Root.{listed_preloads}
use Rattle.store.specs.declared.placed_entry.PlacedEntry.{PlacedEntry}
use Rattle.store.specs.declared.refusal.StoreRefusal.{StoreRefusal}
use Rattle.store.specs.declared.refusal.StoreRefusal.TheVariants.{OutOfMemory}
use Rattle.store.specs.declared.change.Staged.TheVariants.{Put}
use Rattle.store.specs.declared.edit.Edit.TheVariants.{Append}
use Rattle.store.specs.declared.prepared.Prepared.{Prepared}
use Rattle.store.specs.NameOrder.{IsOrderOf, entry_names}
use Rattle.store.specs.Stands.{entry_sectors, name_of}
use Rattle.store.specs.Step.{IsAnswer, refusal_of_new, refusal_of_take}
use Rattle.store.specs.inside.Kept.{IsKept}
use Rattle.store.specs.inside.Next.{next_root}
use Rattle.store.specs.inside.Prepared.{IsPrepared}
use Rattle.store.specs.inside.Stored.{IsStored, longest_in, sectors_for}
use Rattle.store.proofs.Following.{next_catalogues}
use Rattle.store.proofs.Frees.{catalogues_enough, new_refused, new_taken, answers_take, answers_done}
use Rattle.store.proofs.News.{IsNew, new_next, new_prepared, new_put, room_place}
use Rattle.store.proofs.Outcomes.{new_ends, new_many, new_no_memory, take_no_device, take_no_reopen, take_put_new}
use Rattle.store.proofs.Placing.{taken_so}
use Rattle.store.proofs.Preparing.{prepares_none, prepares_ready, tested_new}
use Rattle.store.proofs.Refusals.{memory-device, memory-reopen}
use Rattle.store.proofs.kept.Kept.prepare_new.Goals.{After-reserve_one, After-catalogues, After-next_root-root}
use Rattle.store.proofs.kept.Kept.prepare_new.Goals as goal

-- more memory is reserved, and everything else is kept as it was
reserved : (c : After-reserve_one) → IsStored c.args.self.now.root.sectors (record {
  root = c.args.self.now.root;
  entries = c.reserve_one.new.entries;
  sectors = c.reserve_one.new.sectors;
  singles = c.args.self.now.singles;
  index = c.reserve_one.new.index;
  held = c.args.self.now.held;
  layout = c.args.self.now.layout;
  failed = c.args.self.now.failed;
})
reserved c =
    let kept = c.args.self.now in
    let items = c.reserve_one.ensures.entries in (
      subst (λ l. IsKept kept.root l kept.held kept.layout) (sym items) c.requires.stored.0,
      subst (λ l. IsOrderOf (entry_names l) c.reserve_one.new.index.positions) (sym items)
          (subst (IsOrderOf (entry_names kept.entries.items)) (sym c.reserve_one.ensures.index) c.requires.stored.1),
      refl,
      λ usable. c.reserve_one.ensures.sectors ∙ c.requires.stored.3 usable ∙ ap entry_sectors (sym items),
      c.requires.stored.4,
    )

-- the number of catalogues for one more entry, and how many more these are
more : (c : After-catalogues) → c.catalogues_for-count.result ≡ catalogues_for (length c.args.self.now.entries.items + 1)
more c = omega (arith, c.catalogues_for-count.ensures, c.len-libraries.ensures, ap length c.reserve_one.ensures.entries)

rest : (c : After-catalogues) → c.catalogues_for-count.result - length c.catalogues.result.now ≡ c.catalogues_for-count.result - catalogues_for (length c.args.self.now.entries.items)
rest c =
    let kept = c.args.self.now in
    ap (λ n. c.catalogues_for-count.result - n)
    (ap length c.catalogues.ensures ∙ catalogues_enough kept.root kept.entries.items kept.held kept.layout c.requires.stored.0 c.requires.stored.4)

-- the put adds one entry at the end
newly : (c : After-next_root-root)
    → IsNew c.args.self.now.root c.args.self.now.entries.items c.args.self.now.held c.args.self.now.layout c.take_put.new.layout
    c.in_ok-room.room.catalogues c.in_ok-room.room.put c.next_root-root.result
newly c =
    let kept = c.args.self.now in
    let its = c.in_ok-room.ensures.taken in
    let count : c.len-libraries.result ≡ length kept.entries.items = omega (arith, c.len-libraries.ensures, ap length c.reserve_one.ensures.entries) in
    record {
      kept = c.requires.stored.0;
      claimed = its.claimed;
      fits = its.fits;
      named = subst (λ name. All (λ (other : PlacedEntry). name_of other.entry ≢ name) kept.entries.items) (sym its.its_name) c.requires.new;
      few = c.in_ok-test_new.ensures.few;
      later = omega (arith, c.in_ok-test_new.ensures.later, c.requires.stored.0.root_fits.generation);
      enough = its.count ∙ c.catalogues_for-count.ensures ∙ ap (λ n. catalogues_for (n + 1)) count;
      room = omega (arith, its.room, its.count, its.its_length, ap length c.catalogues.ensures);
      is_next = c.next_root-root.ensures
          ∙ ap (λ n. next_root kept.root (n + 1) c.as_slice.result.now (listed_preloads kept.root)) count
          ∙ ap (λ l. next_root kept.root (length kept.entries.items + 1) l (listed_preloads kept.root)) c.as_slice.ensures.value;
    }

abbrev prepared_by : After-next_root-root → Prepared
prepared_by c = record { change = record { staged = Put c.in_ok-room.room.put c.in_ok-room.room.catalogues; root = c.next_root-root.result }; edit = Append c.in_ok-room.room.put }

pub catalogues-requires : goal.catalogues-requires
catalogues-requires c = c.requires.stored.0.root_fits

pub take_put-requires-clause-disk : goal.take_put-requires-clause-disk
take_put-requires-clause-disk c = omega (arith, c.requires.stored.0.size, c.requires.stored.0.root_fits.sectors)

pub next_root-root-requires-clause-fits : goal.next_root-root-requires-clause-fits
next_root-root-requires-clause-fits c = c.requires.stored.0.root_fits

pub next_root-root-requires-clause-few : goal.next_root-root-requires-clause-few
next_root-root-requires-clause-few c = omega (arith, c.len-libraries.ensures, ap length c.reserve_one.ensures.entries, c.in_ok-test_new.ensures.few)

pub next_root-root-requires-clause-generation : goal.next_root-root-requires-clause-generation
next_root-root-requires-clause-generation c = omega (arith, c.in_ok-test_new.ensures.later, c.requires.stored.0.root_fits.generation)

pub next_root-root-requires-clause-catalogues : goal.next_root-root-requires-clause-catalogues
next_root-root-requires-clause-catalogues c = c.as_slice.ensures.fits

pub returns-in_err-test_new-clause-prepares : goal.returns-in_err-test_new-clause-prepares
returns-in_err-test_new-clause-prepares c =
    let p = err_from_is_err_and c.from_residual.result c.from_residual.ensures.1 in
    rw (p.1, p.2) (tested_new c.requires.stored c.in_err-test_new.field-0.0 tt tt tt c.in_err-test_new.ensures.refused)

pub returns-in_err-test_new-clause-refused : goal.returns-in_err-test_new-clause-refused
returns-in_err-test_new-clause-refused c usable s counted =
    let kept = c.args.self.now in
    let p = err_from_is_err_and c.from_residual.result c.from_residual.ensures.1 in
    let answer = λ (e : StoreRefusal). IsAnswer (refusal_of_new (sectors_for kept) (longest_in kept) s c.args.bytes.now) (Err e) in
    rw (p.1, p.2) (⊎_elim
    (λ failed. absurd (false≢true (sym usable ∙ failed.1)))
    (λ others. ⊎_elim
    (λ many. subst answer (sym many.0) (new_many counted (sectors_for kept) (longest_in kept) c.args.bytes.now many.2))
    (λ last. subst answer (sym last.0) (new_ends counted (sectors_for kept) (longest_in kept) c.args.bytes.now last.2 last.3))
    others)
    c.in_err-test_new.ensures.refused)

pub returns-in_err-reserve_one-clause-prepares : goal.returns-in_err-reserve_one-clause-prepares
returns-in_err-reserve_one-clause-prepares c =
    let p = err_from_is_err_and c.from_residual-in_err-reserve_one.result c.from_residual-in_err-reserve_one.ensures.1 in
    rw (p.1, p.2) (prepares_none (record { root = refl; entries = c.reserve_one.ensures.entries; held = refl; failed = refl })
    (reserved (goal.at.returns-in_err-reserve_one-clause-prepares c).After-reserve_one) OutOfMemory c.in_ok-test_new.ensures.usable memory-reopen memory-device tt)

pub returns-in_err-reserve_one-clause-refused : goal.returns-in_err-reserve_one-clause-refused
returns-in_err-reserve_one-clause-refused c usable s counted =
    let p = err_from_is_err_and c.from_residual-in_err-reserve_one.result c.from_residual-in_err-reserve_one.ensures.1 in
    rw (p.1, p.2) (new_no_memory counted (sectors_for c.args.self.now) (longest_in c.args.self.now) c.args.bytes.now c.in_ok-test_new.ensures.few c.in_ok-test_new.ensures.later)

pub returns-in_err-room-clause-prepares : goal.returns-in_err-room-clause-prepares
returns-in_err-room-clause-prepares c =
    let p = err_from_is_err_and c.from_residual-in_err-room.result c.from_residual-in_err-room.ensures.1 in
    let e = c.in_err-room.field-0.0 in
    let stored = reserved (goal.at.returns-in_err-room-clause-prepares c).After-reserve_one in
    rw (p.1, p.2) (prepares_none (record { root = refl; entries = c.reserve_one.ensures.entries; held = refl; failed = refl })
    (subst (IsKept c.args.self.now.root c.reserve_one.new.entries.items c.args.self.now.held) (sym c.in_err-room.ensures.err) stored.0, stored.1, stored.2, stored.3, stored.4)
    (refusal_of_take e) c.in_ok-test_new.ensures.usable (take_no_reopen e) (take_no_device e) (take_put_new e))

pub returns-in_err-room-clause-refused : goal.returns-in_err-room-clause-refused
returns-in_err-room-clause-refused c usable s counted =
    let before = (goal.at.returns-in_err-room-clause-refused c).After-catalogues in
    let p = err_from_is_err_and c.from_residual-in_err-room.result c.from_residual-in_err-room.ensures.1 in
    let e = c.in_err-room.field-0.0 in
    let first = new_refused counted c.args.bytes.now c.in_ok-test_new.ensures.later c.in_ok-test_new.ensures.few (more before) (rest before) e
    (record { full = c.in_err-room.ensures.full; fragmented = c.in_err-room.ensures.fragmented }) in
    rw (p.1, p.2) (subst (λ refusal. IsAnswer refusal (Err (refusal_of_take e))) (sym first) (answers_take e))

pub returns-clause-prepares : goal.returns-clause-prepares
returns-clause-prepares c =
    let at = goal.at.returns-clause-prepares c in
    let is = newly at.After-next_root-root in
    let its = c.in_ok-room.ensures.taken in
    let items = c.reserve_one.ensures.entries in
    let usable = c.in_ok-test_new.ensures.usable in
    let stored = reserved at.After-reserve_one in
    prepares_ready (record { root = refl; entries = items; held = refl; failed = refl }) (record {
      change = subst (λ l. IsPrepared c.args.self.now.root l c.args.self.now.held c.take_put.new.layout (prepared_by at.After-next_root-root)) (sym items)
          (new_prepared is (room_place is.kept is.claimed is.fits refl its.on_disk its.apart refl));
      list = record { within = tt; memory = c.in_ok-reserve_one.ensures.sectors_room };
      edit = record {
        within = tt;
        spelt = is.fits;
        names = subst (All (λ (other : PlacedEntry). name_of other.entry ≢ name_of c.in_ok-room.room.put.entry)) (sym items) is.named;
        memory = c.in_ok-reserve_one.ensures.entries_room;
        places = c.in_ok-reserve_one.ensures.index_room;
      };
      indexed = stored.1;
      size = refl;
      two = stored.4;
      listed = stored.3 usable;
      usable = usable;
    }) usable

pub returns-clause-makes : goal.returns-clause-makes
returns-clause-makes c now s =
    let its = c.in_ok-room.ensures.taken in
    new_put (newly (goal.at.returns-clause-makes c).After-next_root-root) now c.args.name.now c.args.bytes.now s its.its_name its.its_length
    (omega (arith, its.size, (div_ceil_times (length c.args.bytes.now) 512 (omega arith)).0))

pub returns-clause-puts : goal.returns-clause-puts
returns-clause-puts c =
    let is = newly (goal.at.returns-clause-puts c).After-next_root-root in
    let its = c.in_ok-room.ensures.taken in
    let listed = next_catalogues (new_next is) is.kept.root_fits in
    record {
      put = c.in_ok-room.room.put;
      edits = refl;
      staged = ap (Put c.in_ok-room.room.put) (sym listed);
      taken = taken_so c.args.self.now.root c.args.self.now.entries.items c.args.self.now.held c.args.self.now.layout is.kept
          refl refl refl listed its.filled its.on_disk its.taken;
      size = its.size;
      count = ap length listed ∙ is.enough;
    }

pub returns-clause-refused : goal.returns-clause-refused
returns-clause-refused c usable s counted =
    let before = (goal.at.returns-clause-refused c).After-catalogues in
    answers_done (new_taken counted c.args.bytes.now c.in_ok-test_new.ensures.later c.in_ok-test_new.ensures.few (more before) (rest before) {x = c.in_ok-room.room}
    (record { full = c.in_ok-room.ensures.full; fragmented = c.in_ok-room.ensures.fragmented }))
