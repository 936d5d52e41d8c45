use Rattle.std.proofs.Common.{◌≡◌, ◌≢◌, ⊎_elim, ◌<◌, All, get_or, length, Err, refl, sym, subst, ap, ◌∙◌, arith}
use Rattle.std.proofs.lemmas.Bool.{false≢true}
use Rattle.std.proofs.lemmas.Grind.{div_ceil_times}
use Rattle.std.proofs.lemmas.List.{length-map}
use Rattle.std.proofs.lemmas.Result.{err_from_is_err_and}
use Rattle.states.specs.Cost.{catalogues_for}
use Rattle.roots.specs.Root.{listed_preloads}
use Rattle.store.specs.declared.placed_entry.PlacedEntry.{PlacedEntry}
use Rattle.store.specs.declared.refusal.StoreRefusal.{StoreRefusal}
use Rattle.store.specs.declared.change.Staged.TheVariants.{Put}
use Rattle.store.specs.Names.{IsName}
use Rattle.store.specs.NameOrder.{IsOrderOf, entry_names}
use Rattle.store.specs.Stands.{name_of}
use Rattle.store.specs.Step.{IsExactAnswer, refusal_of_put, refusal_of_take}
use Rattle.store.specs.inside.Kept.{HaveSpellings, IsKept}
use Rattle.store.specs.inside.Stored.{longest_in, sectors_for}
use Rattle.store.specs.inside.Next.{next_root}
use Rattle.store.proofs.Following.{next_catalogues}
use Rattle.store.proofs.Frees.{over_refused, over_taken, exactly_done, answers_take_exactly}
use Rattle.store.proofs.Libraries.{name_fits}
use Rattle.store.proofs.News.{room_place}
use Rattle.store.proofs.Outcomes.{put_ends, take_no_device, take_no_reopen, take_put_over}
use Rattle.store.proofs.Placing.{taken_so}
use Rattle.store.proofs.Preparing.{prepares_none, prepares_ready, tested_change}
use Rattle.store.proofs.Replacements.{IsReplacement, replacement_next, replacement_prepared, replacement_put}
use Rattle.store.proofs.UsedAlone.{no_entry}
use Rattle.store.proofs.kept.Kept.prepare_over.Goals.{After-next_root-root}
use Rattle.store.proofs.kept.Kept.prepare_over.Goals as goal

-- the position of the entry with the name is in the list
there : (c : After-next_root-root) → c.in-Some.position < length c.args.self.now.entries.items
there c = omega (arith, c.in-Some.ensures.some.0, ap length c.deref.ensures.value)

named : (c : After-next_root-root) (d : PlacedEntry) → name_of (get_or c.args.self.now.entries.items c.in-Some.position d).entry ≡ c.args.name.now
named c d = subst (λ l. name_of (get_or l c.in-Some.position d).entry ≡ c.args.name.now) c.deref.ensures.value (c.in-Some.ensures.some.1 d)

count_is : (c : After-next_root-root) → c.catalogues_for-count.result ≡ catalogues_for (length c.args.self.now.entries.items)
count_is c = omega (arith, c.catalogues_for-count.ensures, c.len-libraries.ensures)

-- the put replaces the entry with the name
replacing : (c : After-next_root-root)
    → IsReplacement c.args.self.now.root c.args.self.now.entries.items c.args.self.now.held c.args.self.now.layout c.take_put.new.layout c.args.name.now
    c.in-Some.position c.in_ok-room.room.catalogues c.in_ok-room.room.put c.next_root-root.result
replacing c =
    let kept = c.args.self.now in
    let its = c.in_ok-room.ensures.taken in
    let count : c.len-libraries.result ≡ length kept.entries.items = omega (arith, c.len-libraries.ensures) in
    record {
      kept = c.requires.stored.0;
      two = c.requires.stored.4;
      claimed = its.claimed;
      fits = its.fits;
      inside = there c;
      named = named c;
      its_name = its.its_name;
      later = omega (arith, c.in_ok-test_change.ensures.later, c.requires.stored.0.root_fits.generation);
      enough = its.count ∙ count_is c;
      room = omega (arith, its.room, its.count, its.its_length);
      is_next = c.next_root-root.ensures
          ∙ ap (λ n. next_root kept.root n c.as_slice.result.now (listed_preloads kept.root)) count
          ∙ ap (λ l. next_root kept.root (length kept.entries.items) l (listed_preloads kept.root)) c.as_slice.ensures.value;
    }

pub returns-in_err-test_change-clause-prepares : goal.returns-in_err-test_change-clause-prepares
returns-in_err-test_change-clause-prepares c =
    let p = err_from_is_err_and c.from_residual.result c.from_residual.ensures.1 in
    rw (p.1, p.2) (tested_change c.requires.stored c.in_err-test_change.field-0.0 tt tt c.in_err-test_change.ensures.refused)

pub returns-in_err-test_change-clause-refused : goal.returns-in_err-test_change-clause-refused
returns-in_err-test_change-clause-refused c usable s counted =
    let p = err_from_is_err_and c.from_residual.result c.from_residual.ensures.1 in
    let kept = c.args.self.now in
    let answer = λ (e : StoreRefusal). IsExactAnswer (refusal_of_put (sectors_for kept) (longest_in kept) s c.args.bytes.now) (Err e) in
    rw (p.1, p.2) (⊎_elim
    (λ failed. absurd (false≢true (sym usable ∙ failed.1)))
    (λ last. subst answer (sym last.0) (put_ends counted (sectors_for kept) (longest_in kept) c.args.bytes.now last.2))
    c.in_err-test_change.ensures.refused)

pub position_of-requires-clause-spellings : goal.position_of-requires-clause-spellings
position_of-requires-clause-spellings c = subst HaveSpellings (sym c.deref.ensures.value) c.requires.stored.0.entries_fit

pub take_put-requires-clause-disk : goal.take_put-requires-clause-disk
take_put-requires-clause-disk c = omega (arith, c.requires.stored.0.size, c.requires.stored.0.root_fits.sectors)

pub next_root-root-requires-clause-fits : goal.next_root-root-requires-clause-fits
next_root-root-requires-clause-fits c = c.requires.stored.0.root_fits

pub next_root-root-requires-clause-generation : goal.next_root-root-requires-clause-generation
next_root-root-requires-clause-generation c = omega (arith, c.in_ok-test_change.ensures.later, c.requires.stored.0.root_fits.generation)

pub next_root-root-requires-clause-catalogues : goal.next_root-root-requires-clause-catalogues
next_root-root-requires-clause-catalogues c = c.as_slice.ensures.fits

pub position_of-requires-clause-index : goal.position_of-requires-clause-index
position_of-requires-clause-index c = subst (λ l. IsOrderOf (entry_names l) c.args.self.now.index.positions) (sym c.deref.ensures.value) c.requires.stored.1

pub unreachable-requires : goal.unreachable-requires
unreachable-requires c =
    let at = c.requires.present.1 in
    let none = subst (All (λ (placed : PlacedEntry). name_of placed.entry ≢ c.args.name.now)) c.deref.ensures.value (c.in_default.ensures.none refl) in
    none c.requires.present.0 no_entry at.inside (at.named no_entry)

pub take_put-requires-clause-name : goal.take_put-requires-clause-name
take_put-requires-clause-name c =
    let position = c.requires.present.0 in
    let at = c.requires.present.1 in
    subst IsName (at.named no_entry) (name_fits (get_or c.args.self.now.entries.items position no_entry).entry (c.requires.stored.0.entries_fit position no_entry at.inside))

pub returns-in_err-room-clause-prepares : goal.returns-in_err-room-clause-prepares
returns-in_err-room-clause-prepares c =
    let p = err_from_is_err_and c.from_residual-in_err-room.result c.from_residual-in_err-room.ensures.1 in
    let e = c.in_err-room.field-0.0 in
    let kept = c.args.self.now in
    let stored = c.requires.stored in
    rw (p.1, p.2) (prepares_none (record { root = refl; entries = refl; held = refl; failed = refl })
    (subst (IsKept kept.root kept.entries.items kept.held) (sym c.in_err-room.ensures.err) stored.0, stored.1, stored.2, stored.3, stored.4)
    (refusal_of_take e) c.in_ok-test_change.ensures.usable (take_no_reopen e) (take_no_device e) (take_put_over e))

pub returns-in_err-room-clause-refused : goal.returns-in_err-room-clause-refused
returns-in_err-room-clause-refused c usable s counted =
    let p = err_from_is_err_and c.from_residual-in_err-room.result c.from_residual-in_err-room.ensures.1 in
    let e = c.in_err-room.field-0.0 in
    let first = over_refused counted c.args.bytes.now c.in_ok-test_change.ensures.later (omega (arith, c.catalogues_for-count.ensures, c.len-libraries.ensures)) e
    (record { full = c.in_err-room.ensures.full; fragmented = c.in_err-room.ensures.fragmented }) in
    rw (p.1, p.2) (subst (λ refusal. IsExactAnswer refusal (Err (refusal_of_take e))) (sym first) (answers_take_exactly e))

pub returns-clause-prepares : goal.returns-clause-prepares
returns-clause-prepares c =
    let here = (goal.at.returns-clause-prepares c).After-next_root-root in
    let is = replacing here in
    let its = c.in_ok-room.ensures.taken in
    let usable = c.in_ok-test_change.ensures.usable in
    let listed = c.requires.stored.3 usable in
    prepares_ready (record { root = refl; entries = refl; held = refl; failed = refl }) (record {
      change = replacement_prepared is (room_place is.kept is.claimed is.fits refl its.on_disk its.apart refl);
      list = record {
        within = omega (arith, is.inside, ap length listed, length-map c.args.self.now.entries.items (λ (p : PlacedEntry). p.at));
        memory = tt;
      };
      edit = record { within = is.inside; spelt = is.fits; names = is.named no_entry ∙ sym is.its_name; memory = tt; places = tt };
      indexed = c.requires.stored.1;
      size = refl;
      two = is.two;
      listed = listed;
      usable = usable;
    }) usable

pub returns-clause-makes : goal.returns-clause-makes
returns-clause-makes c now s =
    let its = c.in_ok-room.ensures.taken in
    replacement_put (replacing (goal.at.returns-clause-makes c).After-next_root-root) now c.args.bytes.now s its.its_length
    (omega (arith, its.size, (div_ceil_times (length c.args.bytes.now) 512 (omega arith)).0))

pub returns-clause-puts : goal.returns-clause-puts
returns-clause-puts c =
    let is = replacing (goal.at.returns-clause-puts c).After-next_root-root in
    let its = c.in_ok-room.ensures.taken in
    let kept = c.args.self.now in
    let listed = next_catalogues (replacement_next is) is.kept.root_fits in (
      c.in-Some.position,
      record { inside = is.inside; named = is.named },
      record {
        put = c.in_ok-room.room.put;
        edits = refl;
        staged = ap (Put c.in_ok-room.room.put) (sym listed);
        taken = taken_so kept.root kept.entries.items kept.held kept.layout is.kept refl refl refl listed its.filled its.on_disk its.taken;
        size = its.size;
        count = ap length listed ∙ is.enough;
      },
    )

pub returns-clause-refused : goal.returns-clause-refused
returns-clause-refused c usable s counted =
    exactly_done (over_taken counted c.args.bytes.now c.in_ok-test_change.ensures.later (omega (arith, c.catalogues_for-count.ensures, c.len-libraries.ensures)) {x = c.in_ok-room.room}
    (record { full = c.in_ok-room.ensures.full; fragmented = c.in_ok-room.ensures.fragmented }))
