use Rattle.std.proofs.Common.{◌≡◌, ⊎_elim, ◌+◌, ◌-◌, ◌*◌, length, Err, refl, sym, subst, ◌∙◌, arith}
use Rattle.std.proofs.lemmas.Bool.{false≢true}
use Rattle.std.proofs.lemmas.Result.{err_from_is_err_and}
use Rattle.states.specs.Cost.{catalogue_cost}
use Rattle.store.specs.declared.refusal.StoreRefusal.{StoreRefusal}
use Rattle.store.specs.declared.refusal.StoreRefusal.TheVariants.{OutOfMemory}
use Rattle.store.specs.Stands.{catalogues_of}
use Rattle.store.specs.Step.{IsAnswer, refusal_of_new, refusal_of_take}
use Rattle.store.specs.inside.Draft.{spare_of}
use Rattle.store.specs.inside.Stored.{longest_in}
use Rattle.store.proofs.DraftTakes.{draft_new_ends, draft_new_no_memory, draft_new_refused, draft_new_taken, takes_none, takes_put, takes_tested}
use Rattle.store.proofs.Frees.{answers_done, answers_take}
use Rattle.store.proofs.Outcomes.{take_no_device, take_no_reopen, take_put_new}
use Rattle.store.proofs.Refusals.{memory-device, memory-reopen}
use Rattle.store.proofs.kept.Kept.take_new.Goals.{After-spare_for}
use Rattle.store.proofs.kept.Kept.take_new.Goals as goal

-- the number of sectors that have to stay unused
spare_is : (c : After-spare_for)
    → c.spare_for.result + 2 * (c.catalogues_for.result - c.catalogues_for-2.result)
    ≡ spare_of (length (catalogues_of c.args.self.now.root)) (length c.args.draft.now.entries.items) + catalogue_cost (length c.args.draft.now.entries.items)
spare_is c = omega (arith, c.spare_for.ensures, c.catalogues_for.ensures, c.catalogues_for-2.ensures, c.len-libraries.ensures)

pub take_put-requires-clause-disk : goal.take_put-requires-clause-disk
take_put-requires-clause-disk c = omega (arith, c.requires.disk, c.requires.root.sectors)

pub returns-in_err-test_change-clause-takes : goal.returns-in_err-test_change-clause-takes
returns-in_err-test_change-clause-takes c =
    let p = err_from_is_err_and c.from_residual.result c.from_residual.ensures.1 in
    rw (p.1, p.2) (takes_tested tt tt c.in_err-test_change.field-0.0 c.in_err-test_change.ensures.refused)

pub returns-in_err-test_change-clause-refused : goal.returns-in_err-test_change-clause-refused
returns-in_err-test_change-clause-refused c usable sectors d counted =
    let p = err_from_is_err_and c.from_residual.result c.from_residual.ensures.1 in
    let answer = λ (e : StoreRefusal). IsAnswer (refusal_of_new sectors (longest_in c.args.self.now) d c.args.bytes.now) (Err e) in
    rw (p.1, p.2) (⊎_elim
    (λ failed. absurd (false≢true (sym usable ∙ failed.1)))
    (λ last. subst answer (sym last.0) (draft_new_ends counted c.args.bytes.now (omega arith) last.2))
    c.in_err-test_change.ensures.refused)

pub returns-in_err-reserve_one-clause-takes : goal.returns-in_err-reserve_one-clause-takes
returns-in_err-reserve_one-clause-takes c =
    let p = err_from_is_err_and c.from_residual-in_err-reserve_one.result c.from_residual-in_err-reserve_one.ensures.1 in
    let usable = c.in_ok-test_change.ensures.usable in
    rw (p.1, p.2) (takes_none OutOfMemory refl (λ is. absurd (memory-reopen is), λ failed. absurd (false≢true (sym usable ∙ failed))) memory-device tt)

pub returns-in_err-reserve_one-clause-refused : goal.returns-in_err-reserve_one-clause-refused
returns-in_err-reserve_one-clause-refused c usable sectors d counted =
    let p = err_from_is_err_and c.from_residual-in_err-reserve_one.result c.from_residual-in_err-reserve_one.ensures.1 in
    rw (p.1, p.2) (draft_new_no_memory counted c.args.bytes.now (omega arith) c.in_ok-test_change.ensures.later)

pub returns-in_err-room-clause-takes : goal.returns-in_err-room-clause-takes
returns-in_err-room-clause-takes c =
    let p = err_from_is_err_and c.from_residual-in_err-room.result c.from_residual-in_err-room.ensures.1 in
    let e = c.in_err-room.field-0.0 in
    let usable = c.in_ok-test_change.ensures.usable in
    rw (p.1, p.2) (takes_none (refusal_of_take e) c.in_err-room.ensures.err
    (λ is. absurd (take_no_reopen e is), λ failed. absurd (false≢true (sym usable ∙ failed))) (take_no_device e) (take_put_new e))

pub returns-in_err-room-clause-refused : goal.returns-in_err-room-clause-refused
returns-in_err-room-clause-refused c usable sectors d counted =
    let p = err_from_is_err_and c.from_residual-in_err-room.result c.from_residual-in_err-room.ensures.1 in
    let e = c.in_err-room.field-0.0 in
    let spare = spare_is (goal.at.returns-in_err-room-clause-refused c).After-spare_for in
    let first = draft_new_refused counted c.args.bytes.now c.in_ok-test_change.ensures.later (omega arith) spare e
    (record { full = c.in_err-room.ensures.full; fragmented = c.in_err-room.ensures.fragmented }) in
    rw (p.1, p.2) (subst (λ refusal. IsAnswer refusal (Err (refusal_of_take e))) (sym first) (answers_take e))

pub returns-clause-takes : goal.returns-clause-takes
returns-clause-takes c = takes_put c.in_ok-room.room.catalogues c.in_ok-room.ensures.taken (spare_is (goal.at.returns-clause-takes c).After-spare_for) c.in_ok-test_change.ensures.usable

pub returns-clause-refused : goal.returns-clause-refused
returns-clause-refused c usable sectors d counted =
    let spare = spare_is (goal.at.returns-clause-refused c).After-spare_for in
    answers_done (draft_new_taken counted c.args.bytes.now c.in_ok-test_change.ensures.later (omega arith) spare {x = c.in_ok-room.room}
    (record { full = c.in_ok-room.ensures.full; fragmented = c.in_ok-room.ensures.fragmented }))
