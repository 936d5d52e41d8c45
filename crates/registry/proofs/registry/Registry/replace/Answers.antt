use Rattle.std.proofs.Common.{◌≡◌, ◌+◌, length, false, not, IsTrue, IsFalse, sym, ap, subst, ◌∙◌}
use Rattle.std.proofs.lemmas.Result.{err_from_is_err_and}
use Rattle.requests.specs.Reading.{IsLibraryRefusal}
use Rattle.states.specs.State.{names_of, has_name}
use Rattle.requests.specs.Request.{replace}
use Rattle.requests.specs.Step.{answer_of}
use Rattle.registry.specs.Untested.{AppliesUntested}
use Rattle.store.specs.Opened.{Opened, IsAt}
use Rattle.registry.proofs.Forms.{file_size}
use Rattle.registry.proofs.Putting.{installed, has_position, replace_no_library, replace_lacking, replaced_as}
use Rattle.registry.proofs.States.{same_sectors}
use Rattle.store.specs.Holds.{KeepsHeld}
use Rattle.registry.proofs.Keeping.{keeps_held_same}
use Rattle.std.specs.Int.{div_ceil}
use Rattle.sector_disk.specs.Disk.{sector_bytes}
use Rattle.states.specs.Cost.{catalogues_for}
use Rattle.store.specs.Changed.{Changed}
use Rattle.requests.specs.declared.refusal.Refusal.TheVariants.{Device, Reopen, NotInstalled}
use Rattle.registry.specs.Answered.{IsReplaceRefusal}
use Rattle.registry.proofs.Changed.{changed_in_words, changed_refused, changed_reopen, library_refused, replace_may}
use Rattle.registry.proofs.registry.Registry.replace.Goals as goal

pub returns-in_err-name-clause-applied : goal.returns-in_err-name-clause-applied
returns-in_err-name-clause-applied g c s at =
    let p = err_from_is_err_and c.from_residual.result c.from_residual.ensures.1 in
    rw p.1 (replace_no_library g.D.Disk.facts c.args.self.now s at c.args.bytes.now p.0 (subst (IsLibraryRefusal c.args.bytes.now) (sym p.2) c.in_err-name.ensures.refused))

pub returns-then-is_none-clause-applied : goal.returns-then-is_none-clause-applied
returns-then-is_none-clause-applied g c s at =
    let here : IsAt g.D.Disk.facts c.self.inside.store s = subst (λ r. IsAt g.D.Disk.facts r s) (sym c.self.view_is) at in
    let absent : has_name (names_of s.libraries) c.in_ok-name.name.now ≡ false =
    installed s c.in_ok-name.name.now c.position.result (c.position.ensures.state s here) ∙ c.is_none.ensures ∙ ap not c.if-is_none.true in
    replace_lacking g.D.Disk.facts c.args.self.now s at c.args.bytes.now c.in_ok-name.ensures.ok c.in_ok-name.name.now c.in_ok-name.ensures.name absent

pub put_over-requires-clause-present : goal.put_over-requires-clause-present
put_over-requires-clause-present g c =
    let found = has_position c.position.result (c.is_none.ensures ∙ ap not c.if-is_none.false) c.position.ensures.some in
    (found.0, found.1.0, λ d. found.1.1 d)

pub put_over-requires-clause-size : goal.put_over-requires-clause-size
put_over-requires-clause-size g c = file_size (record { name = c.in_ok-name.name.now; bytes = c.args.bytes.now }) c.in_ok-name.ensures.library

pub returns-clause-applied : goal.returns-clause-applied
returns-clause-applied g c s at =
    let facts = g.D.Disk.facts in
    let old = c.self.inside.store in
    let here : IsAt facts old s = subst (λ r. IsAt facts r s) (sym c.self.view_is) at in
    let name = c.in_ok-name.name.now in
    let put = c.put_over.ensures in
    subst (λ r. AppliesUntested facts r c.put_over.new.self s (replace c.args.bytes.now) (answer_of c.in_words.result)) c.self.view_is
    (rw c.in_words.ensures (replaced_as facts old s here c.args.bytes.now c.in_ok-name.ensures.ok name c.in_ok-name.ensures.name c.put_over.new.self
    (same_sectors facts old s here (λ honest. g.met.D.Disk.holds_now _ honest)) c.in_ok-name.ensures.memory c.put_over.result
    (installed s name c.position.result (c.position.ensures.state s here) ∙ c.is_none.ensures ∙ ap not c.if-is_none.false)
    (put.any_moment s here) (put.refused s here) put.on_any_disk (put.ok s here)))

pub returns-then-has_failed-clause-held : goal.returns-then-has_failed-clause-held
returns-then-has_failed-clause-held g c = keeps_held_same g.D.Disk.facts c.args.self.now

pub returns-in_err-name-clause-held : goal.returns-in_err-name-clause-held
returns-in_err-name-clause-held g c = keeps_held_same g.D.Disk.facts c.args.self.now

pub returns-then-is_none-clause-held : goal.returns-then-is_none-clause-held
returns-then-is_none-clause-held g c = keeps_held_same g.D.Disk.facts c.args.self.now

pub returns-clause-held : goal.returns-clause-held
returns-clause-held g c = subst (λ k. KeepsHeld g.D.Disk.facts k c.put_over.new.self) c.self.view_is c.put_over.ensures.held

pub returns-then-has_failed-clause-on_any_disk : goal.returns-then-has_failed-clause-on_any_disk
returns-then-has_failed-clause-on_any_disk g c =
    changed_reopen g.D.Disk.facts c.args.self.now (subst (λ (r : Opened g.row.D.Denot). IsTrue r.failed) c.self.view_is (sym c.has_failed.ensures.value ∙ c.if-has_failed.true)) tt

pub returns-in_err-name-clause-on_any_disk : goal.returns-in_err-name-clause-on_any_disk
returns-in_err-name-clause-on_any_disk g c =
    let p = err_from_is_err_and c.from_residual.result c.from_residual.ensures.1 in
    let is = library_refused c.args.bytes.now p.0 (subst (IsLibraryRefusal c.args.bytes.now) (sym p.2) c.in_err-name.ensures.refused) in
    let usable : IsFalse c.args.self.now.failed = subst (λ (r : Opened g.row.D.Denot). IsFalse r.failed) c.self.view_is (sym c.has_failed.ensures.value ∙ c.if-has_failed.false) in
    rw p.1 (changed_refused g.D.Disk.facts c.args.self.now p.0 usable is.0 is.1 is.3)

pub returns-then-is_none-clause-on_any_disk : goal.returns-then-is_none-clause-on_any_disk
returns-then-is_none-clause-on_any_disk g c =
    let usable : IsFalse c.args.self.now.failed = subst (λ (r : Opened g.row.D.Denot). IsFalse r.failed) c.self.view_is (sym c.has_failed.ensures.value ∙ c.if-has_failed.false) in
    changed_refused g.D.Disk.facts c.args.self.now NotInstalled usable (λ is. cc) (λ is. cc) tt

pub returns-clause-on_any_disk : goal.returns-clause-on_any_disk
returns-clause-on_any_disk g c =
    let facts = g.D.Disk.facts in
    let changed = λ (k : Opened g.row.D.Denot). Changed facts Device Reopen k c.put_over.new.self
    (div_ceil (length c.args.bytes.now) sector_bytes + catalogues_for (length k.entries) + 4) IsReplaceRefusal c.in_words.result in
    subst changed c.self.view_is (rw c.in_words.ensures (changed_in_words facts IsReplaceRefusal replace_may c.put_over.result c.put_over.ensures.on_any_disk))
