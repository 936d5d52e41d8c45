use Rattle.std.proofs.Common.{◌≡◌, ◌+◌, length, true, IsTrue, IsFalse, sym, subst, ◌∙◌}
use Rattle.std.proofs.lemmas.Bool.{false≢true}
use Rattle.std.proofs.lemmas.Result.{err_from_is_err_and}
use Rattle.requests.specs.Reading.{IsLibraryRefusal}
use Rattle.states.specs.State.{names_of, has_name}
use Rattle.requests.specs.Request.{install}
use Rattle.requests.specs.Step.{answer_of}
use Rattle.registry.specs.Untested.{AppliesUntested}
use Rattle.store.specs.Opened.{Opened, IsAt}
use Rattle.registry.proofs.Forms.{is_name, file_size}
use Rattle.registry.proofs.Putting.{installed, install_no_library, install_there, installed_as}
use Rattle.registry.proofs.States.{same_sectors}
use Rattle.store.specs.Holds.{KeepsHeld}
use Rattle.registry.proofs.Keeping.{keeps_held_same}
use Rattle.std.specs.Int.{div_ceil}
use Rattle.sector_disk.specs.Disk.{sector_bytes}
use Rattle.states.specs.Cost.{catalogues_for}
use Rattle.store.specs.Changed.{Changed}
use Rattle.requests.specs.declared.refusal.Refusal.TheVariants.{Device, Reopen, AlreadyInstalled}
use Rattle.registry.specs.Answered.{IsInstallRefusal}
use Rattle.registry.proofs.Changed.{changed_in_words, changed_refused, changed_reopen, library_refused, install_may}
use Rattle.registry.proofs.registry.Registry.install.Goals as goal

pub returns-in_err-name-clause-applied : goal.returns-in_err-name-clause-applied
returns-in_err-name-clause-applied g c s at =
    let p = err_from_is_err_and c.from_residual.result c.from_residual.ensures.1 in
    rw p.1 (install_no_library g.D.Disk.facts c.args.self.now s at c.args.bytes.now p.0 (subst (IsLibraryRefusal c.args.bytes.now) (sym p.2) c.in_err-name.ensures.refused))

pub returns-then-is_some-clause-applied : goal.returns-then-is_some-clause-applied
returns-then-is_some-clause-applied g c s at =
    let here : IsAt g.D.Disk.facts c.self.inside.store s = subst (λ r. IsAt g.D.Disk.facts r s) (sym c.self.view_is) at in
    let there : has_name (names_of s.libraries) c.in_ok-name.name.now ≡ true =
    installed s c.in_ok-name.name.now c.position.result (c.position.ensures.state s here) ∙ sym c.is_some.ensures ∙ c.if-is_some.true in
    install_there g.D.Disk.facts c.args.self.now s at c.args.bytes.now c.in_ok-name.ensures.ok c.in_ok-name.name.now c.in_ok-name.ensures.name there

pub put_new-requires-clause-name : goal.put_new-requires-clause-name
put_new-requires-clause-name g c = is_name (record { name = c.in_ok-name.name.now; bytes = c.args.bytes.now }) c.in_ok-name.ensures.library

pub put_new-requires-clause-size : goal.put_new-requires-clause-size
put_new-requires-clause-size g c = file_size (record { name = c.in_ok-name.name.now; bytes = c.args.bytes.now }) c.in_ok-name.ensures.library

pub returns-clause-applied : goal.returns-clause-applied
returns-clause-applied g c s at =
    let facts = g.D.Disk.facts in
    let old = c.self.inside.store in
    let here : IsAt facts old s = subst (λ r. IsAt facts r s) (sym c.self.view_is) at in
    let name = c.in_ok-name.name.now in
    let put = c.put_new.ensures in
    subst (λ r. AppliesUntested facts r c.put_new.new.self s (install c.args.bytes.now) (answer_of c.in_words.result)) c.self.view_is
    (rw c.in_words.ensures (installed_as facts old s here c.args.bytes.now c.in_ok-name.ensures.ok name c.in_ok-name.ensures.name c.put_new.new.self
    (same_sectors facts old s here (λ honest. g.met.D.Disk.holds_now _ honest)) c.in_ok-name.ensures.memory c.put_new.result
    (installed s name c.position.result (c.position.ensures.state s here) ∙ sym c.is_some.ensures ∙ c.if-is_some.false)
    (put.any_moment s here) (put.refused s here) put.on_any_disk (put.ok s here)))

pub returns-then-has_failed-clause-held : goal.returns-then-has_failed-clause-held
returns-then-has_failed-clause-held g c = keeps_held_same g.D.Disk.facts c.args.self.now

pub returns-in_err-name-clause-held : goal.returns-in_err-name-clause-held
returns-in_err-name-clause-held g c = keeps_held_same g.D.Disk.facts c.args.self.now

pub returns-then-is_some-clause-held : goal.returns-then-is_some-clause-held
returns-then-is_some-clause-held g c = keeps_held_same g.D.Disk.facts c.args.self.now

pub returns-clause-held : goal.returns-clause-held
returns-clause-held g c = subst (λ k. KeepsHeld g.D.Disk.facts k c.put_new.new.self) c.self.view_is c.put_new.ensures.held

pub returns-then-has_failed-clause-applied : goal.returns-then-has_failed-clause-applied
returns-then-has_failed-clause-applied g c s at =
    absurd (false≢true (sym (subst (λ (r : Opened g.row.D.Denot). IsFalse r.failed) (sym c.self.view_is) at.usable) ∙ sym c.has_failed.ensures.value ∙ c.if-has_failed.true))

pub in_words-requires : goal.in_words-requires
in_words-requires g c = c.put_new.ensures.on_any_disk.refusals

pub returns-then-has_failed-clause-on_any_disk : goal.returns-then-has_failed-clause-on_any_disk
returns-then-has_failed-clause-on_any_disk g c =
    changed_reopen g.D.Disk.facts c.args.self.now (subst (λ (r : Opened g.row.D.Denot). IsTrue r.failed) c.self.view_is (sym c.has_failed.ensures.value ∙ c.if-has_failed.true)) tt

pub returns-in_err-name-clause-on_any_disk : goal.returns-in_err-name-clause-on_any_disk
returns-in_err-name-clause-on_any_disk g c =
    let p = err_from_is_err_and c.from_residual.result c.from_residual.ensures.1 in
    let is = library_refused c.args.bytes.now p.0 (subst (IsLibraryRefusal c.args.bytes.now) (sym p.2) c.in_err-name.ensures.refused) in
    let usable : IsFalse c.args.self.now.failed = subst (λ (r : Opened g.row.D.Denot). IsFalse r.failed) c.self.view_is (sym c.has_failed.ensures.value ∙ c.if-has_failed.false) in
    rw p.1 (changed_refused g.D.Disk.facts c.args.self.now p.0 usable is.0 is.1 is.2)

pub returns-then-is_some-clause-on_any_disk : goal.returns-then-is_some-clause-on_any_disk
returns-then-is_some-clause-on_any_disk g c =
    let usable : IsFalse c.args.self.now.failed = subst (λ (r : Opened g.row.D.Denot). IsFalse r.failed) c.self.view_is (sym c.has_failed.ensures.value ∙ c.if-has_failed.false) in
    changed_refused g.D.Disk.facts c.args.self.now AlreadyInstalled usable (λ is. cc) (λ is. cc) tt

pub returns-clause-on_any_disk : goal.returns-clause-on_any_disk
returns-clause-on_any_disk g c =
    let facts = g.D.Disk.facts in
    let changed = λ (k : Opened g.row.D.Denot). Changed facts Device Reopen k c.put_new.new.self
    (div_ceil (length c.args.bytes.now) sector_bytes + catalogues_for (length k.entries + 1) + 4) IsInstallRefusal c.in_words.result in
    subst changed c.self.view_is (rw c.in_words.ensures (changed_in_words facts IsInstallRefusal install_may c.put_new.result c.put_new.ensures.on_any_disk))
