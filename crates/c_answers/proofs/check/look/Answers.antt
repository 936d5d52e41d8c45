use Rattle.std.proofs.Common.{◌≤◌, ◌<◌, ◌∙◌, ℕ, List, inl, inr, length, get_or, refl, sym, ap, subst, arith}
use Rattle.std.specs.Prelude.{count_by}
use Rattle.byte_disk.specs.ReadOnlyDisk.{read_only_facts}
use Rattle.byte_disk.proofs.ReadOnly.{no_failure}
use Rattle.store.specs.Opened.{IsAt}
use Rattle.store.specs.Stands.{no_library}
use Rattle.contents.specs.Finding.{IsFinding, is_unreadable}
use Rattle.contents.specs.declared.finding.Finding.{Finding}
use Rattle.c_answers.specs.Check.{library_names}
use Rattle.c_answers.proofs.Given.{nothing_said}
use Rattle.c_answers.proofs.check.look.Goals as goal

pub unreachable-requires : goal.unreachable-requires
unreachable-requires c =
    let s = c.requires.0 in
    let before = subst (λ store. IsAt read_only_facts store s) (sym c.store-2.ensures) c.requires.1 in
    let after = subst (λ store. IsAt read_only_facts store s) (sym c.store-in-Ok.ensures) (c.check.ensures.read.same s c.requires.1) in
    let room : length (library_names s.libraries) ≤ length c.args.names.now = omega (arith, c.if-names-needed.false, c.names_bytes.ensures s before) in
    let none_failed = no_failure c.args.contents.now.disk c.check.new.self.disk (record { either = inl (c.check.ensures.read.unchanged refl).log }) in
    omega (arith, c.in-None.ensures.unread s after room, ap (count_by is_unreadable) c.deref.ensures.value, c.in-Ok.ensures.device, none_failed)

pub put_findings-requires-clause-all : goal.put_findings-requires-clause-all
put_findings-requires-clause-all c =
    ap length c.deref.ensures.value ∙ c.in-Ok.ensures.all
    ∙ ap (λ e. length e) (sym c.check.ensures.read.entries ∙ ap (λ store. store.entries) (sym c.store-in-Ok.ensures))

pub put_findings-requires-clause-room : goal.put_findings-requires-clause-room
put_findings-requires-clause-room c = omega (
  arith,
  c.if-findings-needed.false,
  c.count.ensures.value,
  ap (λ store. length store.entries) c.store.ensures,
  ap (λ store. length store.entries) c.store-in-Ok.ensures,
  ap length c.check.ensures.read.entries,
)

pub returns-in-Some : goal.returns-in-Some
returns-in-Some c s at =
    let before = subst (λ store. IsAt read_only_facts store s) (sym c.store.ensures) at in
    let after = subst (λ store. IsAt read_only_facts store s) (sym c.store-in-Ok.ensures) (c.check.ensures.read.same s at) in
    let found = subst (λ (l : List Finding). (i : ℕ) → i < length s.libraries → (d : Finding) → IsFinding (get_or s.libraries i no_library) (get_or l i d))
    (sym c.deref.ensures.value) (c.in-Ok.ensures.findings s at) in
    let said = nothing_said c.of.result 1 c.of.ensures in
    inl (
      inl (refl, c.in-Some.ensures.found s after found),
      c.count.ensures.state s before,
      record { preloads = said.0.unlisted.preloads; generation = said.0.unlisted.generation },
      record { objects = said.0.unbound.objects },
      record { text = said.1.text; file = said.1.file },
    )

pub returns-in-Err : goal.returns-in-Err
returns-in-Err c s at = inr (c.tell_memory.ensures.told, c.tell_memory.ensures.uncounted)
