use Rattle.std.proofs.Common.{inl, inr, sym, ap, ◌∙◌, Some, None, true, false}
use Rattle.executable.proofs.Refusing.{no-entry, static-pie, pre-initializers, initializers, finalizers}
use Rattle.executable.proofs.Uncalled.{before, initialized, finalized, none-left}
use Rattle.executable.proofs.executable.entry_to_call.Goals as goal

pub returns-in_default-clause-refused : goal.returns-in_default-clause-refused
returns-in_default-clause-refused c = inl (no-entry c.args.image.now (sym c.in_default.ensures))

pub returns-then-calls_itself-clause-called : goal.returns-then-calls_itself-clause-called
returns-then-calls_itself-clause-called c =
    none-left c.args.image.now (sym c.is_static_pie.ensures ∙ c.if-is_static_pie.false) (sym c.calls_itself.ensures ∙ c.if-calls_itself.true)

pub returns-then-is_preinitialized-clause-refused : goal.returns-then-is_preinitialized-clause-refused
returns-then-is_preinitialized-clause-refused c =
    let own = sym c.calls_itself.ensures ∙ c.if-calls_itself.false in
    inl (pre-initializers c.args.image.now c.in-Some.entry (sym c.in-Some.ensures) (sym c.is_static_pie.ensures ∙ c.if-is_static_pie.false)
    (before c.args.image.now true own (sym c.is_preinitialized.ensures ∙ c.if-is_preinitialized.true)))

pub returns-in-Some-first_initialized-clause-refused : goal.returns-in-Some-first_initialized-clause-refused
returns-in-Some-first_initialized-clause-refused c =
    let name = c.in-Some-first_initialized.name.now in
    let own = sym c.calls_itself.ensures ∙ c.if-calls_itself.false in
    elim c.initialized.ensures [
      | inl e ↦ inl (initializers c.args.image.now c.in-Some.entry name (sym c.in-Some.ensures) (sym c.is_static_pie.ensures ∙ c.if-is_static_pie.false)
          (before c.args.image.now false own (sym c.is_preinitialized.ensures ∙ c.if-is_preinitialized.false))
          (initialized c.args.image.now (Some name) own (sym c.in-Some-first_initialized.ensures)) ∙ ap (λ r. Some r) (sym e))
      | inr e ↦ inr e
    ]

pub returns-in-Some-first_finalized-clause-refused : goal.returns-in-Some-first_finalized-clause-refused
returns-in-Some-first_finalized-clause-refused c =
    let name = c.in-Some-first_finalized.name.now in
    let own = sym c.calls_itself.ensures ∙ c.if-calls_itself.false in
    elim c.finalized.ensures [
      | inl e ↦ inl (finalizers c.args.image.now c.in-Some.entry name (sym c.in-Some.ensures) (sym c.is_static_pie.ensures ∙ c.if-is_static_pie.false)
          (before c.args.image.now false own (sym c.is_preinitialized.ensures ∙ c.if-is_preinitialized.false))
          (initialized c.args.image.now None own (sym c.in_default-first_initialized.ensures))
          (finalized c.args.image.now (Some name) own (sym c.in-Some-first_finalized.ensures)) ∙ ap (λ r. Some r) (sym e))
      | inr e ↦ inr e
    ]

pub returns-then-is_static_pie-clause-refused : goal.returns-then-is_static_pie-clause-refused
returns-then-is_static_pie-clause-refused c =
    inl (static-pie c.args.image.now c.in-Some.entry (sym c.in-Some.ensures) (sym c.is_static_pie.ensures ∙ c.if-is_static_pie.true))

pub returns-clause-called : goal.returns-clause-called
returns-clause-called c =
    let image = c.args.image.now in
    let own = sym c.calls_itself.ensures ∙ c.if-calls_itself.false in
    record {
      static = sym c.is_static_pie.ensures ∙ c.if-is_static_pie.false;
      before = before image false own (sym c.is_preinitialized.ensures ∙ c.if-is_preinitialized.false);
      initialized = initialized image None own (sym c.in_default-first_initialized.ensures);
      finalized = finalized image None own (sym c.in_default-first_finalized.ensures);
    }
