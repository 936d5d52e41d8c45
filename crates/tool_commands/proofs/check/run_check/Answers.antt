use Rattle.std.proofs.Common.{inl, inr, map, length, refl, ◌∙◌, ap, sym, subst}
use Rattle.std.proofs.lemmas.List.{length-map}
use Rattle.roots.specs.declared.version.Version.TheVariants.{Two}
use Rattle.store.specs.Opened.{IsAt}
use Rattle.store.proofs.Queries.{count_is}
use Rattle.tool_commands.specs.Check.{check_status, check_text}
use Rattle.tool_parts.specs.Streams.{Streams, TellsOnly}
use Rattle.tool_commands.proofs.Listing.{are_listed}
use Rattle.tool_commands.specs.inside.Listed.{as_listed}
use Rattle.tool_commands.proofs.check.run_check.Goals as goal

pub returns-in-Ok-clause-ends : goal.returns-in-Ok-clause-ends
returns-in-Ok-clause-ends g c s at =
    let io : Streams = record {
      before = g.O.Write.contents c.args.output.now;
      after = g.O.Write.contents c.tell_findings.new.output;
      errors_before = g.E.Write.contents c.args.errors.now;
      errors_after = g.E.Write.contents c.tell_findings.new.errors;
    } in
    let here = subst (λ store. IsAt g.D.Disk.facts store s) (sym c.store.ensures) (c.check.ensures.read.same s at) in
    inl (
      c.in-Ok.findings.items,
      record { all = c.in-Ok.ensures.all ∙ count_is g.D.Disk.facts Two c.args.contents.now s (g.met.D.Disk.holds_now _) at; each = c.in-Ok.ensures.findings s at },
      c.in-Ok.ensures.device,
      subst (λ l. TellsOnly (check_status l) (check_text s.libraries l) io c.tell_findings.result) c.deref.ensures.value (c.tell_findings.ensures s.libraries (inl (s, here, refl))),
    )

pub returns-in-Ok-clause-told : goal.returns-in-Ok-clause-told
returns-in-Ok-clause-told g c =
    let io : Streams = record {
      before = g.O.Write.contents c.args.output.now;
      after = g.O.Write.contents c.tell_findings.new.output;
      errors_before = g.E.Write.contents c.args.errors.now;
      errors_after = g.E.Write.contents c.tell_findings.new.errors;
    } in
    let entries = c.store.result.now.entries in
    let libraries = map as_listed entries in
    let kept = c.in-Ok.ensures.all ∙ ap (λ e. length e) (sym c.check.ensures.read.entries ∙ ap (λ store. store.entries) (sym c.store.ensures)) in
    inl (
      libraries,
      c.in-Ok.findings.items,
      kept ∙ sym (length-map entries as_listed),
      c.in-Ok.ensures.device,
      subst (λ l. TellsOnly (check_status l) (check_text libraries l) io c.tell_findings.result) c.deref.ensures.value (c.tell_findings.ensures libraries (inr (are_listed entries))),
    )

pub returns-in-Err-clause-ends : goal.returns-in-Err-clause-ends
returns-in-Err-clause-ends g c s at = inr (c.in-Err.ensures.memory s at, (c.say_refusal.ensures.status, refl, c.say_refusal.ensures.said))
