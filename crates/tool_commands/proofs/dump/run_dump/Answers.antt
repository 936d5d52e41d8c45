use Rattle.std.proofs.Common.{inl, inr, map, refl, sym, subst}
use Rattle.store.specs.Opened.{IsAt}
use Rattle.tool_commands.proofs.Cuts.{ended, told}
use Rattle.tool_commands.proofs.Listing.{are_listed}
use Rattle.tool_parts.specs.Streams.{Streams}
use Rattle.tool_commands.specs.inside.Listed.{as_listed}
use Rattle.tool_commands.proofs.dump.run_dump.Goals as goal

pub returns-in-Ok-clause-ends : goal.returns-in-Ok-clause-ends
returns-in-Ok-clause-ends g c s at =
    let io : Streams = record {
      before = g.O.Write.contents c.args.output.now;
      after = g.O.Write.contents c.write_script.new.out;
      errors_before = g.E.Write.contents c.args.errors.now;
      errors_after = g.E.Write.contents c.end_dump.new.errors;
    } in
    let old = g.D.Disk.facts c.args.contents.now.disk in
    let new = g.D.Disk.facts c.write_script.new.contents.disk in
    let done = c.in-Ok.ensures.ok s at in
    let here = subst (λ store. IsAt g.D.Disk.facts store s) (sym c.store.ensures) (c.write_script.ensures.read.same s at) in
    ended old new c.args.purpose io c.end_dump.result s c.in-Ok.cut c.end_dump.ensures.status done.0 c.in-Ok.ensures.told.2 (c.end_dump.ensures.said s.libraries (inl (s, here, refl))) done.1

pub returns-in-Err-clause-ends : goal.returns-in-Err-clause-ends
returns-in-Err-clause-ends g c s at = inr (inr (c.cannot_write.ensures.status, c.cannot_write.ensures.said))

pub returns-in-Ok-clause-told : goal.returns-in-Ok-clause-told
returns-in-Ok-clause-told g c =
    let io : Streams = record {
      before = g.O.Write.contents c.args.output.now;
      after = g.O.Write.contents c.write_script.new.out;
      errors_before = g.E.Write.contents c.args.errors.now;
      errors_after = g.E.Write.contents c.end_dump.new.errors;
    } in
    let old = g.D.Disk.facts c.args.contents.now.disk in
    let new = g.D.Disk.facts c.write_script.new.contents.disk in
    let entries = c.store.result.now.entries in
    let listed = map as_listed entries in
    let done = c.in-Ok.ensures.told in
    told old new c.args.purpose io c.end_dump.result listed c.in-Ok.cut c.end_dump.ensures.status done.2 (c.end_dump.ensures.said listed (inr (are_listed entries))) done.0 done.1 done.3

pub returns-in-Err-clause-told : goal.returns-in-Err-clause-told
returns-in-Err-clause-told g c = inr (inr (c.cannot_write.ensures.status, c.cannot_write.ensures.said))
