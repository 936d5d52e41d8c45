use Rattle.std.proofs.Common.{sym, subst}
use Rattle.store.proofs.IsReadLemmas.{read_none}
use Rattle.tool_commands.specs.AnyDisk.{FormTells}
use Rattle.sector_disk.proofs.Moments.{exactly_none}
use Rattle.tool_commands.specs.Ends.{FileEnds, FormEnds, FormReads}
use Rattle.tool_commands.specs.Form.{question_of}
use Rattle.tool_parts.specs.Streams.{Streams}
use Rattle.tool_commands.proofs.run.run_opened.Goals as goal

pub returns-in-Info-clause-read : goal.returns-in-Info-clause-read
returns-in-Info-clause-read g c = read_none c.args.contents.now

pub returns-in-Info-clause-ends : goal.returns-in-Info-clause-ends
returns-in-Info-clause-ends g c s at =
    let io : Streams = record {
      before = g.O.Write.contents c.args.output.now;
      after = g.O.Write.contents c.run_info.new.output;
      errors_before = g.E.Write.contents c.args.errors.now;
      errors_after = g.E.Write.contents c.run_info.new.errors;
    } in
    subst (λ f. FormEnds g.D.Disk.facts c.args.contents.now c.args.contents.now.disk s (question_of f) io c.run_info.result) (sym c.in-Info.is) (c.run_info.ensures.ends s at)

pub returns-in-Info-clause-told : goal.returns-in-Info-clause-told
returns-in-Info-clause-told g c =
    let io : Streams = record {
      before = g.O.Write.contents c.args.output.now;
      after = g.O.Write.contents c.run_info.new.output;
      errors_before = g.E.Write.contents c.args.errors.now;
      errors_after = g.E.Write.contents c.run_info.new.errors;
    } in
    subst (λ f. FormTells (g.D.Disk.facts c.args.contents.now.disk) (g.D.Disk.facts c.args.contents.now.disk) (question_of f) io c.run_info.result) (sym c.in-Info.is) c.run_info.ensures.told

pub returns-in-Check-clause-ends : goal.returns-in-Check-clause-ends
returns-in-Check-clause-ends g c s at =
    let io : Streams = record {
      before = g.O.Write.contents c.args.output.now;
      after = g.O.Write.contents c.run_check.new.output;
      errors_before = g.E.Write.contents c.args.errors.now;
      errors_after = g.E.Write.contents c.run_check.new.errors;
    } in
    subst (λ f. FormEnds g.D.Disk.facts c.args.contents.now c.run_check.new.contents.disk s (question_of f) io c.run_check.result) (sym c.in-Check.is) (c.run_check.ensures.ends s at)

pub returns-in-Check-clause-told : goal.returns-in-Check-clause-told
returns-in-Check-clause-told g c =
    let io : Streams = record {
      before = g.O.Write.contents c.args.output.now;
      after = g.O.Write.contents c.run_check.new.output;
      errors_before = g.E.Write.contents c.args.errors.now;
      errors_after = g.E.Write.contents c.run_check.new.errors;
    } in
    subst (λ f. FormTells (g.D.Disk.facts c.args.contents.now.disk) (g.D.Disk.facts c.run_check.new.contents.disk) (question_of f) io c.run_check.result) (sym c.in-Check.is) c.run_check.ensures.told

pub returns-in-Digest-clause-ends : goal.returns-in-Digest-clause-ends
returns-in-Digest-clause-ends g c s at =
    let io : Streams = record {
      before = g.O.Write.contents c.args.output.now;
      after = g.O.Write.contents c.run_digest.new.output;
      errors_before = g.E.Write.contents c.args.errors.now;
      errors_after = g.E.Write.contents c.run_digest.new.errors;
    } in
    subst (λ f. FormEnds g.D.Disk.facts c.args.contents.now c.run_digest.new.contents.disk s (question_of f) io c.run_digest.result) (sym c.in-Digest.is) (c.run_digest.ensures.ends s at)

pub returns-in-Digest-clause-told : goal.returns-in-Digest-clause-told
returns-in-Digest-clause-told g c =
    let io : Streams = record {
      before = g.O.Write.contents c.args.output.now;
      after = g.O.Write.contents c.run_digest.new.output;
      errors_before = g.E.Write.contents c.args.errors.now;
      errors_after = g.E.Write.contents c.run_digest.new.errors;
    } in
    subst (λ f. FormTells (g.D.Disk.facts c.args.contents.now.disk) (g.D.Disk.facts c.run_digest.new.contents.disk) (question_of f) io c.run_digest.result) (sym c.in-Digest.is) c.run_digest.ensures.told

pub returns-in-File-clause-ends : goal.returns-in-File-clause-ends
returns-in-File-clause-ends g c s at =
    let io : Streams = record {
      before = g.O.Write.contents c.args.output.now;
      after = g.O.Write.contents c.run_file.new.output;
      errors_before = g.E.Write.contents c.args.errors.now;
      errors_after = g.E.Write.contents c.run_file.new.errors;
    } in
    let named = subst (λ n. FileEnds (g.D.Disk.facts c.args.contents.now.disk) (g.D.Disk.facts c.run_file.new.contents.disk) s n io c.run_file.result) c.as_bytes.ensures.value (c.run_file.ensures.ends s at) in
    subst (λ f. FormEnds g.D.Disk.facts c.args.contents.now c.run_file.new.contents.disk s (question_of f) io c.run_file.result) (sym c.in-File.is) named

pub returns-in-File-clause-told : goal.returns-in-File-clause-told
returns-in-File-clause-told g c =
    let io : Streams = record {
      before = g.O.Write.contents c.args.output.now;
      after = g.O.Write.contents c.run_file.new.output;
      errors_before = g.E.Write.contents c.args.errors.now;
      errors_after = g.E.Write.contents c.run_file.new.errors;
    } in
    subst (λ f. FormTells (g.D.Disk.facts c.args.contents.now.disk) (g.D.Disk.facts c.run_file.new.contents.disk) (question_of f) io c.run_file.result) (sym c.in-File.is) c.run_file.ensures.told

pub returns-in-Dump-clause-ends : goal.returns-in-Dump-clause-ends
returns-in-Dump-clause-ends g c s at =
    let io : Streams = record {
      before = g.O.Write.contents c.args.output.now;
      after = g.O.Write.contents c.run_dump.new.output;
      errors_before = g.E.Write.contents c.args.errors.now;
      errors_after = g.E.Write.contents c.run_dump.new.errors;
    } in
    subst (λ f. FormEnds g.D.Disk.facts c.args.contents.now c.run_dump.new.contents.disk s (question_of f) io c.run_dump.result) (sym c.in-Dump.is) (c.run_dump.ensures.ends s at)

pub returns-in-Dump-clause-told : goal.returns-in-Dump-clause-told
returns-in-Dump-clause-told g c =
    let io : Streams = record {
      before = g.O.Write.contents c.args.output.now;
      after = g.O.Write.contents c.run_dump.new.output;
      errors_before = g.E.Write.contents c.args.errors.now;
      errors_after = g.E.Write.contents c.run_dump.new.errors;
    } in
    subst (λ f. FormTells (g.D.Disk.facts c.args.contents.now.disk) (g.D.Disk.facts c.run_dump.new.contents.disk) (question_of f) io c.run_dump.result) (sym c.in-Dump.is) c.run_dump.ensures.told

pub returns-in-Info-clause-calls : goal.returns-in-Info-clause-calls
returns-in-Info-clause-calls g c =
    subst (λ f. FormReads (g.D.Disk.facts c.args.contents.now.disk) (g.D.Disk.facts c.args.contents.now.disk) c.args.contents.now.entries (question_of f)) (sym c.in-Info.is) (exactly_none (g.D.Disk.facts c.args.contents.now.disk))

pub returns-in-Check-clause-calls : goal.returns-in-Check-clause-calls
returns-in-Check-clause-calls g c =
    subst (λ f. FormReads (g.D.Disk.facts c.args.contents.now.disk) (g.D.Disk.facts c.run_check.new.contents.disk) c.args.contents.now.entries (question_of f)) (sym c.in-Check.is) c.run_check.ensures.calls

pub returns-in-Digest-clause-calls : goal.returns-in-Digest-clause-calls
returns-in-Digest-clause-calls g c =
    subst (λ f. FormReads (g.D.Disk.facts c.args.contents.now.disk) (g.D.Disk.facts c.run_digest.new.contents.disk) c.args.contents.now.entries (question_of f)) (sym c.in-Digest.is) c.run_digest.ensures.calls

pub returns-in-File-clause-calls : goal.returns-in-File-clause-calls
returns-in-File-clause-calls g c =
    subst (λ f. FormReads (g.D.Disk.facts c.args.contents.now.disk) (g.D.Disk.facts c.run_file.new.contents.disk) c.args.contents.now.entries (question_of f)) (sym c.in-File.is) tt

pub returns-in-Dump-clause-calls : goal.returns-in-Dump-clause-calls
returns-in-Dump-clause-calls g c =
    subst (λ f. FormReads (g.D.Disk.facts c.args.contents.now.disk) (g.D.Disk.facts c.run_dump.new.contents.disk) c.args.contents.now.entries (question_of f)) (sym c.in-Dump.is) tt
