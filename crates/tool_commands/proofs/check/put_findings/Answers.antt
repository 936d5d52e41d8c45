use Rattle.std.proofs.Common.{◌<◌, take, length, get_or, sym, ap, ◌∙◌, subst, arith}
use Rattle.std.specs.Io.KnownBytes.{Appends, append_known}
use Rattle.std.proofs.KnownBytes.{Appends-trans}
use Rattle.std.proofs.lemmas.List.{take_all}
use Rattle.store.specs.Stands.{no_library}
use Rattle.contents.specs.declared.finding.Finding.TheVariants.{Sound}
use Rattle.tool_commands.specs.Check.{finding_line, finding_text, findings_text}
use Rattle.tool_commands.proofs.Lines.{lines-more}
use Rattle.tool_commands.proofs.Listing.{count_listed, length_listed, name_listed}
use Rattle.tool_commands.proofs.check.put_findings.Goals as goal

pub loop-position-preserved : goal.loop-position-preserved
loop-position-preserved g c ls lists =
    let facts = g.D.Disk.facts in
    let store = c.args.store.now in
    let i = c.loop-position.position in
    let fs = c.args.findings.now in
    let l = get_or ls i no_library in
    let f = get_or fs i Sound in
    let start = append_known (g.W.Write.contents c.args.out.now) c.args.line.now.waiting in
    let before = append_known (g.W.Write.contents c.loop-position.out) c.loop-position.line.waiting in
    let after = append_known (g.W.Write.contents c.put_finding.new.out) c.put_finding.new.line.waiting in
    let count = count_listed facts store ls lists c.count-position-end.result c.count-position-end.ensures.value c.count-position-end.ensures.state in
    let kept : i < length store.entries = omega (arith, c.loop-position-test.true, c.count-position-end.ensures.value) in
    let in_ls : i < length ls = omega (arith, c.loop-position-test.true, count) in
    let in_fs : i < length fs = omega (arith, c.loop-position-test.true, c.count-position-end.ensures.value, c.requires) in
    let name = name_listed facts store ls lists i c.name-name.result.now kept c.name-name.ensures.value c.name-name.ensures.state in
    let size = length_listed facts store ls lists i c.length.result kept c.length.ensures.value c.length.ensures.state in
    let put = subst (λ n. Appends before after (finding_line n c.length.result f)) name c.in_ok-put_finding.ensures in
    let one = subst (λ n. Appends before after (finding_line l.name n f)) size put in
    subst (Appends start after) (sym (lines-more finding_text ls fs i no_library Sound in_ls in_fs))
    (Appends-trans start before after (findings_text (take i ls) (take i fs)) (finding_text l f) (c.loop-position.invariant ls lists) one)

pub returns : goal.returns
returns g c ls lists =
    let i = c.loop-position.position in
    let fs = c.args.findings.now in
    let start = append_known (g.W.Write.contents c.args.out.now) c.args.line.now.waiting in
    let now = append_known (g.W.Write.contents c.loop-position.out) c.loop-position.line.waiting in
    let count = count_listed g.D.Disk.facts c.args.store.now ls lists c.count-position-end.result c.count-position-end.ensures.value c.count-position-end.ensures.state in
    let all_ls = take_all i ls (omega (arith, c.loop-position-test.false, count)) in
    let all_fs = take_all i fs (omega (arith, c.loop-position-test.false, c.count-position-end.ensures.value, c.requires)) in
    subst (Appends start now) (ap (λ t. findings_text t (take i fs)) all_ls ∙ ap (findings_text ls) all_fs) (c.loop-position.invariant ls lists)
