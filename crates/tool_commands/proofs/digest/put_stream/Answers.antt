use Rattle.std.proofs.Common.{◌<◌, None, take, length, get_or, sym, ap, ◌∙◌, subst, arith}
use Rattle.std.specs.Io.KnownBytes.{Appends, append_known}
use Rattle.std.proofs.KnownBytes.{Appends-trans}
use Rattle.std.proofs.lemmas.List.{take_all}
use Rattle.states.specs.State.{Library}
use Rattle.store.specs.Stands.{no_library}
use Rattle.tool_commands.specs.inside.Sums.{stream_line, stream_text}
use Rattle.tool_commands.proofs.Lines.{lines-more}
use Rattle.tool_commands.proofs.Listing.{count_listed, name_listed}
use Rattle.tool_commands.proofs.digest.put_stream.Goals as goal

pub loop-position-preserved : goal.loop-position-preserved
loop-position-preserved g c ls lists =
    let facts = g.D.Disk.facts in
    let store = c.args.store.now in
    let stream = c.args.stream in
    let i = c.loop-position.position in
    let ds = c.args.digests.now in
    let l = get_or ls i no_library in
    let d = get_or ds i None in
    let start = append_known (g.W.Write.contents c.args.out.now) c.args.line.now.waiting in
    let before = append_known (g.W.Write.contents c.loop-position.out) c.loop-position.line.waiting in
    let after = append_known (g.W.Write.contents c.put_stream_line.new.out) c.put_stream_line.new.line.waiting in
    let count = count_listed facts store ls lists c.count-position-end.result c.count-position-end.ensures.value c.count-position-end.ensures.state in
    let kept : i < length store.entries = omega (arith, c.loop-position-test.true, c.count-position-end.ensures.value) in
    let in_ls : i < length ls = omega (arith, c.loop-position-test.true, count) in
    let in_ds : i < length ds = omega (arith, c.loop-position-test.true, c.count-position-end.ensures.value, c.requires) in
    let name = name_listed facts store ls lists i c.name.result.now kept c.name.ensures.value c.name.ensures.state in
    let put = subst (λ n. Appends before after (stream_line stream n d)) name c.in_ok-put_stream_line.ensures in
    subst (Appends start after) (sym (lines-more (λ (l : Library). stream_line stream l.name) ls ds i no_library None in_ls in_ds))
    (Appends-trans start before after (stream_text stream (take i ls) (take i ds)) (stream_line stream l.name d) (c.loop-position.invariant ls lists) put)

pub returns : goal.returns
returns g c ls lists =
    let i = c.loop-position.position in
    let ds = c.args.digests.now in
    let start = append_known (g.W.Write.contents c.args.out.now) c.args.line.now.waiting in
    let now = append_known (g.W.Write.contents c.loop-position.out) c.loop-position.line.waiting in
    let count = count_listed g.D.Disk.facts c.args.store.now ls lists c.count-position-end.result c.count-position-end.ensures.value c.count-position-end.ensures.state in
    let all_ls = take_all i ls (omega (arith, c.loop-position-test.false, count)) in
    let all_ds = take_all i ds (omega (arith, c.loop-position-test.false, c.count-position-end.ensures.value, c.requires)) in
    subst (Appends start now) (ap (λ t. stream_text c.args.stream t (take i ds)) all_ls ∙ ap (stream_text c.args.stream ls) all_ds) (c.loop-position.invariant ls lists)
