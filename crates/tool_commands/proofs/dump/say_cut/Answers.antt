use Rattle.std.proofs.Common.{get_or, sym, subst}
use Rattle.store.specs.Stands.{no_library}
use Rattle.program_parts.specs.Said.{AppendsFront}
use Rattle.tool_commands.specs.Check.{finding_line}
use Rattle.tool_parts.specs.Said.{said_line}
use Rattle.tool_commands.specs.inside.Lack.{lack_line}
use Rattle.tool_commands.proofs.Listing.{length_listed, name_listed}
use Rattle.tool_commands.proofs.dump.say_cut.Goals as goal

pub returns-in-Found-clause-said : goal.returns-in-Found-clause-said
returns-in-Found-clause-said g c libraries lists =
    let facts = g.D.Disk.facts in
    let store = c.args.store.now in
    let i = c.args.cut.position in
    let l = get_or libraries i no_library in
    let before = g.E.Write.contents c.args.errors.now in
    let after = g.E.Write.contents c.say_finding.new.errors in
    let f = c.in-Found.finding in
    let name = name_listed facts store libraries lists i c.name.result.now c.requires c.name.ensures.value c.name.ensures.state in
    let size = length_listed facts store libraries lists i c.length.result c.requires c.length.ensures.value c.length.ensures.state in
    let named = subst (λ n. AppendsFront before after (said_line (finding_line n c.length.result f))) name c.say_finding.ensures.said in
    let sized = subst (λ n. AppendsFront before after (said_line (finding_line l.name n f))) size named in
    subst (λ k. AppendsFront before after (lack_line l k)) (sym c.in-Found.is) sized
