use Rattle.std.proofs.Common.{rules, sym, subst}
use Rattle.std.specs.Prelude.{OnOk}
use Rattle.std.specs.Io.KnownBytes.{Appends, append_known}
use Rattle.roots.specs.Root.{listed_preloads}
use Rattle.store.specs.Stands.{names_at}
use Rattle.tool_commands.specs.Dump.{commit_text, preload_text}
use Rattle.tool_commands.specs.inside.Lack.{end_text}
use Rattle.tool_commands.proofs.Installs.{last_line}
use Rattle.program_parts.proofs.Sent.{behind}
use Rattle.tool_commands.proofs.dump.put_end.Goals as goal

pub returns-in-Some : goal.returns-in-Some
returns-in-Some g c = search rules

pub returns-in_ok-put_preloads-in-None : goal.returns-in_ok-put_preloads-in-None
returns-in_ok-put_preloads-in-None g c libraries lists =
    let w = g.W.Write.contents in
    let start = append_known (w c.args.out.now) c.args.script.now.waiting in
    let mid = append_known (w c.put_preloads.new.out) c.put_preloads.new.script.waiting in
    let now = append_known (w c.put_commit.new.out) c.put_commit.new.script.waiting in
    let purpose = c.args.purpose in
    let preloads = names_at libraries (listed_preloads c.args.store.now.root) in
    let put = behind c.put_commit.result start mid now (preload_text preloads) (commit_text purpose) (c.in_ok-put_preloads-in-None.ensures libraries lists) c.put_commit.ensures in
    let last = subst (λ t. OnOk c.put_commit.result (Appends start now t)) (last_line purpose preloads) put in
    subst (λ k. OnOk c.put_commit.result (Appends start now (end_text purpose preloads k))) (sym c.in-None.is) last
