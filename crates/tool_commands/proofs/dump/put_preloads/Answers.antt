use Rattle.std.proofs.Common.{◌≡◌, ◌++◌, codes, sym, subst, ◌∙◌}
use Rattle.std.specs.List.{flat_map}
use Rattle.std.specs.Io.KnownBytes.{Appends, append_known}
use Rattle.std.proofs.KnownBytes.{Appends-trans}
use Rattle.roots.specs.Root.{listed_preloads}
use Rattle.store.specs.Stands.{names_at}
use Rattle.program_parts.proofs.Sent.{ended}
use Rattle.tool_commands.specs.Dump.{behind_space, preload_text}
use Rattle.tool_commands.proofs.Installs.{preload-line}
use Rattle.tool_commands.proofs.dump.put_preloads.Goals as goal

pub returns : goal.returns
returns g c libraries lists =
    let w = g.W.Write.contents in
    let start = append_known (w c.args.out.now) c.args.script.now.waiting in
    let first = append_known (w c.put.new.out) c.put.new.self.waiting in
    let second = append_known (w c.put_preload_names.new.out) c.put_preload_names.new.script.waiting in
    let preloads = names_at libraries (listed_preloads c.args.store.now.root) in
    let names = flat_map behind_space preloads in
    let front = Appends-trans start first second (codes "preload") names c.in_ok-put.ensures.ok (c.in_ok-put_preload_names.ensures.ok libraries lists) in
    let put = ended start (w c.put_preload_names.new.out) c.put_preload_names.new.script.waiting c.end_line.new.self.waiting (codes "preload" ++ names) front c.end_line.ensures in
    let some = sym c.is_empty.ensures ∙ c.if-is_empty.false in
    let line = subst (λ p. codes "preload" ++ flat_map behind_space (names_at libraries p) ++ codes "\n" ≡ preload_text (names_at libraries p)) c.preloads.ensures.value
    (preload-line libraries c.preloads.result.now some) in
    subst (λ t. Appends start (append_known (w c.put_preload_names.new.out) c.end_line.new.self.waiting) t) line put
