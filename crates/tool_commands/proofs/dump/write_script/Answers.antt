use Rattle.std.proofs.Common.{◌++◌, map, inl, inr, refl, sym, subst}
use Rattle.std.specs.List.{flat_map}
use Rattle.std.specs.Io.KnownBytes.{Appends, append_known}
use Rattle.std.proofs.KnownBytes.{Appends-trans}
use Rattle.roots.specs.Root.{listed_preloads}
use Rattle.roots.specs.declared.version.Version.TheVariants.{Two}
use Rattle.store.specs.Opened.{IsAt}
use Rattle.store.specs.Stands.{names_at}
use Rattle.store.proofs.Queries.{preloads_are}
use Rattle.tool_commands.specs.Dump.{install_text}
use Rattle.tool_commands.specs.inside.Lack.{end_text, libraries_text}
use Rattle.tool_commands.specs.inside.Listed.{as_listed}
use Rattle.tool_commands.proofs.Listing.{are_listed}
use Rattle.program_parts.proofs.Sent.{sent_alone}
use Rattle.tool_commands.proofs.dump.write_script.Goals as goal

pub returns-clause-ok : goal.returns-clause-ok
returns-clause-ok g c s at =
    let w = g.W.Write.contents in
    let cut = c.in_ok-cut.cut in
    let purpose = c.args.purpose in
    let start = append_known (w c.args.out.now) c.new-script.result.waiting in
    let first = append_known (w c.put_libraries.new.out) c.put_libraries.new.script.waiting in
    let second = append_known (w c.put_end.new.out) c.put_end.new.script.waiting in
    let gone = c.in_ok-cut.ensures.ok s at in
    let here = subst (λ store. IsAt g.D.Disk.facts store s) (sym c.store.ensures) (c.put_libraries.ensures.read.same s at) in
    let preloads = sym (preloads_are g.D.Disk.facts Two c.store.result.now s (g.met.D.Disk.holds_now _) here) in
    let end = subst (λ names. Appends first second (end_text purpose names cut)) preloads (c.in_ok-put_end.ensures s.libraries (inl (s, here, refl))) in
    let put = Appends-trans start first second (libraries_text s cut) (end_text purpose s.preloads cut) gone.1 end in (
      gone.0,
      sent_alone (w c.args.out.now) (w c.put_end.new.out) (w c.finish.new.out) c.new-script.result.waiting c.put_end.new.script.waiting
          (libraries_text s cut ++ end_text purpose s.preloads cut) c.new-script.ensures put c.in_ok-finish.ensures,
    )

pub returns-clause-told : goal.returns-clause-told
returns-clause-told g c =
    let w = g.W.Write.contents in
    let cut = c.in_ok-cut.cut in
    let purpose = c.args.purpose in
    let start = append_known (w c.args.out.now) c.new-script.result.waiting in
    let first = append_known (w c.put_libraries.new.out) c.put_libraries.new.script.waiting in
    let second = append_known (w c.put_end.new.out) c.put_end.new.script.waiting in
    let store = c.store.result.now in
    let listed = map as_listed store.entries in
    let preloads = names_at listed (listed_preloads store.root) in
    let gone = c.in_ok-cut.ensures.told in
    let end = c.in_ok-put_end.ensures listed (inr (are_listed store.entries)) in
    let put = Appends-trans start first second (flat_map install_text gone.0) (end_text purpose preloads cut) gone.2 end in (
      gone.0,
      preloads,
      gone.1,
      sent_alone (w c.args.out.now) (w c.put_end.new.out) (w c.finish.new.out) c.new-script.result.waiting c.put_end.new.script.waiting
          (flat_map install_text gone.0 ++ end_text purpose preloads cut) c.new-script.ensures put c.in_ok-finish.ensures,
    )
