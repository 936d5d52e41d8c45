use Rattle.std.proofs.Common.{◌<◌, [], ◌∷◌, ◌++◌, All, take, length, get_or, sym, ap, subst, arith, ◌∙◌}
use Rattle.std.specs.List.{flat_map}
use Rattle.std.specs.Io.KnownBytes.{Appends, append_known}
use Rattle.std.proofs.KnownBytes.{Appends-nil, Appends-trans}
use Rattle.std.proofs.lemmas.List.{take_all, take_more}
use Rattle.std.proofs.lemmas.List.Elements.{All-push, All-nil}
use Rattle.requests.specs.Library.{IsLibrary}
use Rattle.states.specs.State.{Library}
use Rattle.store.specs.Opened.{IsAt}
use Rattle.store.specs.Stands.{no_library}
use Rattle.store.proofs.IsReadLemmas.{read_none, read_more}
use Rattle.tool_commands.specs.Dump.{install_line, install_text}
use Rattle.tool_commands.proofs.Installs.{text-behind, text-more}
use Rattle.tool_commands.proofs.dump.put_libraries.Goals as goal

pub loop-position-init : goal.loop-position-init
loop-position-init g c = record {
  read = read_none c.args.contents.now;
  sound = λ s at. All-nil IsLibrary;
  sends = λ s at. Appends-nil (append_known (g.W.Write.contents c.args.out.now) c.args.script.now.waiting);
  told = ([], Appends-nil (append_known (g.W.Write.contents c.args.out.now) c.args.script.now.waiting));
}

pub loop-position-preserved : goal.loop-position-preserved
loop-position-preserved g c =
    let i = c.loop-position.position in
    let inv = c.loop-position.invariant in
    let w = g.W.Write.contents in
    let start = append_known (w c.args.out.now) c.args.script.now.waiting in
    let before = append_known (w c.loop-position.out) c.loop-position.script.waiting in
    let after = append_known (w c.put_install.new.out) c.put_install.new.script.waiting in
    record {
      read = read_more inv.read c.sound_file.ensures.read;
      sound = λ s at.
          let here = subst (λ store. IsAt g.D.Disk.facts store s) (sym c.store.ensures) at in
          let lt : i < length s.libraries = omega (arith, c.loop-position-test.true, c.count-position-end.ensures.state s here) in
          let given = c.in-Ok.ensures.ok s (inv.read.same s at) in
          subst (All IsLibrary) (sym (take_more s.libraries i no_library lt)) (All-push IsLibrary (take i s.libraries) (get_or s.libraries i no_library) (inv.sound s at) given.1);
      sends = λ s at.
          let here = subst (λ store. IsAt g.D.Disk.facts store s) (sym c.store.ensures) at in
          let lt : i < length s.libraries = omega (arith, c.loop-position-test.true, c.count-position-end.ensures.state s here) in
          let given = c.in-Ok.ensures.ok s (inv.read.same s at) in
          let put = subst (λ b. Appends before after (install_line b)) (c.deref.ensures.value ∙ given.0) c.in_ok-put_install-in-Ok.ensures in
          subst (Appends start after) (sym (text-more install_text s.libraries i no_library lt))
          (Appends-trans start before after (flat_map install_text (take i s.libraries)) (install_text (get_or s.libraries i no_library)) (inv.sends s at) put);
      told =
          let library : Library = record { name = []; bytes = c.in-Ok.file.items } in
          let libraries = inv.told.0 in
          let put = subst (λ b. Appends before after (install_line b)) c.deref.ensures.value c.in_ok-put_install-in-Ok.ensures in (
            libraries ++ library ∷ [],
            subst (Appends start after) (sym (text-behind install_text libraries library))
                (Appends-trans start before after (flat_map install_text libraries) (install_text library) inv.told.1 put),
          );
    }

pub returns-in-Err : goal.returns-in-Err
returns-in-Err g c =
    let i = c.loop-position.position in
    let inv = c.loop-position.invariant in
    let count = c.count-position-end.ensures.value ∙ ap (λ o. length o.entries) c.store.ensures in
    let inside : i < length c.args.contents.now.entries = omega (arith, c.loop-position-test.true, count) in
    record {
      read = read_more inv.read c.sound_file.ensures.read;
      inside = subst (λ l. i < length l) (sym (c.sound_file.ensures.read.entries ∙ inv.read.entries)) inside;
      ok = λ s at.
          let here = subst (λ store. IsAt g.D.Disk.facts store s) (sym c.store.ensures) at in
          let lt : i < length s.libraries = omega (arith, c.loop-position-test.true, c.count-position-end.ensures.state s here) in
          ((lt, c.in-Err.ensures.err s (inv.read.same s at)), inv.sends s at);
      told = (inv.told.0, (c.in-Err.ensures.lack, λ e. omega (arith, inv.read.calls.failures, c.in-Err.ensures.device e)), inv.told.1);
    }

pub returns-clause-ok : goal.returns-clause-ok
returns-clause-ok g c s at =
    let i = c.loop-position.position in
    let inv = c.loop-position.invariant in
    let w = g.W.Write.contents in
    let start = append_known (w c.args.out.now) c.args.script.now.waiting in
    let now = append_known (w c.loop-position.out) c.loop-position.script.waiting in
    let here = subst (λ store. IsAt g.D.Disk.facts store s) (sym c.store.ensures) at in
    let all = take_all i s.libraries (omega (arith, c.loop-position-test.false, c.count-position-end.ensures.state s here)) in
    (subst (All IsLibrary) all (inv.sound s at), subst (Appends start now) (ap (flat_map install_text) all) (inv.sends s at))

pub returns-clause-told : goal.returns-clause-told
returns-clause-told g c = (c.loop-position.invariant.told.0, tt, c.loop-position.invariant.told.1)

pub returns-in_err-put_install-in-Ok-clause-read : goal.returns-in_err-put_install-in-Ok-clause-read
returns-in_err-put_install-in-Ok-clause-read g c = read_more c.loop-position.invariant.read c.sound_file.ensures.read
