use Rattle.std.proofs.Common.{◌<◌, codes, inl, inr, length, take, get_or, sym, ap, ◌∙◌, subst, arith}
use Rattle.std.specs.List.{flat_map}
use Rattle.std.specs.Io.KnownBytes.{Appends, append_known}
use Rattle.std.proofs.KnownBytes.{Appends-nil, Appends-trans}
use Rattle.std.proofs.lemmas.List.{take_all}
use Rattle.std.proofs.lemmas.List.Elements.{All-get_or}
use Rattle.store.specs.Stands.{names_at}
use Rattle.tool_commands.specs.Dump.{behind_space}
use Rattle.tool_commands.proofs.Installs.{all-spaced, spaced, text-more}
use Rattle.tool_commands.proofs.Listing.{name_listed}
use Rattle.tool_commands.proofs.dump.put_preload_names.Goals as goal

pub loop-position-init : goal.loop-position-init
loop-position-init g c = record {
  sends = λ libraries lists. Appends-nil (append_known (g.W.Write.contents c.args.out.now) c.args.script.now.waiting);
  within = λ h. h;
}

pub loop-position-preserved : goal.loop-position-preserved
loop-position-preserved g c = record {
  sends = λ libraries lists.
      let i = c.loop-position.position-index in
      let f = spaced libraries in
      let positions = c.preloads-positions.result.now in
      let front = flat_map f (take i positions) in
      let start = append_known (g.W.Write.contents c.args.out.now) c.args.script.now.waiting in
      let before = append_known (g.W.Write.contents c.loop-position.out) c.loop-position.script.waiting in
      let mid = append_known (g.W.Write.contents c.put.new.out) c.put.new.self.waiting in
      let after = append_known (g.W.Write.contents c.put-in-loop-position.new.out) c.put-in-loop-position.new.self.waiting in
      let both = Appends-trans before mid after (codes " ") c.name.result.now c.in_ok-put.ensures.ok c.in_ok-put-2.ensures.ok in
      let store = c.args.store.now in
      let listed : get_or positions i 0 < length store.entries = All-get_or (λ p. p < length store.entries) positions i 0 c.loop-position-test.true c.preloads-positions.ensures.inside in
      let kept = subst (λ k. k < length store.entries) (sym c.from.ensures) listed in
      let name = name_listed g.D.Disk.facts store libraries lists c.from.result c.name.result.now kept c.name.ensures.value c.name.ensures.state in
      let named = subst (λ n. Appends before after (behind_space n)) name both in
      let placed = subst (λ k. Appends before after (spaced libraries k)) c.from.ensures named in
      let begun = c.loop-position.invariant.sends libraries lists in
      subst (Appends start after) (sym (text-more f positions i 0 c.loop-position-test.true)) (Appends-trans start before after front (f (get_or positions i 0)) begun placed);
  within = λ h. c.in_ok-put-2.ensures.within (inl (c.in_ok-put.ensures.within (inr (omega arith))));
}

pub returns-clause-ok : goal.returns-clause-ok
returns-clause-ok g c libraries lists =
    let positions = c.preloads-positions.result.now in
    let start = append_known (g.W.Write.contents c.args.out.now) c.args.script.now.waiting in
    let now = append_known (g.W.Write.contents c.loop-position.out) c.loop-position.script.waiting in
    let all = take_all c.loop-position.position-index positions (omega (arith, c.loop-position-test.false)) in
    let whole = ap (flat_map (spaced libraries)) all ∙ all-spaced libraries positions ∙ ap (λ p. flat_map behind_space (names_at libraries p)) c.preloads-positions.ensures.value in
    subst (Appends start now) whole (c.loop-position.invariant.sends libraries lists)

pub returns-clause-within : goal.returns-clause-within
returns-clause-within g c h = c.loop-position.invariant.within h
