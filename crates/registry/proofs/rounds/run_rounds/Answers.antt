use Rattle.std.proofs.Common.{◌≡◌, [], ◌∷◌, ◌++◌, List, sym, subst, refl, arith, true, is_ok, rules, get_or}
use Rattle.std.proofs.lemmas.List.{take_all}
use Rattle.requests.specs.Runs.{Run}
use Rattle.registry.specs.declared.rounds.Round.{Round}
use Rattle.registry.specs.declared.rounds.RoundReplies.{RoundReplies}
use Rattle.registry.specs.Rounds.{RoundLeads, standing}
use Rattle.registry.proofs.Rounding.{rounds_turn}
use Rattle.registry.proofs.rounds.run_rounds.Goals as goal

pub loop-round-init : goal.loop-round-init
loop-round-init c = record {
  same = c.deref-round-items.ensures.value;
  count = search rules;
  room = search rules;
  runs = λ s stands. (s, subst (λ (l : List RoundReplies). Run RoundLeads (standing c.args.disk s) [] l (standing c.args.disk s)) (sym c.in-Ok.ensures.items) ([], tt, refl), stands);
}

pub loop-round-preserved : goal.loop-round-preserved
loop-round-preserved c =
    let ok : is_ok c.push.result ≡ true = c.push.ensures.succeeds (omega arith) in
    let items : c.push.new.self.items ≡ c.loop-round.told.items ++ c.run_round-replies.result.0 ∷ [] = rw ok at c.push.ensures.items in
    let rounds = c.args.rounds.items in
    let i = c.loop-round.round-index in
    let at : c.round-item.result ≡ get_or rounds i c.round-item.result =
    subst (λ (l : List Round). c.round-item.result ≡ get_or l i c.round-item.result) c.deref-round-items.ensures.value c.round-item.is in
    record {
      same = c.deref-round-items.ensures.value;
      count = search rules;
      room = search rules;
      runs = λ s stands. rounds_turn c.args.disk c.loop-round.disk c.run_round-replies.result.1 s rounds i c.round-item.result
          c.loop-round.told.items c.push.new.self.items c.run_round-replies.result.0
          (omega (arith, c.loop-round-test.true, c.deref-round-items.ensures.len)) (c.loop-round.invariant.runs s stands)
          (λ t always.
          let leads = c.run_round-replies.ensures t always in
          (leads.0, subst (λ (x : Round). RoundLeads (standing c.loop-round.disk t) x c.run_round-replies.result.0 (standing c.run_round-replies.result.1 leads.0)) at leads.1))
          items;
    }

pub returns-clause-ok : goal.returns-clause-ok
returns-clause-ok c s stands =
    let ended = c.loop-round.invariant.runs s stands in (
      ended.0,
      subst (λ (l : List Round). Run RoundLeads (standing c.args.disk s) l c.loop-round.told.items (standing c.loop-round.disk ended.0))
          (take_all c.loop-round.round-index c.args.rounds.items (omega (arith, c.loop-round-test.false, c.deref-round-items.ensures.len))) ended.1,
      ended.2,
    )
