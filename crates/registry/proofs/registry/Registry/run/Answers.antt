use Rattle.std.proofs.Common.{◌≡◌, ◌++◌, [], ◌∷◌, ◌+◌, ◌<◌, ℕ, List, length, map, take, sym, ap, subst, refl, ◌∙◌, arith, true, is_ok, rules, get_or}
use Rattle.std.proofs.lemmas.List.{take_more, take_all, map-append, length-append, length-map, length-take-le}
use Rattle.requests.specs.Request.{Request, request_of}
use Rattle.requests.specs.declared.command.Command.{Command}
use Rattle.requests.specs.declared.command.Command.TheVariants as command
use Rattle.requests.specs.declared.reply.Reply.{Reply}
use Rattle.registry.specs.Acknowledged.{commanded}
use Rattle.registry.specs.Answered.{AreAnswered}
use Rattle.registry.specs.Ran.{RunsThrough}
use Rattle.registry.proofs.RanSoFar.{RunsSoFar}
use Rattle.registry.proofs.Answering.{answered_more}
use Rattle.registry.proofs.Running.{commanded_more, runs_none, runs_turn, runs_through}
use Rattle.registry.proofs.registry.Registry.run.Goals as goal

asked_length : (xs : List Command) (i : ℕ) (rs : List Reply) → i < length xs → length rs ≡ i → length (map request_of (take i xs)) ≡ length rs
asked_length xs i rs lt count = length-map (take i xs) request_of ∙ length-take-le i xs (omega (arith, lt)) ∙ sym count

pub loop-command-init : goal.loop-command-init
loop-command-init g c = record {
  count = search rules;
  told = ap length c.in_ok-replies.ensures.items;
  within = omega arith;
  room = search rules;
  runs = λ s at. subst (λ rs. RunsSoFar g.D.Disk.facts c.args.self.now c.args.self.now s (commanded [] rs)) (sym c.in_ok-replies.ensures.items) ([], runs_none g.D.Disk.facts c.args.self.now s at);
  answered = subst (λ rs. AreAnswered g.D.Disk.facts c.args.self.now c.args.self.now [] rs) (sym c.in_ok-replies.ensures.items) refl;
}

pub loop-command-preserved : goal.loop-command-preserved
loop-command-preserved g c =
    let ok : is_ok c.push.result ≡ true = c.push.ensures.succeeds (omega arith) in
    let items : c.push.new.self.items ≡ c.loop-command.replies.items ++ c.apply-reply.result ∷ [] = rw ok at c.push.ensures.items in
    let none : Command = command.Install (record { ref_ptr = (0, 0); now = [] }) in
    let i = c.loop-command.command-index in
    let xs = c.args.commands.now in
    let asked = request_of (get_or xs i none) in
    let more : map request_of (take (i + 1) xs) ≡ map request_of (take i xs) ++ asked ∷ [] =
    ap (map request_of) (take_more xs i none c.loop-command-test.true) ∙ map-append request_of (take i xs) (get_or xs i none ∷ []) in
    let same : length (map request_of (take i xs)) ≡ length c.loop-command.replies.items = asked_length xs i c.loop-command.replies.items c.loop-command-test.true c.loop-command.invariant.told in
    let facts = g.D.Disk.facts in
    let old = c.args.self.now in
    let new = c.apply-reply.new.self in
    record {
      count = search rules;
      told = ap length items ∙ length-append c.loop-command.replies.items (c.apply-reply.result ∷ []) ∙ ap (λ n. n + 1) c.loop-command.invariant.told;
      within = omega (arith, c.loop-command-test.true);
      room = search rules;
      runs = λ s at.
          subst (λ (l : List Reply). RunsSoFar facts old new s (commanded (map request_of (take (i + 1) xs)) l)) (sym items)
          (subst (λ (l : List Request). RunsSoFar facts old new s (commanded l (c.loop-command.replies.items ++ c.apply-reply.result ∷ []))) (sym more)
          (subst (RunsSoFar facts old new s) (sym (commanded_more (map request_of (take i xs)) c.loop-command.replies.items asked c.apply-reply.result (omega (arith, same))))
          (let so_far = c.loop-command.invariant.runs s at in (
            so_far.0 ++ new ∷ [],
            runs_turn facts old c.loop-command.self new s (commanded (map request_of (take i xs)) c.loop-command.replies.items) so_far.0 so_far.1 asked c.apply-reply.result
                c.apply-reply.ensures.applied (λ t at. c.apply-reply.ensures.all_calls t at.stored) c.apply-reply.ensures.on_any_disk.did,
          ))));
      answered =
          subst (λ (l : List Reply). AreAnswered facts old new (map request_of (take (i + 1) xs)) l) (sym items)
          (subst (λ (l : List Request). AreAnswered facts old new l (c.loop-command.replies.items ++ c.apply-reply.result ∷ [])) (sym more)
          (answered_more facts old c.loop-command.self new (map request_of (take i xs)) c.loop-command.replies.items asked c.apply-reply.result c.loop-command.invariant.answered
          c.apply-reply.ensures.on_any_disk));
    }

pub returns-clause-ok : goal.returns-clause-ok
returns-clause-ok g c s at =
    let xs = c.args.commands.now in
    let i = c.loop-command.command-index in
    let all = take_all i xs (omega (arith, c.loop-command-test.false)) in
    let so_far = c.loop-command.invariant.runs s at in
    let runs = runs_through g.D.Disk.facts c.args.self.now c.loop-command.self s (commanded (map request_of (take i xs)) c.loop-command.replies.items) so_far.0 so_far.1 in (
      so_far.0,
      omega (arith, length-map xs request_of, c.loop-command.invariant.told, c.loop-command.invariant.within, c.loop-command-test.false),
      subst (λ l. RunsThrough g.D.Disk.facts c.args.self.now so_far.0 c.loop-command.self s (commanded (map request_of l) c.loop-command.replies.items)) all runs,
    )

pub returns-clause-on_any_disk : goal.returns-clause-on_any_disk
returns-clause-on_any_disk g c =
    subst (λ l. AreAnswered g.D.Disk.facts c.args.self.now c.loop-command.self (map request_of l) c.loop-command.replies.items)
    (take_all c.loop-command.command-index c.args.commands.now (omega (arith, c.loop-command-test.false))) c.loop-command.invariant.answered
