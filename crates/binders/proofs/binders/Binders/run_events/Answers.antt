use Rattle.std.proofs.Common.{◌≡◌, ◌++◌, [], ◌∷◌, ◌+◌, List, map, take, sym, ap, subst, refl, ◌∙◌, arith, true, is_ok, rules, get_or}
use Rattle.std.proofs.lemmas.List.{take_more, take_all, map-append}
use Rattle.requests.specs.declared.command.Command.TheVariants as command
use Rattle.requests.specs.Runs.{Run}
use Rattle.requests.proofs.Runs.{run_more}
use Rattle.binders.specs.Events.{Happening, happening_of}
use Rattle.binders.specs.EventsRan.{EventStep, EventsRan}
use Rattle.binders.specs.declared.event.Event.{Event}
use Rattle.binders.specs.declared.event.Event.TheVariants as event
use Rattle.binders.specs.declared.event.EventReply.{EventReply}
use Rattle.binders.proofs.Happening.{events_ran}
use Rattle.binders.proofs.binders.Binders.run_events.Goals as goal

pub loop-event-init : goal.loop-event-init
loop-event-init g c = record {
  count = search rules;
  room = search rules;
  happened = subst (λ (l : List EventReply). Run (EventStep g.D.Disk.facts) c.args.self.now [] l c.args.self.now) (sym c.in_ok-replies.ensures.items) ([], tt, refl);
}

pub loop-event-preserved : goal.loop-event-preserved
loop-event-preserved g c =
    let ok : is_ok c.push.result ≡ true = c.push.ensures.succeeds (omega arith) in
    let items : c.push.new.self.items ≡ c.loop-event.replies.items ++ c.happen-reply.result ∷ [] = rw ok at c.push.ensures.items in
    let none : Event = event.Apply (command.Install (record { ref_ptr = (0, 0); now = [] })) in
    let i = c.loop-event.event-index in
    let xs = c.args.events.now in
    let asked = happening_of (get_or xs i none) in
    let more : map happening_of (take (i + 1) xs) ≡ map happening_of (take i xs) ++ asked ∷ [] =
    ap (map happening_of) (take_more xs i none c.loop-event-test.true) ∙ map-append happening_of (take i xs) (get_or xs i none ∷ []) in
    record {
      count = search rules;
      room = search rules;
      happened =
          subst (λ (l : List EventReply). Run (EventStep g.D.Disk.facts) c.args.self.now (map happening_of (take (i + 1) xs)) l c.happen-reply.new.self) (sym items)
          (subst (λ (l : List Happening). Run (EventStep g.D.Disk.facts) c.args.self.now l (c.loop-event.replies.items ++ c.happen-reply.result ∷ []) c.happen-reply.new.self) (sym more)
          (run_more (EventStep g.D.Disk.facts) c.args.self.now c.loop-event.self c.happen-reply.new.self asked c.happen-reply.result
          (map happening_of (take i xs)) c.loop-event.replies.items c.loop-event.invariant.happened
          c.happen-reply.ensures));
    }

pub returns-clause-ok : goal.returns-clause-ok
returns-clause-ok g c =
    let xs = c.args.events.now in
    let i = c.loop-event.event-index in
    subst (λ (l : List Event). EventsRan g.D.Disk.facts c.args.self.now c.loop-event.self (map happening_of l) c.loop-event.replies.items)
    (take_all i xs (omega (arith, c.loop-event-test.false)))
    (events_ran g.D.Disk.facts c.args.self.now c.loop-event.self (map happening_of (take i xs)) c.loop-event.replies.items c.loop-event.invariant.happened)
