use Rattle.std.proofs.Common.{List, [], ◌∷◌, ◌++◌, ◌<◌, ◌∙◌, ap, sym, map, take, length, arith}
use Rattle.std.proofs.lemmas.List.{map-append, map_more, take_all}
use Rattle.requests.specs.Request.{Request, request_of}
use Rattle.c_answers.specs.Changes.{request_asked}
use Rattle.c_answers.specs.declared.asked_change.AskedChange.{AskedChange}
use Rattle.c_answers.proofs.asked_change.commands_of.Goals as goal

pub loop-change-preserved : goal.loop-change-preserved
loop-change-preserved c =
    let xs = c.args.asked.now in
    let k = c.loop-change.change-index in
    let item : AskedChange = c.change-item.result in
    let lt : k < length xs = omega arith in
    record {
      same = ap (map request_of) c.push_reserved.ensures.items
          ∙ map-append request_of c.loop-change.commands.items (c.as_command.result ∷ [])
          ∙ ap (λ (l : List Request). l ++ request_of c.as_command.result ∷ []) c.loop-change.invariant.same
          ∙ ap (λ (q : Request). map request_asked (take k xs) ++ q ∷ []) (c.as_command.ensures ∙ ap request_asked c.change-item.is)
          ∙ sym (map_more request_asked xs k item lt);
      len = omega (arith, c.push_reserved.ensures.len, c.loop-change.invariant.len);
      room = omega (arith, c.push_reserved.ensures.capacity, c.loop-change.invariant.room);
    }

pub returns : goal.returns
returns c = c.loop-change.invariant.same ∙ ap (map request_asked) (take_all c.loop-change.change-index c.args.asked.now (omega arith))
