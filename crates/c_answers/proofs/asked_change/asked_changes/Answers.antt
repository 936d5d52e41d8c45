use Rattle.std.proofs.Common.{List, [], ◌∷◌, ◌++◌, ◌<◌, ◌∙◌, ap, sym, subst, map, take, length, get_or, arith}
use Rattle.std.proofs.lemmas.List.{map-append, take_all, take_more}
use Rattle.requests.specs.Request.{Request}
use Rattle.c_answers.specs.Changes.{Mean, Means, request_asked}
use Rattle.c_answers.specs.declared.asked_change.AskedChange.{AskedChange}
use Rattle.c_answers.specs.declared.change_place.ChangePlace.{ChangePlace}
use Rattle.c_answers.proofs.Changes.{mean_at, mean_more}
use Rattle.c_answers.proofs.asked_change.asked_changes.Goals as goal

pub loop-change-init : goal.loop-change-init
loop-change-init c = record {
  mean = subst (λ (all : List AskedChange). Mean c.args.bytes.now [] (map request_asked all)) (sym c.in_ok-all.ensures.items) tt;
  len = omega (arith, c.in_ok-all.ensures.len);
  room = omega (arith, c.in_ok-all.ensures.capacity);
}

pub loop-change-preserved : goal.loop-change-preserved
loop-change-preserved c =
    let bytes = c.args.bytes.now in
    let xs = c.args.changes.now in
    let k = c.loop-change.change-index in
    let item : ChangePlace = record { kind = 0; from = 0; length = 0 } in
    let all = c.loop-change.all.items in
    let asked : AskedChange = c.in-Some.asked in
    let lt : k < length xs = c.loop-change-test.true in
    let means : Means bytes (get_or xs k item) (request_asked asked) = rw c.in-Some.is at c.in_ok-asked.ensures in
    record {
      mean = subst (λ (l : List ChangePlace). Mean bytes l (map request_asked c.push_reserved.new.self.items)) (sym (take_more xs k item lt))
          (subst (λ (l : List Request). Mean bytes (take k xs ++ get_or xs k item ∷ []) l)
          (sym (ap (map request_asked) c.push_reserved.ensures.items ∙ map-append request_asked all (asked ∷ [])))
          (mean_more bytes (take k xs) (map request_asked all) (get_or xs k item) (request_asked asked) c.loop-change.invariant.mean means));
      len = omega (arith, c.push_reserved.ensures.len, c.loop-change.invariant.len);
      room = omega (arith, c.push_reserved.ensures.capacity, c.loop-change.invariant.room);
    }

pub returns-in-None : goal.returns-in-None
returns-in-None c = λ requests mean.
    let item : ChangePlace = record { kind = 0; from = 0; length = 0 } in
    let one = mean_at c.args.bytes.now c.args.changes.now requests c.loop-change.change-index item c.loop-change-test.true mean in
    (rw c.in-None.is at c.in_ok-asked.ensures) one.0 one.1

pub returns : goal.returns
returns c =
    subst (λ (l : List ChangePlace). Mean c.args.bytes.now l (map request_asked c.loop-change.all.items)) (take_all c.loop-change.change-index c.args.changes.now (omega arith))
    c.loop-change.invariant.mean
