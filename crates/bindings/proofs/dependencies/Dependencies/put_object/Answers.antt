use Rattle.std.proofs.Common.{◌≡◌, ◌+◌, ◌++◌, ◌∷◌, [], ℕ, List, Bor, codes, length, map, take, sym, ap, subst, ◌∙◌, append_assoc}
use Rattle.std.specs.List.{flat_map}
use Rattle.std.specs.Io.KnownBytes.{Appends, append_known}
use Rattle.std.proofs.KnownBytes.{Appends-trans}
use Rattle.std.proofs.Math.Seq.{take-length}
use Rattle.std.proofs.lemmas.Iterator.Consumers.{YieldsList-from_first, YieldsList-turn, YieldsList-end}
use Rattle.std.proofs.lemmas.List.{length_push, map_push, take_more}
use Rattle.elf_dynamic.specs.Strings.{needed}
use Rattle.scope.specs.LoadOrder.{Need, names_of}
use Rattle.bindings.specs.Bindings.{name_line}
use Rattle.bindings.specs.Dependencies.{found_text, need_text}
use Rattle.bindings.proofs.Texts.{behind}
use Rattle.bindings.proofs.dependencies.Dependencies.put_object.Goals as goal

pub loop-needed-preserved : goal.loop-needed-preserved
loop-needed-preserved g c =
    let w = g.W.Write.contents in
    let needs : List (List ℕ) = needed c.args.object.now in
    let k : ℕ = length c.loop-needed.yielded in
    let name : List ℕ = c.in-Some.needed.now in
    let head = name_line (codes "found ") c.args.name.now in
    let need = λ (n : List ℕ). let r : Need = record { needer = c.args.name.now; name = n } in r in
    let text = need_text (names_of c.args.self.now.libraries) in
    let road = YieldsList-from_first (λ (x : Bor (List ℕ)). x.now) (λ (ns : List (List ℕ)). ns) needs (c.into_iter-needed-iterator.ensures.into_iter_gives ∙ c.needed_names-needed-items.ensures.names) in
    let turn = YieldsList-turn road c.loop-needed.yielded _ c.loop-needed.yielded_by _ _ c.in-Some.needed c.in-Some.is c.next.ensures.steps in
    let more : take (k + 1) needs ≡ take k needs ++ name ∷ [] = take_more needs k name turn.0 ∙ ap (λ n. take k needs ++ n ∷ []) (sym turn.1) in
    let count : length (c.loop-needed.yielded ++ c.in-Some.needed ∷ []) ≡ k + 1 = length_push c.loop-needed.yielded c.in-Some.needed in
    let start = append_known (w c.args.out.now) c.args.buffer.now.waiting in
    let before = append_known (w c.loop-needed.out) c.loop-needed.buffer.waiting in
    let after = append_known (w c.put_need.new.out) c.put_need.new.buffer.waiting in
    let done = flat_map text (map need (take k needs)) in
    let all : head ++ flat_map text (map need (take (length (c.loop-needed.yielded ++ c.in-Some.needed ∷ [])) needs)) ≡ (head ++ done) ++ text (need name) =
    ap (λ m. head ++ flat_map text (map need (take m needs))) count
    ∙ ap (λ l. head ++ flat_map text (map need l)) more
    ∙ ap (λ l. head ++ flat_map text l) (map_push need (take k needs) name)
    ∙ ap (λ t. head ++ t) (behind text (map need (take k needs)) (need name))
    ∙ sym (append_assoc head done (text (need name))) in
    subst (Appends start after) (sym all)
    (Appends-trans start before after (head ++ done) (text (need name)) c.loop-needed.invariant c.in_ok-put_need.ensures)

pub returns : goal.returns
unfolding found_text
returns g c =
    let w = g.W.Write.contents in
    let needs : List (List ℕ) = needed c.args.object.now in
    let head = name_line (codes "found ") c.args.name.now in
    let need = λ (n : List ℕ). let r : Need = record { needer = c.args.name.now; name = n } in r in
    let text = need_text (names_of c.args.self.now.libraries) in
    let road = YieldsList-from_first (λ (x : Bor (List ℕ)). x.now) (λ (ns : List (List ℕ)). ns) needs (c.into_iter-needed-iterator.ensures.into_iter_gives ∙ c.needed_names-needed-items.ensures.names) in
    let end = YieldsList-end road c.loop-needed.yielded _ c.loop-needed.yielded_by _ _ c.in-None.is c.next.ensures.steps in
    let start = append_known (w c.args.out.now) c.args.buffer.now.waiting in
    let now = append_known (w c.loop-needed.out) c.loop-needed.buffer.waiting in
    subst (Appends start now) (ap (λ l. head ++ flat_map text (map need l)) (ap (λ m. take m needs) end.1 ∙ take-length needs)) c.loop-needed.invariant
