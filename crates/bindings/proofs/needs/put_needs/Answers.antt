use Rattle.std.proofs.Common.{◌≡◌, ◌+◌, ◌++◌, ◌∷◌, [], ℕ, List, Bor, length, take, sym, ap, subst, ◌∙◌}
use Rattle.std.specs.List.{flat_map}
use Rattle.std.specs.Io.KnownBytes.{Appends, append_known}
use Rattle.std.proofs.KnownBytes.{Appends-trans}
use Rattle.std.proofs.Math.Seq.{take-length}
use Rattle.std.proofs.lemmas.Iterator.Consumers.{YieldsList-from_first, YieldsList-turn, YieldsList-end}
use Rattle.std.proofs.lemmas.List.{length_push, take_more}
use Rattle.elf_dynamic.specs.Strings.{needed}
use Rattle.bindings.specs.Bindings.{needs_line}
use Rattle.bindings.proofs.Texts.{behind}
use Rattle.bindings.proofs.needs.put_needs.Goals as goal

pub loop-name-preserved : goal.loop-name-preserved
loop-name-preserved g c =
    let w = g.W.Write.contents in
    let needs : List (List ℕ) = needed c.args.object.now in
    let k : ℕ = length c.loop-name.yielded in
    let name : List ℕ = c.in-Some.name.now in
    let road = YieldsList-from_first (λ (x : Bor (List ℕ)). x.now) (λ (ns : List (List ℕ)). ns) needs (c.into_iter-name-iterator.ensures.into_iter_gives ∙ c.needed_names-name-items.ensures.names) in
    let turn = YieldsList-turn road c.loop-name.yielded _ c.loop-name.yielded_by _ _ c.in-Some.name c.in-Some.is c.next.ensures.steps in
    let more : take (k + 1) needs ≡ take k needs ++ name ∷ [] = take_more needs k name turn.0 ∙ ap (λ n. take k needs ++ n ∷ []) (sym turn.1) in
    let count : length (c.loop-name.yielded ++ c.in-Some.name ∷ []) ≡ k + 1 = length_push c.loop-name.yielded c.in-Some.name in
    let start = append_known (w c.args.out.now) c.args.buffer.now.waiting in
    let before = append_known (w c.loop-name.out) c.loop-name.buffer.waiting in
    let after = append_known (w c.put_name_line.new.out) c.put_name_line.new.buffer.waiting in
    subst (Appends start after) (sym (ap (λ m. flat_map needs_line (take m needs)) count ∙ ap (flat_map needs_line) more ∙ behind needs_line (take k needs) name))
    (Appends-trans start before after (flat_map needs_line (take k needs)) (needs_line name) c.loop-name.invariant c.in_ok-put_name_line.ensures)

pub returns : goal.returns
returns g c =
    let w = g.W.Write.contents in
    let needs : List (List ℕ) = needed c.args.object.now in
    let road = YieldsList-from_first (λ (x : Bor (List ℕ)). x.now) (λ (ns : List (List ℕ)). ns) needs (c.into_iter-name-iterator.ensures.into_iter_gives ∙ c.needed_names-name-items.ensures.names) in
    let end = YieldsList-end road c.loop-name.yielded _ c.loop-name.yielded_by _ _ c.in-None.is c.next.ensures.steps in
    let start = append_known (w c.args.out.now) c.args.buffer.now.waiting in
    let now = append_known (w c.loop-name.out) c.loop-name.buffer.waiting in
    subst (Appends start now) (ap (flat_map needs_line) (ap (λ m. take m needs) end.1 ∙ take-length needs)) c.loop-name.invariant
