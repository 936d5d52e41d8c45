use Rattle.std.proofs.Common.{◌≡◌, ◌+◌, ◌++◌, ◌∷◌, [], ℕ, List, length, ap, sym, subst, ◌∙◌, arith}
use Rattle.std.specs.Prelude.{is_none, ◌&&◌}
use Rattle.std.specs.List.{flat_map, list_all, range_with_len}
use Rattle.std.specs.Io.KnownBytes.{Appends, append_known}
use Rattle.std.proofs.KnownBytes.{Appends-trans}
use Rattle.image.specs.Placement.{Placed}
use Rattle.image.specs.Refusal.{undefined_in}
use Rattle.bindings.specs.Bindings.{object_text}
use Rattle.bindings.proofs.Texts.{behind, range-more, all-more}
use Rattle.bindings.proofs.Undefined.{all-bound}
use Rattle.bindings.proofs.bindings.Bindings.write_text.Goals as goal

pub loop-own-preserved : goal.loop-own-preserved
loop-own-preserved g c =
    let w = g.W.Write.contents in
    let objects : List Placed = c.args.self.now in
    let own : ℕ = c.loop-own.own in
    let inv = c.loop-own.invariant in
    let start = w c.args.out.now in
    let before = append_known (w c.loop-own.out) c.loop-own.buffer.waiting in
    let after = append_known (w c.put_object.new.out) c.put_object.new.buffer.waiting in
    let put : Appends before after (object_text objects own) = subst (λ (os : List Placed). Appends before after (object_text os own)) c.self.view_is c.in_ok-bound.ensures.text in
    let more : range_with_len 0 (own + 1) ≡ range_with_len 0 own ++ own ∷ [] = range-more 0 own own (omega arith) in
    record {
      text = subst (Appends start after) (sym (ap (flat_map (object_text objects)) more ∙ behind (object_text objects) (range_with_len 0 own) own))
          (Appends-trans start before after (flat_map (object_text objects) (range_with_len 0 own)) (object_text objects own) inv.text put);
      bound =
          ap (λ b. b && c.in_ok-bound.field-0) inv.bound
          ∙ ap (λ b. list_all (λ k. is_none (undefined_in objects k)) (range_with_len 0 own) && b)
          (c.in_ok-bound.ensures.bound ∙ ap (λ (os : List Placed). is_none (undefined_in os own)) c.self.view_is)
          ∙ sym (ap (list_all (λ k. is_none (undefined_in objects k))) more ∙ all-more (λ k. is_none (undefined_in objects k)) (range_with_len 0 own) own);
    }

pub returns-clause-bound : goal.returns-clause-bound
returns-clause-bound g c =
    let objects : List Placed = c.args.self.now in
    let inside : List Placed = c.self.inside.objects in
    let count : c.count-own-end.result ≡ length objects = c.count-own-end.ensures.count ∙ ap (λ (os : List Placed). length os) c.self.view_is in
    let at : c.loop-own.own ≡ length objects = omega (arith, count, c.loop-own-test.false, c.loop-own.auto.own-end) in
    c.loop-own.invariant.bound
    ∙ ap (λ n. list_all (λ k. is_none (undefined_in objects k)) (range_with_len 0 n)) at
    ∙ all-bound objects
