use Rattle.std.proofs.Common.{◌≡◌, ◌<◌, ◌+◌, ◌∙◌, ◌∷◌, ◌++◌, ℕ, List, [], length, map, take, get_or, ap, sym, refl, append_assoc, arith}
use Rattle.std.proofs.lemmas.List.{map_more}
use Rattle.hash_check.specs.inside.Numbered.{behind}
use Rattle.hash_check.specs.declared.endings.Ending.{Ending}
use Rattle.hash_check.proofs.numbered.add_endings.Goals as goal

-- after one more ending was appended, the list has the first i + 1 endings of `xs`, moved by `before`
one-more : (before : ℕ) (old all new xs : List Ending) (i : ℕ) (e d : Ending) → i < length xs → e ≡ behind before (get_or xs i d)
    → all ≡ old ++ map (behind before) (take i xs) → new ≡ all ++ e ∷ [] → new ≡ old ++ map (behind before) (take (i + 1) xs)
one-more before old all new xs i e d lt is held pushed =
    pushed ∙ ap (λ l. l ++ e ∷ []) held ∙ append_assoc old (map (behind before) (take i xs)) (e ∷ [])
    ∙ ap (λ (x : Ending). old ++ (map (behind before) (take i xs) ++ x ∷ [])) is ∙ ap (λ l. old ++ l) (sym (map_more (behind before) xs i d lt))

pub loop-ending-preserved : goal.loop-ending-preserved
unfolding behind
loop-ending-preserved c =
    record {
      items = one-more c.args.before c.args.all.now.items c.loop-ending.all.items c.push_reserved.new.self.items c.args.endings.now c.loop-ending.ending-index _ _
          c.loop-ending-test.true refl c.loop-ending.invariant.items c.push_reserved.ensures.items;
      len = omega (arith, c.push_reserved.ensures.len, c.loop-ending.invariant.len);
      room = omega (arith, c.push_reserved.ensures.capacity, c.loop-ending.invariant.room);
    }
