-- If a queue is processed from its beginning, and what each of its objects needs is added to its end, it
-- becomes the joined levels.
use Rattle.std.proofs.Common.{◌≡◌, ℕ, zero, suc, ◌+◌, ◌<◌, ◌≤◌, List, [], ◌∷◌, ◌++◌, length, take, drop, get_or, sym, ap, subst, ◌∙◌, refl, append_assoc, append-nil, arith, length-append, add-zero}
use Rattle.std.specs.List.{flat_map, concat}
use Rattle.std.proofs.Math.Seq.{drop-append_seam}
use Rattle.std.proofs.lemmas.List.{take-append-drop, drop-drop, length-drop, get_or_append_left, get_or-drop, nil_from_length}
use Rattle.std.proofs.lemmas.Grind.{flat_map-append}
use Rattle.scope.specs.Levels.{next_level, levels_after, levels, joined_levels}
use Rattle.scope.specs.inside.Growing.{grown}
use Rattle.scope.specs.inside.Reached as inside
use Rattle.scope.proofs.Growing.{grown_is, grown-nil, grown-append, grown-take}

-- if x is the first element of a list after i elements, it is element i of any list that begins with
-- this list
item_at : (ps ms : List ℕ) (i x : ℕ) (left : List ℕ) → drop i ps ≡ x ∷ left → get_or (ps ++ ms) i 0 ≡ x
item_at ps ms i x left e =
    get_or_append_left ps ms 0 i (omega (arith, length-drop i ps, ap length e))
    ∙ sym (get_or-drop i ps 0 0 ∙ ap (λ k. get_or ps k 0) (add-zero i))
    ∙ ap (λ l. get_or l 0 0) e

-- if a level needs no new objects, all levels after it are empty
no_more : (needs : ℕ → List ℕ) (t : ℕ) (earlier level : List ℕ) → next_level needs earlier level ≡ [] → concat (levels_after needs t earlier level) ≡ []
unfolding levels_after next_level
no_more needs zero earlier level none = refl
no_more needs (suc t) earlier level none =
    ap (λ l. l ++ concat (levels_after needs t (earlier ++ l) l)) none ∙ no_more needs t (earlier ++ []) [] refl

module _ (needs : ℕ → List ℕ) (n : ℕ) (first : List ℕ) where
  abbrev Reached : List ℕ → ℕ → Type 0
  Reached places i = inside.Reached needs n first places i

  -- `Reached` is true of the first `i` objects, and object number `i` is `x`, the next one to process
  pub record At (places : List ℕ) (i x : ℕ) : Type 0 where
    pub earlier : List ℕ
    pub walked : List ℕ
    pub left : List ℕ
    pub turns : ℕ
    pub whole : joined_levels needs n first ≡ earlier ++ concat (levels_after needs turns earlier (walked ++ x ∷ left))
    pub is : places ≡ grown earlier (flat_map needs walked)
    pub from : drop i earlier ≡ x ∷ left
    pub index : i + suc (length left) ≡ length earlier
    pub room : n < length earlier + turns

  pub reached-start : 0 < length first → Reached first 0
  unfolding joined_levels levels
  reached-start some = record {
    earlier = first;
    walked = [];
    left = first;
    turns = n;
    whole = refl;
    is = sym (grown-nil first);
    from = refl;
    index = omega arith;
    room = omega (arith, some);
  }

  pub reached-next : {places : List ℕ} {i x : ℕ} → At places i x → Reached (grown places (needs x)) (i + 1)
  reached-next {places} {i} {x} at = record {
    earlier = at.earlier;
    walked = at.walked ++ x ∷ [];
    left = at.left;
    turns = at.turns;
    whole = at.whole ∙ ap (λ l. at.earlier ++ concat (levels_after needs at.turns at.earlier l)) (sym (append_assoc at.walked (x ∷ []) at.left));
    is =
        ap (λ l. grown l (needs x)) at.is
        ∙ sym (grown-append at.earlier (flat_map needs at.walked) (needs x))
        ∙ ap (grown at.earlier) (sym (flat_map-append needs at.walked (x ∷ []) ∙ ap (λ l. flat_map needs at.walked ++ l) (append-nil (needs x))));
    from = sym (drop-drop 1 i at.earlier ∙ refl) ∙ ap (drop 1) at.from;
    index = omega (arith, at.index);
    room = at.room;
  }

  -- before the end of the queue, there is a next object to process; it may be the first one of a new
  -- level
  pub reached-at : (places : List ℕ) (i : ℕ) → Reached places i → i < length places → length places ≤ n → At places i (get_or places i 0)
  unfolding levels_after next_level
  reached-at places i r inside few = by r.left refl
    where
      next : List ℕ
      next = next_level needs r.earlier r.walked

      split : places ≡ r.earlier ++ next
      split = r.is ∙ grown_is r.earlier (flat_map needs r.walked)

      size : length places ≡ length r.earlier + length next
      size = ap length split ∙ length-append r.earlier next

      turned : (x : ℕ) (left : List ℕ) (t : ℕ) → r.left ≡ [] → next ≡ x ∷ left → r.turns ≡ suc t → At places i (get_or places i 0)
      turned x left t e more turns =
          let here : i ≡ length r.earlier = omega (arith, ap length e, r.index) in
          let from : drop i (r.earlier ++ next) ≡ x ∷ left = ap (λ k. drop k (r.earlier ++ next)) here ∙ drop-append_seam r.earlier next ∙ more in
          let item : get_or places i 0 ≡ x = ap (λ l. get_or l i 0) (split ∙ sym (append-nil (r.earlier ++ next))) ∙ item_at (r.earlier ++ next) [] i x left from in
          let rest = λ (l : List ℕ). concat (levels_after needs t (r.earlier ++ l) l) in
          subst (At places i) (sym item) (record {
            earlier = r.earlier ++ next;
            walked = [];
            left = left;
            turns = t;
            whole =
                r.whole
                ∙ ap (λ m. r.earlier ++ concat (levels_after needs m r.earlier (r.walked ++ r.left))) turns
                ∙ ap (λ l. let l' = next_level needs r.earlier l in r.earlier ++ (l' ++ rest l')) (ap (λ l. r.walked ++ l) e ∙ append-nil r.walked)
                ∙ sym (append_assoc r.earlier next (rest next))
                ∙ ap (λ l. (r.earlier ++ next) ++ concat (levels_after needs t (r.earlier ++ next) l)) more;
            is = split ∙ sym (grown-nil (r.earlier ++ next));
            from = from;
            index = omega (arith, here, length-append r.earlier next, ap length more);
            room = omega (arith, r.room, turns, length-append r.earlier next, ap length more);
          })

      by_turns : (x : ℕ) (left : List ℕ) (t : ℕ) → r.left ≡ [] → next ≡ x ∷ left → r.turns ≡ t → At places i (get_or places i 0)
      by_turns x left zero e more turns = absurd (omega (arith, r.room, turns, size, few))
      by_turns x left (suc t) e more turns = turned x left t e more turns

      by_next : (l : List ℕ) → r.left ≡ [] → next ≡ l → At places i (get_or places i 0)
      by_next [] e none = absurd (omega (arith, size, inside, r.index, ap length e, ap length none))
      by_next (x ∷ left) e more = by_turns x left r.turns e more refl

      by : (l : List ℕ) → r.left ≡ l → At places i (get_or places i 0)
      by [] e = by_next next e refl
      by (x ∷ left) e =
          let from : drop i r.earlier ≡ x ∷ left = r.from ∙ e in
          let item : get_or places i 0 ≡ x = ap (λ l. get_or l i 0) split ∙ item_at r.earlier next i x left from in
          subst (At places i) (sym item) (record {
            earlier = r.earlier;
            walked = r.walked;
            left = left;
            turns = r.turns;
            whole = r.whole ∙ ap (λ l. r.earlier ++ concat (levels_after needs r.turns r.earlier (r.walked ++ l))) e;
            is = r.is;
            from = from;
            index = omega (arith, r.index, ap length e);
            room = r.room;
          })

  -- if all objects of the queue have been processed, its places are the joined levels
  pub reached-end : (places : List ℕ) (i : ℕ) → Reached places i → length places ≤ i → joined_levels needs n first ≡ places
  unfolding next_level
  reached-end places i r outside =
      let next : List ℕ = next_level needs r.earlier r.walked in
      let split : places ≡ r.earlier ++ next = r.is ∙ grown_is r.earlier (flat_map needs r.walked) in
      let size : length places ≡ length r.earlier + length next = ap length split ∙ length-append r.earlier next in
      let none : next ≡ [] = nil_from_length next (omega (arith, size, outside, r.index)) in
      let done : r.left ≡ [] = nil_from_length r.left (omega (arith, size, outside, r.index)) in
      r.whole
      ∙ ap (λ l. r.earlier ++ concat (levels_after needs r.turns r.earlier l)) (ap (λ l. r.walked ++ l) done ∙ append-nil r.walked)
      ∙ ap (λ l. r.earlier ++ l) (no_more needs r.turns r.earlier r.walked none ∙ sym none)
      ∙ sym split

  -- the joined levels begin with the first `i` objects of the queue, followed by object `x`
  pub record Begins (places : List ℕ) (i x : ℕ) : Type 0 where
    pub more : List ℕ
    pub begins : joined_levels needs n first ≡ take i places ++ x ∷ more

  pub at-begins : (places : List ℕ) (i x : ℕ) → At places i x → Begins places i x
  at-begins places i x at =
      let rest : List ℕ = concat (levels_after needs at.turns at.earlier (at.walked ++ x ∷ at.left)) in
      record {
        more = at.left ++ rest;
        begins =
            at.whole
            ∙ ap (λ l. l ++ rest) (sym (take-append-drop i at.earlier) ∙ ap (λ l. take i at.earlier ++ l) at.from)
            ∙ append_assoc (take i at.earlier) (x ∷ at.left) rest
            ∙ ap (λ l. l ++ x ∷ (at.left ++ rest)) (sym (ap (take i) at.is ∙ grown-take i at.earlier (flat_map needs at.walked) (omega (arith, at.index))));
      }
