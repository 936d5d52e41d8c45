use Rattle.std.proofs.Common.{◌≡◌, ◌<◌, ◌+◌, ◌∙◌, ◌++◌, ℕ, List, [], Option, Vec, Global, Bor, get_or, length, map, take, drop, arith, refl, ap, sym, subst}
use Rattle.std.proofs.Math.Seq.{take-append_seam}
use Rattle.std.proofs.lemmas.List.{get_or_default, length-map}
use Rattle.hash_check.specs.Numbered.{nth_symbol, name_in, AreNumbered}
use Rattle.hash_check.specs.declared.numbered.NumberedSymbol.{NumberedSymbol}
use Rattle.hash_check.specs.declared.admitted.Admitted.{Admitted}
use Rattle.scope.specs.Objects.{Named}
use Rattle.scope.specs.Lookup.{lookup}
use Rattle.scope.specs.declared.target.Target.{Target}
use Rattle.scope.specs.inside.Definitions.{files_of, AreFirst, AreFound, HaveRoom, IsPutAt}
use Rattle.scope.proofs.Kept.{inside}
use Rattle.scope.proofs.Rows.{found-more, found-all}
use Rattle.scope.proofs.definition_table.DefinitionTable.new.Goals as goal

abbrev none : NumberedSymbol
none = record { object = 0; symbol = 0; number = 0 }

-- if two lists of files and two lists of symbols are equal, `AreNumbered` is true of one pair if it is
-- of the other
numbered : (objects : List Named) (files : List (List ℕ)) (all there : List NumberedSymbol) → files ≡ files_of objects → AreNumbered files all → there ≡ all
    → AreNumbered (files_of objects) there
numbered objects files all there are is moved = subst (AreNumbered (files_of objects)) (sym moved) (subst (λ l. AreNumbered l all) are is)

pub first_definitions-requires-clause-numbered : goal.first_definitions-requires-clause-numbered
first_definitions-requires-clause-numbered c =
    numbered c.args.objects.now _ _ _ (ap (map (λ (o : Bor Admitted). o.now)) c.deref.ensures.value ∙ c.in_ok-admitted.ensures) c.in_ok-symbols.ensures c.deref-2.ensures.value

pub own_where_symbolic-requires-clause-numbered : goal.own_where_symbolic-requires-clause-numbered
own_where_symbolic-requires-clause-numbered c =
    numbered c.args.objects.now _ _ _ (ap (map (λ (o : Bor Admitted). o.now)) c.deref.ensures.value ∙ c.in_ok-admitted.ensures) c.in_ok-symbols.ensures c.deref-3.ensures.value

pub found_for-found-requires-clause-numbered : goal.found_for-found-requires-clause-numbered
found_for-found-requires-clause-numbered c =
    numbered c.args.objects.now _ _ _ (ap (map (λ (o : Bor Admitted). o.now)) c.deref.ensures.value ∙ c.in_ok-admitted.ensures) c.in_ok-symbols.ensures c.deref-in-loop-at.ensures.value

pub found_for-found-requires-clause-first : goal.found_for-found-requires-clause-first
found_for-found-requires-clause-first c =
    let objects : List Named = c.args.objects.now in
    let there : List NumberedSymbol = c.deref-in-loop-at.result.now in
    subst (AreFirst objects there (length there)) (sym c.deref-in-loop-at-2.ensures.value)
    (subst (λ (l : List NumberedSymbol). AreFirst objects l (length l) c.in_ok-first.first.items) (c.deref-2.ensures.value ∙ sym c.deref-in-loop-at.ensures.value) c.in_ok-first.ensures)

-- the row of a symbol's object has an element for the symbol
has_place : (objects : List Named) (all : List NumberedSymbol) (at : ℕ) (rows : List (List (Option Target))) → AreNumbered (files_of objects) all → at < length all
    → HaveRoom objects rows → (nth_symbol all at).symbol < length (get_or rows (nth_symbol all at).object [])
has_place objects all at rows are lt room =
    subst (λ n. (nth_symbol all at).symbol < n) (sym (room.sizes (nth_symbol all at).object (inside objects all are at lt))) (are.are.each at lt).within

pub put-requires-clause-place : goal.put-requires-clause-place
put-requires-clause-place c =
    let objects : List Named = c.args.objects.now in
    let all : List NumberedSymbol = c.in_ok-symbols.symbols.items in
    let at : ℕ = c.loop-at.at in
    let items : Vec (Option Target) Global → List (Option Target) = λ v. v.items in
    let lt : at < length all = omega (arith, c.loop-at-test.true, c.len-at-end.ensures) in
    let are = numbered objects _ _ _ (ap (map (λ (o : Bor Admitted). o.now)) c.deref.ensures.value ∙ c.in_ok-admitted.ensures) c.in_ok-symbols.ensures refl in
    let one : c.index.result.now ≡ nth_symbol all at = c.index.ensures ∙ get_or_default all at c.index.result.now none lt in
    subst (λ (s : NumberedSymbol). s.object < length c.deref_mut.result.now) (sym one)
    (omega (arith, inside objects all are at lt, c.loop-at.invariant.room.size, length-map c.loop-at.rows.items items, ap length c.deref_mut.ensures.value))

pub put-requires-clause-symbol : goal.put-requires-clause-symbol
put-requires-clause-symbol c =
    let objects : List Named = c.args.objects.now in
    let all : List NumberedSymbol = c.in_ok-symbols.symbols.items in
    let at : ℕ = c.loop-at.at in
    let items : Vec (Option Target) Global → List (Option Target) = λ v. v.items in
    let lt : at < length all = omega (arith, c.loop-at-test.true, c.len-at-end.ensures) in
    let are = numbered objects _ _ _ (ap (map (λ (o : Bor Admitted). o.now)) c.deref.ensures.value ∙ c.in_ok-admitted.ensures) c.in_ok-symbols.ensures refl in
    let one : c.index.result.now ≡ nth_symbol all at = c.index.ensures ∙ get_or_default all at c.index.result.now none lt in
    let two : c.index-in-loop-at.result.now ≡ nth_symbol all at = c.index-in-loop-at.ensures ∙ get_or_default all at c.index-in-loop-at.result.now none lt in
    subst (λ (s : NumberedSymbol). s.symbol < length (get_or (map items c.deref_mut.result.now) c.index.result.now.object [])) (sym two)
    (subst (λ (s : NumberedSymbol). (nth_symbol all at).symbol < length (get_or (map items c.deref_mut.result.now) s.object [])) (sym one)
    (subst (λ (l : List (Vec (Option Target) Global)). (nth_symbol all at).symbol < length (get_or (map items l) (nth_symbol all at).object [])) (sym c.deref_mut.ensures.value)
    (has_place objects all at (map items c.loop-at.rows.items) are lt c.loop-at.invariant.room)))

pub loop-at-preserved : goal.loop-at-preserved
loop-at-preserved c =
    let objects : List Named = c.args.objects.now in
    let all : List NumberedSymbol = c.in_ok-symbols.symbols.items in
    let at : ℕ = c.loop-at.at in
    let items : Vec (Option Target) Global → List (Option Target) = λ v. v.items in
    let new : List (Vec (Option Target) Global) = c.put.new.rows in
    let old : List (Vec (Option Target) Global) = c.loop-at.rows.items in
    let rest : List (Vec (Option Target) Global) = drop (length c.put.new.rows) c.loop-at.rows.items in
    let found : Option Target = c.found_for-found.result in
    let lt : c.loop-at.at < length c.in_ok-symbols.symbols.items = omega (arith, c.loop-at-test.true, c.len-at-end.ensures) in
    let size : c.loop-at.rows.len ≡ length c.put.new.rows = omega (arith, c.put.auto.rows, c.deref_mut.ensures.len) in
    let whole : take c.loop-at.rows.len (c.put.new.rows ++ drop (length c.put.new.rows) c.loop-at.rows.items) ≡ c.put.new.rows = ap (λ n. take n (new ++ rest)) size ∙ take-append_seam new rest in
    let one : c.index.result.now ≡ nth_symbol all c.loop-at.at = c.index.ensures ∙ get_or_default all at c.index.result.now none lt in
    let two : c.index-in-loop-at.result.now ≡ nth_symbol all c.loop-at.at = c.index-in-loop-at.ensures ∙ get_or_default all at c.index-in-loop-at.result.now none lt in
    let is : c.found_for-found.result ≡ lookup objects (nth_symbol all c.loop-at.at).object (name_in (files_of objects) (nth_symbol all c.loop-at.at)) =
    c.found_for-found.ensures
    ∙ ap (λ (l : List NumberedSymbol). lookup objects (nth_symbol l at).object (name_in (files_of objects) (nth_symbol l at))) c.deref-in-loop-at.ensures.value in
    let put : IsPutAt (map items old) (map items new) (nth_symbol all c.loop-at.at).object (nth_symbol all c.loop-at.at).symbol found =
    subst (λ (l : List (Vec (Option Target) Global)). IsPutAt (map items l) (map items new) (nth_symbol all at).object (nth_symbol all at).symbol found) c.deref_mut.ensures.value
    (subst (λ (s : NumberedSymbol). IsPutAt (map items c.deref_mut.result.now) (map items new) s.object (nth_symbol all at).symbol found) one
    (subst (λ (s : NumberedSymbol). IsPutAt (map items c.deref_mut.result.now) (map items new) c.index.result.now.object s.symbol found) two c.put.ensures)) in
    subst (λ (l : List (Vec (Option Target) Global)). AreFound objects all (at + 1) (map items l)) (sym whole)
    (found-more objects all at (map items old) (map items new) found c.loop-at.invariant is put)

pub returns : goal.returns
returns c =
    let objects : List Named = c.args.objects.now in
    let all : List NumberedSymbol = c.in_ok-symbols.symbols.items in
    let items : Vec (Option Target) Global → List (Option Target) = λ v. v.items in
    let rows : List (List (Option Target)) = map items c.loop-at.rows.items in
    let files = ap (map (λ (o : Bor Admitted). o.now)) c.deref.ensures.value ∙ c.in_ok-admitted.ensures in
    let numbered : AreNumbered (files_of objects) all = subst (λ (l : List (List ℕ)). AreNumbered l all) files c.in_ok-symbols.ensures in
    let end : c.loop-at.at ≡ length c.in_ok-symbols.symbols.items = omega (arith, c.loop-at-test.false, c.loop-at.auto.at-end, c.len-at-end.ensures) in
    found-all objects all rows numbered (subst (λ n. AreFound objects all n rows) end c.loop-at.invariant)
