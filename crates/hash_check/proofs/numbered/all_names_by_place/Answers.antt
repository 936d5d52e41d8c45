use Rattle.std.proofs.Common.{◌≡◌, ◌∙◌, ◌++◌, ◌<◌, Bor, ℕ, List, [], length, map, arith, ap, sym, subst}
use Rattle.std.specs.List.{All}
use Rattle.std.specs.List.Sorted.{IsPermutation}
use Rattle.std.proofs.lemmas.List.{get_or-map}
use Rattle.std.proofs.lemmas.List.Sorted.{All-permutation}
use Rattle.elf_dynamic.specs.Strings.{name_of}
use Rattle.hash_check.specs.inside.Names.{all_symbols}
use Rattle.hash_check.specs.declared.admitted.Admitted.{Admitted}
use Rattle.hash_check.specs.declared.endings.Ending.{Ending}
use Rattle.hash_check.specs.inside.Names.{IsSymbol}
use Rattle.hash_check.specs.inside.Endings.{AreEndings}
use Rattle.hash_check.specs.inside.Numbered.{behind}
use Rattle.hash_check.proofs.AllSymbols.{all-symbols}
use Rattle.hash_check.proofs.Listing.{gathered-on}
use Rattle.hash_check.proofs.Joined.{endings-more}
use Rattle.hash_check.proofs.numbered.all_names_by_place.Goals as goal

valid-symbols : (file own : List ℕ) → IsPermutation (all_symbols file) own → All (IsSymbol file) own
valid-symbols file own moved = All-permutation (IsSymbol file) (all_symbols file) own moved (all-symbols file)

pub names_of-requires : goal.names_of-requires
names_of-requires c =
    let file : List ℕ = c.object-object.result.now in
    valid-symbols file c.deref.result.now
    (subst (IsPermutation (all_symbols file)) (sym c.deref.ensures.value) c.in_ok-symbols.ensures)

pub endings_of-requires : goal.endings_of-requires
endings_of-requires c =
    let file : List ℕ = c.object-object.result.now in
    valid-symbols file c.deref-in-loop-place.result.now
    (subst (IsPermutation (all_symbols file)) (sym c.deref-in-loop-place.ensures.value) c.in_ok-symbols.ensures)

pub loop-place-preserved : goal.loop-place-preserved
loop-place-preserved c =
    let files : List (List ℕ) = map (λ (o : Bor Admitted). o.now) c.args.objects.now in
    let file : List ℕ = c.object-object.result.now in
    let own : List ℕ = c.deref-in-loop-place-3.result.now in
    let names : List (List ℕ) = c.loop-place.gathered.names.items in
    let lt : c.loop-place.place < length c.args.objects.now = c.loop-place-test.true in
    let e = get_or-map (λ (o : Bor Admitted). o.now) c.args.objects.now c.loop-place.place c.index-objects-place.result [] lt
    ∙ ap (λ (o : Bor Admitted). o.now) (sym c.index-objects-place.is) ∙ sym c.object-object.ensures.same in
    let one : c.deref.result.now ≡ c.deref-in-loop-place-3.result.now = c.deref.ensures.value ∙ sym c.deref-in-loop-place-3.ensures.value in
    let texts : c.in_ok-names.names.items ≡ map (name_of file) own = c.in_ok-names.ensures ∙ ap (map (name_of file)) one in
    let more : c.add_symbols.new.gathered.names.items ≡ names ++ map (name_of file) own = c.in_ok-add_symbols.ensures.names ∙ ap (λ l. names ++ l) texts in
    let two : c.deref-in-loop-place.result.now ≡ c.deref-in-loop-place-3.result.now = c.deref-in-loop-place.ensures.value ∙ sym c.deref-in-loop-place-3.ensures.value in
    let new : List Ending = c.in_ok-endings.endings.items in
    let rest : AreEndings (map (name_of file) own) new = subst (λ (l : List ℕ). AreEndings (map (name_of file) l) new) two c.in_ok-endings.ensures in
    let before : c.len.result ≡ length names = omega (arith, c.len.ensures) in
    let endings : c.add_endings.new.all.items ≡ c.loop-place.all.items ++ map (behind (length names)) new =
    c.in_ok-add_endings.ensures ∙ ap (λ (l : List Ending). c.loop-place.all.items ++ map (behind c.len.result) l) c.deref-in-loop-place-2.ensures.value
    ∙ ap (λ n. c.loop-place.all.items ++ map (behind n) new) before in
    let moved : IsPermutation (all_symbols file) own = subst (IsPermutation (all_symbols file)) (sym c.deref-in-loop-place-3.ensures.value) c.in_ok-symbols.ensures in
    record {
      gathered = gathered-on files c.loop-place.place c.loop-place.gathered.symbols.items c.add_symbols.new.gathered.symbols.items names c.add_symbols.new.gathered.names.items file own e
          c.loop-place.invariant.gathered moved c.in_ok-add_symbols.ensures.symbols more;
      endings = subst (λ l. AreEndings l c.add_endings.new.all.items) (sym more)
          (subst (λ (l : List Ending). AreEndings (names ++ map (name_of file) own) l) (sym endings)
          (endings-more names (map (name_of file) own) c.loop-place.all.items new c.loop-place.invariant.endings rest));
    }
