use Rattle.std.proofs.Common.{◌≡◌, ◌∙◌, ◌++◌, ◌<◌, Bor, ℕ, List, [], length, map, ap, sym, subst}
use Rattle.std.specs.Prelude.{IfSome}
use Rattle.std.specs.List.{All}
use Rattle.std.specs.List.Sorted.{IsPermutation}
use Rattle.std.proofs.lemmas.List.{get_or-map}
use Rattle.std.proofs.lemmas.List.Sorted.{IsPermutation-refl}
use Rattle.elf_dynamic.specs.Strings.{name_of}
use Rattle.hash_check.specs.inside.Names.{all_symbols}
use Rattle.hash_check.specs.declared.admitted.Admitted.{Admitted}
use Rattle.hash_check.specs.inside.Names.{IsSymbol}
use Rattle.hash_check.proofs.AllSymbols.{all-symbols}
use Rattle.hash_check.proofs.Listing.{gathered-on}
use Rattle.hash_check.proofs.numbered.all_short_names.Goals as goal

pub short_names-requires : goal.short_names-requires
short_names-requires c =
    let file : List ℕ = c.object-object.result.now in
    subst (λ (l : List ℕ). All (IsSymbol file) l) (sym (c.deref.ensures.value ∙ c.in_ok-symbols.ensures)) (all-symbols file)

pub loop-place-preserved : goal.loop-place-preserved
loop-place-preserved c =
    let files : List (List ℕ) = map (λ (o : Bor Admitted). o.now) c.args.objects.now in
    let file : List ℕ = c.object-object.result.now in
    let own : List ℕ = c.deref-in-loop-place.result.now in
    let names : List (List ℕ) = c.loop-place.gathered.names.items in
    let lt : c.loop-place.place < length c.args.objects.now = c.loop-place-test.true in
    let e = get_or-map (λ (o : Bor Admitted). o.now) c.args.objects.now c.loop-place.place c.index-objects-place.result [] lt
    ∙ ap (λ (o : Bor Admitted). o.now) (sym c.index-objects-place.is) ∙ sym c.object-object.ensures.same in
    let one : c.deref.result.now ≡ c.deref-in-loop-place.result.now = c.deref.ensures.value ∙ sym c.deref-in-loop-place.ensures.value in
    let texts : c.in-Some.names.items ≡ map (name_of file) own =
    subst (λ o. IfSome o (λ ns. ns.items ≡ map (name_of file) c.deref.result.now)) c.in-Some.is c.in_ok-names.ensures ∙ ap (map (name_of file)) one in
    let moved : IsPermutation (all_symbols file) own =
    subst (λ (l : List ℕ). IsPermutation (all_symbols file) l) (sym (c.deref-in-loop-place.ensures.value ∙ c.in_ok-symbols.ensures)) (IsPermutation-refl (all_symbols file)) in
    gathered-on files c.loop-place.place c.loop-place.gathered.symbols.items c.add_symbols.new.gathered.symbols.items names c.add_symbols.new.gathered.names.items file own e
    c.loop-place.invariant moved c.in_ok-add_symbols.ensures.symbols (c.in_ok-add_symbols.ensures.names ∙ ap (λ l. names ++ l) texts)
