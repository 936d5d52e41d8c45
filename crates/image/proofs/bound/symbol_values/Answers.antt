use Rattle.std.proofs.Common.{◌≡◌, ◌+◌, ◌<◌, ◌++◌, [], ◌∷◌, List, ℕ, Some, length, take, ap, ◌∙◌, sym, refl, subst, arith, inl, inr}
use Rattle.std.specs.Prelude.{slice_get}
use Rattle.std.specs.List.{All}
use Rattle.std.proofs.lemmas.List.{take_all}
use Rattle.std.proofs.lemmas.List.Elements.{All-push}
use Rattle.elf_dynamic.specs.Relocation.{relocations}
use Rattle.elf_dynamic.specs.Strings.{name_of}
use Rattle.elf_dynamic.specs.Symbol.{symbols}
use Rattle.elf_dynamic.specs.declared.relocation.Relocation.{Relocation}
use Rattle.image.specs.Bound.{IsReady}
use Rattle.image.specs.Placement.{Placed}
use Rattle.image.specs.Refusal.{undefined_by}
use Rattle.image.specs.Relocating.{file_at, first_undefined, is_undefined, relocations_of}
use Rattle.image.specs.declared.refusal.BindRefusal.{BindRefusal}
use Rattle.image.specs.declared.refusal.BindRefusal.TheVariants.{Undefined}
use Rattle.image.proofs.Keeping.{values-unknown}
use Rattle.image.proofs.Landing.{symbol-there, undefined-uses}
use Rattle.image.proofs.Placing.{take_next}
use Rattle.image.proofs.Undefined.{passed, found, none-left, undefined-none, undefined-some}
use Rattle.image.proofs.bound.symbol_values.Goals as goal

pub loop-i-init : goal.loop-i-init
loop-i-init c =
    record {
      kept = values-unknown c.args.objects.now c.args.own c.symbol_count.result c.in_ok-found.found.values.items c.in_ok-found.found.known.items
          c.in_ok-found.ensures.values c.in_ok-found.ensures.known
          (c.symbol_count.ensures.count ∙ ap (λ f. length (symbols f)) c.object-object.ensures.file);
      ready = λ k d h. absurd (omega (arith, h));
      first = refl;
    }

pub find_value_of-requires-clause-symbol : goal.find_value_of-requires-clause-symbol
find_value_of-requires-clause-symbol c = λ uses.
    let obj = c.object-object.result.now in
    let r : Relocation = c.rela-relocation.result in
    subst (λ (f : List ℕ). r.symbol < length (symbols f)) c.object-object.ensures.file
    (omega (arith, symbol-there obj c.loop-i.i r c.rela-relocation.ensures.accepted c.rela-relocation.ensures.relocation uses, c.symbol_count.ensures.count, c.symbol_count.ensures.chains))

pub find_value_of-requires-clause-kept : goal.find_value_of-requires-clause-kept
find_value_of-requires-clause-kept c = c.loop-i.invariant.kept

pub loop-i-preserved : goal.loop-i-preserved
loop-i-preserved c =
    let objects : List Placed = c.args.objects.now in
    let own = c.args.own in
    let i = c.loop-i.i in
    let r : Relocation = c.rela-relocation.result in
    let all : List Relocation = relocations_of objects own in
    let at : slice_get all i ≡ Some r = subst (λ (f : List ℕ). slice_get (relocations f) i ≡ Some r) c.object-object.ensures.file c.rela-relocation.ensures.relocation in
    let done : List Relocation = take i all in
    let more : take (i + 1) all ≡ done ++ r ∷ [] = take_next all i r at in
    let values : List ℕ = c.find_value_of.new.found.values.items in
    let before : All (IsReady objects own values) done = λ k d h uses. c.find_value_of.ensures.stays _ (c.loop-i.invariant.ready k d h uses) in
    record {
      kept = c.find_value_of.ensures.kept;
      ready = subst (All (IsReady objects own values)) (sym more) (All-push (IsReady objects own values) done r before c.in-Ok.ensures.found.0);
      first = passed (is_undefined objects own) all i r at c.in-Ok.ensures.found.1 ∙ c.loop-i.invariant.first;
    }

pub name_of-symbol-requires : goal.name_of-symbol-requires
name_of-symbol-requires c =
    let obj = c.object-object.result.now in
    let r : Relocation = c.rela-relocation.result in
    let uses = undefined-uses c.args.objects.now c.args.own r c.in_default.ensures.found in
    omega (arith, symbol-there obj c.loop-i.i r c.rela-relocation.ensures.accepted c.rela-relocation.ensures.relocation uses, c.symbol_count.ensures.count, c.symbol_count.ensures.chains)

pub returns-in_default-clause-refused : goal.returns-in_default-clause-refused
returns-in_default-clause-refused c =
    let objects : List Placed = c.args.objects.now in
    let own = c.args.own in
    let i = c.loop-i.i in
    let r : Relocation = c.rela-relocation.result in
    let all : List Relocation = relocations_of objects own in
    let at : slice_get all i ≡ Some r = subst (λ (f : List ℕ). slice_get (relocations f) i ≡ Some r) c.object-object.ensures.file c.rela-relocation.ensures.relocation in
    let first : first_undefined objects own ≡ Some r = sym c.loop-i.invariant.first ∙ found (is_undefined objects own) all i r at c.in_default.ensures.found in
    let same : undefined_by objects own r ≡ Undefined c.name.result.now c.name_of-symbol.result.now =
    ap (λ n. Undefined n (name_of (file_at objects own) r.symbol)) (sym c.name.ensures)
    ∙ ap (λ n. Undefined c.name.result.now n) (sym (c.name_of-symbol.ensures.name ∙ ap (λ f. name_of f r.symbol) c.object-object.ensures.file)) in
    elim c.undefined.ensures [
      | inl is ↦ inl (undefined-some objects own r first ∙ ap (λ (e : BindRefusal). Some e) (same ∙ sym is))
      | inr is ↦ inr is
    ]

pub returns-clause-ok : goal.returns-clause-ok
returns-clause-ok c =
    let objects : List Placed = c.args.objects.now in
    let all : List Relocation = relocations_of objects c.args.own in
    let count = c.rela_count-i-end.ensures.count ∙ ap (λ f. length (relocations f)) c.object-object.ensures.file in
    undefined-none objects c.args.own (sym c.loop-i.invariant.first ∙ none-left (is_undefined objects c.args.own) all c.loop-i.i (omega (arith, count)))

pub returns-clause-ready : goal.returns-clause-ready
returns-clause-ready c =
    let objects : List Placed = c.args.objects.now in
    let all : List Relocation = relocations_of objects c.args.own in
    let count = c.rela_count-i-end.ensures.count ∙ ap (λ f. length (relocations f)) c.object-object.ensures.file in
    subst (All (IsReady objects c.args.own c.loop-i.found.values.items)) (take_all c.loop-i.i all (omega (arith, count))) c.loop-i.invariant.ready
