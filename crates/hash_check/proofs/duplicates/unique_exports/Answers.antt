use Rattle.std.proofs.Common.{◌≡◌, ◌∙◌, ℕ, List, length, map, ap, sym, subst, arith}
use Rattle.std.specs.Prelude.{◌↔◌, IsTrue}
use Rattle.std.specs.List.{All}
use Rattle.std.specs.List.Sorted.{IsPermutation}
use Rattle.std.proofs.lemmas.List.Sorted.{IsPermutation-refl}
use Rattle.elf_dynamic.specs.Strings.{name_of}
use Rattle.hash_check.specs.Export.{exported_symbols}
use Rattle.hash_check.specs.inside.Names.{IsSymbol, AllDiffer}
use Rattle.hash_check.proofs.Exporting.{exports-all, exports-moved, whole-all, whole-moved, told-none, told-some}
use Rattle.hash_check.proofs.SharedNames.{few-differ, test-none, symbols-moved, exported-symbols}
use Rattle.hash_check.proofs.duplicates.unique_exports.Goals as goal

pub returns-then-len-lt2-clause-ok : goal.returns-then-len-lt2-clause-ok
returns-then-len-lt2-clause-ok c = (
  test-none c.args.object.now (few-differ c.args.object.now (omega (arith, ap length c.in-Ok.ensures, c.len.ensures, c.if-len-lt2.true))),
  c.none.ensures.exports,
  λ some. absurd (some c.none.ensures.none),
)

pub names_in_table-requires : goal.names_in_table-requires
names_in_table-requires c =
    subst (λ (l : List ℕ). All (IsSymbol c.args.object.now) l) (sym (c.deref.ensures.value ∙ c.in-Ok.ensures)) (exported-symbols c.args.object.now)

pub returns-then-differ-clause-ok : goal.returns-then-differ-clause-ok
returns-then-differ-clause-ok c =
    let file : List ℕ = c.args.object.now in
    let is : c.in-Some.told.0.items ≡ map (name_of file) c.deref.result.now = (rw c.in-Some.is at c.in_ok-told.ensures).0 in
    let tells : IsTrue c.in-Some.told.1 ↔ AllDiffer file c.deref.result.now = (rw c.in-Some.is at c.in_ok-told.ensures).1 in
    let same : IsTrue c.in-Some.told.1 ↔ AllDiffer file (exported_symbols file) =
    subst (λ (l : List ℕ). IsTrue c.in-Some.told.1 ↔ AllDiffer file l) (c.deref.ensures.value ∙ c.in-Ok.ensures) tells in (
      told-none file (exported_symbols file) (IsPermutation-refl (exported_symbols file)) c.in-Some.told.1 same.0 same.1 c.if-differ.true,
      exports-all file c.in-Ok.symbols.items c.in-Some.told.0.items c.in-Ok.ensures (is ∙ ap (λ (l : List ℕ). map (name_of file) l) c.deref.ensures.value),
      λ some. whole-all file c.in-Ok.symbols.items c.in-Ok.ensures,
    )

pub returns-in-Some-clause-ok : goal.returns-in-Some-clause-ok
returns-in-Some-clause-ok c =
    let file : List ℕ = c.args.object.now in
    let tells : IsTrue c.in-Some.told.1 ↔ AllDiffer file c.deref.result.now = (rw c.in-Some.is at c.in_ok-told.ensures).1 in
    let same : IsTrue c.in-Some.told.1 ↔ AllDiffer file (exported_symbols file) =
    subst (λ (l : List ℕ). IsTrue c.in-Some.told.1 ↔ AllDiffer file l) (c.deref.ensures.value ∙ c.in-Ok.ensures) tells in
    told-some file (exported_symbols file) (IsPermutation-refl (exported_symbols file)) c.in-Some.told.1 same.0 same.1 c.if-differ.false

pub names_of-requires : goal.names_of-requires
names_of-requires c =
    let file : List ℕ = c.args.object.now in
    let sorted : List ℕ = c.sort_unstable_by_key.new.self.items in
    let moved : IsPermutation (exported_symbols file) sorted = subst (λ l. IsPermutation l sorted) c.in-Ok.ensures c.sort_unstable_by_key.ensures.permutation in
    subst (All (IsSymbol file)) (sym c.deref-2.ensures.value) (symbols-moved file (exported_symbols file) sorted moved (exported-symbols file))

pub differ_in_strings-requires-clause-symbols : goal.differ_in_strings-requires-clause-symbols
differ_in_strings-requires-clause-symbols c =
    let file : List ℕ = c.args.object.now in
    let sorted : List ℕ = c.sort_unstable_by_key.new.self.items in
    let moved : IsPermutation (exported_symbols file) sorted = subst (λ l. IsPermutation l sorted) c.in-Ok.ensures c.sort_unstable_by_key.ensures.permutation in
    subst (All (IsSymbol file)) (sym c.deref-3.ensures.value) (symbols-moved file (exported_symbols file) sorted moved (exported-symbols file))

pub returns-then-branch-clause-ok : goal.returns-then-branch-clause-ok
returns-then-branch-clause-ok c =
    let file : List ℕ = c.args.object.now in
    let sorted : List ℕ = c.sort_unstable_by_key.new.self.items in
    let moved : IsPermutation (exported_symbols file) sorted = subst (λ l. IsPermutation l sorted) c.in-Ok.ensures c.sort_unstable_by_key.ensures.permutation in
    let same : IsTrue c.in_ok-differ_in_strings.field-0 ↔ AllDiffer file sorted = rw c.deref-3.ensures.value at c.in_ok-differ_in_strings.ensures in (
      told-none file sorted moved c.in_ok-differ_in_strings.field-0 same.0 same.1 c.if-branch.true,
      exports-moved file sorted c.in_ok-names.names.items moved (c.in_ok-names.ensures ∙ ap (λ (l : List ℕ). map (name_of file) l) c.deref-2.ensures.value),
      λ some. whole-moved file sorted moved,
    )

pub returns-clause-ok : goal.returns-clause-ok
returns-clause-ok c =
    let file : List ℕ = c.args.object.now in
    let sorted : List ℕ = c.sort_unstable_by_key.new.self.items in
    let moved : IsPermutation (exported_symbols file) sorted = subst (λ l. IsPermutation l sorted) c.in-Ok.ensures c.sort_unstable_by_key.ensures.permutation in
    let same : IsTrue c.in_ok-differ_in_strings.field-0 ↔ AllDiffer file sorted = rw c.deref-3.ensures.value at c.in_ok-differ_in_strings.ensures in
    told-some file sorted moved c.in_ok-differ_in_strings.field-0 same.0 same.1 c.if-branch.false
