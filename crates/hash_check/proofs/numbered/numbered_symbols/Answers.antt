use Rattle.std.proofs.Common.{Bor, ℕ, List, length, map, ap, sym, subst, arith}
use Rattle.std.specs.Prelude.{IfSome}
use Rattle.std.proofs.lemmas.List.{length-map}
use Rattle.hash_check.specs.Numbered.{name_in}
use Rattle.hash_check.specs.Numbers.{AreNumbers}
use Rattle.hash_check.specs.declared.admitted.Admitted.{Admitted}
use Rattle.hash_check.specs.inside.Endings.{AreEndings}
use Rattle.hash_check.specs.inside.Numbered.{AreGathered}
use Rattle.hash_check.proofs.Listing.{numbered}
use Rattle.hash_check.proofs.numbered.numbered_symbols.Goals as goal

pub set_numbers-requires : goal.set_numbers-requires
set_numbers-requires c =
    let files : List (List ℕ) = map (λ (o : Bor Admitted). o.now) c.args.objects.now in
    let gathered : AreGathered files (length c.args.objects.now) c.in-Some.gathered.symbols.items c.in-Some.gathered.names.items = rw c.in-Some.is at c.in_ok-gathered.ensures in
    let told : AreNumbers c.deref.result.now c.in-Some-2.numbers.items = rw c.in-Some-2.is at c.in_ok-numbers.ensures in
    omega (
      arith,
      told.size,
      c.deref-in-Some-2.ensures.len,
      ap length c.deref-in-Some-2.ensures.value,
      ap length c.deref.ensures.value,
      ap length gathered.names_are,
      length-map c.in-Some.gathered.symbols.items (name_in files),
    )

pub numbers_of_endings-requires : goal.numbers_of_endings-requires
numbers_of_endings-requires c = subst (λ (l : List (List ℕ)). AreEndings l c.in_ok-gathered-2.endings.items) (sym c.deref-2.ensures.value) c.in_ok-gathered-2.ensures.endings

pub set_numbers-requires-2 : goal.set_numbers-requires-2
set_numbers-requires-2 c =
    let files : List (List ℕ) = map (λ (o : Bor Admitted). o.now) c.args.objects.now in
    omega (
      arith,
      c.in_ok-numbers-2.ensures.size,
      ap length c.deref-3.ensures.value,
      ap length c.deref-2.ensures.value,
      ap length c.in_ok-gathered-2.ensures.gathered.names_are,
      length-map c.in_ok-gathered-2.gathered.symbols.items (name_in files),
    )

pub returns-in-Some-2 : goal.returns-in-Some-2
returns-in-Some-2 c =
    let files : List (List ℕ) = map (λ (o : Bor Admitted). o.now) c.args.objects.now in
    let names : List (List ℕ) = c.in-Some.gathered.names.items in
    let count = length-map c.args.objects.now (λ (o : Bor Admitted). o.now) in
    let gathered = subst (λ o. IfSome o (λ g. AreGathered files (length c.args.objects.now) g.symbols.items g.names.items)) c.in-Some.is c.in_ok-gathered.ensures in
    let told = subst (λ o. IfSome o (λ v. AreNumbers c.deref.result.now v.items)) c.in-Some-2.is c.in_ok-numbers.ensures in
    let are : AreNumbers names c.deref-in-Some-2.result.now =
    subst (λ l. AreNumbers l c.deref-in-Some-2.result.now) c.deref.ensures.value (subst (λ (l : List ℕ). AreNumbers c.deref.result.now l) (sym c.deref-in-Some-2.ensures.value) told) in
    numbered files c.in-Some.gathered.symbols.items c.set_numbers.result.items names c.deref-in-Some-2.result.now
    (subst (λ n. AreGathered files n c.in-Some.gathered.symbols.items names) (sym count) gathered) are c.set_numbers.ensures.size c.set_numbers.ensures.given

pub returns : goal.returns
returns c =
    let files : List (List ℕ) = map (λ (o : Bor Admitted). o.now) c.args.objects.now in
    let names : List (List ℕ) = c.in_ok-gathered-2.gathered.names.items in
    let count = length-map c.args.objects.now (λ (o : Bor Admitted). o.now) in
    let are : AreNumbers names c.deref-3.result.now =
    subst (λ l. AreNumbers l c.deref-3.result.now) c.deref-2.ensures.value (subst (λ (l : List ℕ). AreNumbers c.deref-2.result.now l) (sym c.deref-3.ensures.value) c.in_ok-numbers-2.ensures) in
    numbered files c.in_ok-gathered-2.gathered.symbols.items c.set_numbers-2.result.items names c.deref-3.result.now
    (subst (λ n. AreGathered files n c.in_ok-gathered-2.gathered.symbols.items names) (sym count) c.in_ok-gathered-2.ensures.gathered) are c.set_numbers-2.ensures.size c.set_numbers-2.ensures.given
