use Rattle.std.proofs.Common.{◌≡◌, ◌∙◌, ℕ, List, map, subst}
use Rattle.std.specs.Prelude.{◌↔◌, IsTrue, IfSome}
use Rattle.elf_dynamic.specs.Strings.{name_of}
use Rattle.hash_check.specs.Numbers.{AreNumbers, AreOwn}
use Rattle.hash_check.proofs.Differing.{own-tells}
use Rattle.hash_check.proofs.duplicates.names_in_table.Goals as goal

pub returns-in-Some-2 : goal.returns-in-Some-2
returns-in-Some-2 c =
    let file : List ℕ = c.args.object.now in
    let is : c.in-Some.names.items ≡ map (name_of file) c.args.symbols.now =
    subst (λ o. IfSome o (λ names. names.items ≡ map (name_of file) c.args.symbols.now)) c.in-Some.is c.in_ok-names.ensures in
    let told : AreNumbers c.deref.result.now c.in-Some-2.numbers.items = subst (λ o. IfSome o (λ v. AreNumbers c.deref.result.now v.items)) c.in-Some-2.is c.in_ok-numbers.ensures in (
      is,
      own-tells file c.args.symbols.now c.deref.result.now c.in-Some-2.numbers.items c.are_own.result (c.deref.ensures.value ∙ is) told
          (subst (λ (l : List ℕ). IsTrue c.are_own.result ↔ AreOwn l) c.deref-in-Some-2.ensures.value c.are_own.ensures),
    )
