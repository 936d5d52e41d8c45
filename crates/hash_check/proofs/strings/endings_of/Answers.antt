use Rattle.std.proofs.Common.{◌≡◌, ◌∙◌, ◌+◌, ℕ, List, length, map, ap, sym, subst, refl, arith}
use Rattle.elf_dynamic.specs.Strings.{name_of}
use Rattle.hash_check.specs.inside.Endings.{AreEndings}
use Rattle.hash_check.specs.declared.strings.Stretch.{Stretch}
use Rattle.hash_check.specs.declared.endings.Ending.{Ending}
use Rattle.hash_check.proofs.Gathering.{IsOpen, open-on, open-next, gathered}
use Rattle.hash_check.proofs.strings.endings_of.Goals.{then-next-stretch+in_ok-push, else-next-stretch}
use Rattle.hash_check.proofs.strings.endings_of.Goals as goal

pub loop-number-preserved : goal.loop-number-preserved
loop-number-preserved c =
    let file : List ℕ = c.args.object.now in
    let symbols : List ℕ = c.args.symbols.now in
    let n : ℕ = c.loop-number.number in
    let next : Stretch = c.stretch_of-next.result in
    let endings : List Ending = c.if-next-stretch.endings.items in
    elim c.if-next-stretch.branch [
      | then-next-stretch+in_ok-push w ↦
          let e : Ending = record { string = w.stretch_bytes.result; first = c.loop-number.first; past = c.loop-number.number } in
          subst (λ f. IsOpen file symbols (n + 1) f next endings) (sym w.first-is)
          (subst (λ (l : List Ending). IsOpen file symbols (n + 1) n next l) (sym (ap (λ v. v.items) w.endings-is ∙ w.in_ok-push.ensures.items))
          (open-next file symbols n c.loop-number.first c.loop-number.stretch next c.loop-number.endings.items e c.requires c.loop-number-test.true c.loop-number.invariant
          c.stretch_of-next.ensures.stretch c.stretch_of-next.ensures.within (record { string = w.stretch_bytes.ensures; first_is = refl; past_is = refl })))
      | else-next-stretch w ↦
          subst (λ f. IsOpen file symbols (n + 1) f next endings) (sym w.first-is)
          (subst (λ (l : List Ending). IsOpen file symbols (n + 1) c.loop-number.first next l) (sym (ap (λ v. v.items) w.endings-is))
          (open-on file symbols n c.loop-number.first c.loop-number.stretch next c.loop-number.endings.items c.loop-number.invariant c.stretch_of-next.ensures.stretch c.stretch_of-next.ensures.within
          (omega (arith, w.if-next-stretch.false))))
    ]

pub returns : goal.returns
returns c =
    let file : List ℕ = c.args.object.now in
    let symbols : List ℕ = c.args.symbols.now in
    let all : length c.args.symbols.now ≡ c.loop-number.number = omega (arith, c.loop-number-test.false, c.loop-number.auto.number-end) in
    let e : Ending = record { string = c.stretch_bytes-2.result; first = c.loop-number.first; past = length c.args.symbols.now } in
    subst (AreEndings (map (name_of file) symbols)) (sym c.in_ok-push-2.ensures.items)
    (gathered file symbols c.loop-number.number c.loop-number.first c.loop-number.stretch c.loop-number.endings.items e c.requires (sym all) c.loop-number.invariant
    (record { string = c.stretch_bytes-2.ensures; first_is = refl; past_is = all }))
