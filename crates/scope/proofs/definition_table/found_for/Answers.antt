use Rattle.std.proofs.Common.{◌≡◌, ◌∙◌, ℕ, List, true, false, ap, sym}
use Rattle.std.specs.Prelude.{is_some}
use Rattle.elf_file.specs.Dynamic.{is_symbolic}
use Rattle.hash_check.specs.Numbered.{nth_symbol, name_in}
use Rattle.hash_check.specs.declared.numbered.NumberedSymbol.{NumberedSymbol}
use Rattle.scope.specs.Objects.{Named, file_at}
use Rattle.scope.specs.inside.Definitions.{files_of}
use Rattle.scope.proofs.Kept.{inside, file-is, first-found, found-some, is-none, found-plain, found-later}
use Rattle.scope.proofs.definition_table.found_for.Goals.{then-is_symbolic+else-is_some, else-is_symbolic}
use Rattle.scope.proofs.definition_table.found_for.Goals as goal

pub returns-then-is_some : goal.returns-then-is_some
returns-then-is_some c =
    let objects : List Named = c.args.objects.now in
    let all : List NumberedSymbol = c.args.symbols.now in
    let o : ℕ = (nth_symbol all c.args.at).object in
    let there = inside objects all c.requires.numbered c.args.at c.requires.at in
    let symbolic : is_symbolic (file_at objects (nth_symbol all c.args.at).object) ≡ true =
    ap is_symbolic (file-is objects o c.index-objects-symbol.result there c.index-objects-symbol.is) ∙ sym c.is_symbolic.ensures ∙ c.if-is_symbolic.true in
    let told = c.is_some.ensures in
    let kept = c.target.ensures in
    let yes = c.if-is_some.true in
    let is : is_some c.definition_at-own.result ≡ true = cc in
    found-some objects o (name_in (files_of objects) (nth_symbol all c.args.at)) c.definition_at-own.result is symbolic
    (sym (c.requires.own c.args.at c.requires.at symbolic) ∙ sym c.definition_at-own.ensures)

pub returns : goal.returns
returns c =
    let objects : List Named = c.args.objects.now in
    let all : List NumberedSymbol = c.args.symbols.now in
    let o : ℕ = (nth_symbol all c.args.at).object in
    let name : List ℕ = name_in (files_of objects) (nth_symbol all c.args.at) in
    let there = inside objects all c.requires.numbered c.args.at c.requires.at in
    let same = ap is_symbolic (file-is objects o c.index-objects-symbol.result there c.index-objects-symbol.is) ∙ sym c.is_symbolic.ensures in
    c.definition_at.ensures ∙ first-found objects all c.requires.numbered c.requires.taken c.args.first.now c.args.at c.requires.at c.requires.first
    ∙ (elim c.if-is_symbolic.branch [
      | then-is_symbolic+else-is_some w ↦
          let symbolic = same ∙ w.if-is_symbolic.true in
          let told = w.is_some.ensures in
          let kept = w.target.ensures in
          let no = w.if-is_some.false in
          let not_some : is_some w.definition_at-own.result ≡ false = cc in
          found-later objects o name symbolic
          (sym (c.requires.own c.args.at c.requires.at symbolic) ∙ sym w.definition_at-own.ensures ∙ is-none w.definition_at-own.result not_some)
      | else-is_symbolic w ↦ found-plain objects o name (same ∙ w.if-is_symbolic.false)
    ])
