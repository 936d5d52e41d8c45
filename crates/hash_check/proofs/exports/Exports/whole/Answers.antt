use Rattle.std.proofs.Common.{◌∙◌, ℕ, List, map, ap, sym, subst}
use Rattle.std.specs.List.{All}
use Rattle.elf_dynamic.specs.Strings.{name_of}
use Rattle.hash_check.specs.inside.Names.{IsSymbol}
use Rattle.hash_check.proofs.Exporting.{exports-all, whole-all}
use Rattle.hash_check.proofs.SharedNames.{exported-symbols}
use Rattle.hash_check.proofs.exports.Exports.whole.Goals as goal

pub names_of-requires : goal.names_of-requires
names_of-requires c =
    subst (λ (l : List ℕ). All (IsSymbol c.args.object.now) l) (sym (c.deref.ensures.value ∙ c.in_ok-symbols.ensures)) (exported-symbols c.args.object.now)

pub returns-clause-exports : goal.returns-clause-exports
returns-clause-exports c =
    exports-all c.args.object.now c.in_ok-symbols.symbols.items c.in_ok-names.names.items c.in_ok-symbols.ensures
    (c.in_ok-names.ensures ∙ ap (λ (l : List ℕ). map (name_of c.args.object.now) l) c.deref.ensures.value)

pub returns-clause-whole : goal.returns-clause-whole
returns-clause-whole c = whole-all c.args.object.now c.in_ok-symbols.symbols.items c.in_ok-symbols.ensures
