use Rattle.std.proofs.Common.{ℕ, List, subst, refl}
use Rattle.std.specs.Prelude.{◌↔◌, IsTrue}
use Rattle.hash_check.specs.Numbers.{AreOwn}
use Rattle.hash_check.proofs.Differing.{own-tells, differ-from-fall}
use Rattle.hash_check.proofs.duplicates.differ_in_strings.Goals as goal

pub returns-then-lengths_fall : goal.returns-then-lengths_fall
returns-then-lengths_fall c = (
  λ t. differ-from-fall c.args.object.now c.args.symbols.now c.args.names.now c.requires.names (c.lengths_fall.ensures c.if-lengths_fall.true),
  λ d. refl,
)

pub returns : goal.returns
returns c =
    own-tells c.args.object.now c.args.symbols.now c.args.names.now c.in_ok-numbers.numbers.items c.are_own.result c.requires.names c.in_ok-numbers.ensures
    (subst (λ (l : List ℕ). IsTrue c.are_own.result ↔ AreOwn l) c.deref.ensures.value c.are_own.ensures)
