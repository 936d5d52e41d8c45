use Rattle.std.proofs.Common.{◌≡◌, true, ◌∙◌, ap, sym, subst, rules}
use Rattle.roots.specs.declared.root.Root.{Root}
use Rattle.roots.specs.declared.slot.Slot.TheVariants.{Good}
use Rattle.roots.specs.Root.{SpellsRoot}
use Rattle.roots.proofs.Roots.{root_of-spelt, spelt_has_magic}
use Rattle.roots.proofs.root_sector.decode_root.Goals as goal

pub returns-then-not-has_magic-clause-spelt : goal.returns-then-not-has_magic-clause-spelt
returns-then-not-has_magic-clause-spelt c root spells =
    let begins : c.has_magic.result ≡ true = c.has_magic.ensures.1 (spelt_has_magic c.args.bytes.now root spells) in
    absurd (cc (begins, c.if-not-has_magic.true))

pub returns-then-spells-clause-spelt : goal.returns-then-spells-clause-spelt
returns-then-spells-clause-spelt c root spells = ap (λ r. Good r) (c.root_fields-root.ensures ∙ root_of-spelt c.args.bytes.now root spells)

-- a sector that isn't the encoding of its own fields encodes no root
none : (c : goal.Else-spells) (root : Root) → SpellsRoot c.args.bytes.now root → ⊥
none c root spells =
    let same : c.root_fields-root.result ≡ root = c.root_fields-root.ensures ∙ root_of-spelt c.args.bytes.now root spells in
    let spelt : c.spells.result ≡ true = c.spells.ensures.1 (subst (SpellsRoot c.args.bytes.now) (sym same) spells) in
    absurd (cc (spelt, c.if-spells.false))

pub returns-else-spells-clause-slot : goal.returns-else-spells-clause-slot
returns-else-spells-clause-slot c = (search rules, none c)

pub returns-else-spells-clause-spelt : goal.returns-else-spells-clause-spelt
returns-else-spells-clause-spelt c root spells = absurd (none c root spells)
