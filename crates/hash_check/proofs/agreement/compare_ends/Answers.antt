use Rattle.std.proofs.Common.{◌≡◌, ◌∙◌, ap, sym, refl, reverse}
use Rattle.std.specs.Cmp.Lexicographic.{slice_cmp}
use Rattle.std.specs.Ordering.{nat_cmp}
use Rattle.std.proofs.lemmas.Cmp.{nat_list_cmp_total, tied_itself}
use Rattle.std.proofs.lemmas.Slice.Eq.{bytes_eq-Decides}
use Rattle.std.proofs.lemmas.Iterator.Search.{cmp_from_yields_List}
use Rattle.std.proofs.lemmas.Iterator.Adapters.{YieldsList-from_rev_slice}
use Rattle.hash_check.proofs.agreement.compare_ends.Goals as goal

pub returns-then-eq : goal.returns-then-eq
returns-then-eq c =
    let same : c.args.a.now ≡ c.args.b.now = (bytes_eq-Decides c.args.a.now c.args.b.now).0 (sym c.eq.ensures ∙ c.if-eq.true) in
    sym (ap (λ l. slice_cmp nat_cmp (reverse l) (reverse c.args.b.now)) same ∙ tied_itself nat_list_cmp_total (reverse c.args.b.now))

pub returns-else-eq : goal.returns-else-eq
returns-else-eq c = cmp_from_yields_List (λ x y. y ≡ x) _ nat_cmp _ c.cmp.ensures.ran (YieldsList-from_rev_slice c.args.a.now cc) (λ it e. YieldsList-from_rev_slice c.args.b.now cc) (λ x y. refl)
