use Rattle.std.proofs.Common.{◌≡◌, ◌∙◌, sym, ap, take, rules}
use Rattle.std.specs.Prelude.{sum_by}
use Rattle.std.specs.Int.{div_ceil}
use Rattle.std.proofs.lemmas.Bool.{eqb-true, eq-eqb}
use Rattle.roots.proofs.entry.Entry.extents_fit.Goals as goal

pub returns-then-all-2 : goal.returns-then-all-2
returns-then-all-2 c =
    let whole : c.from.result ≡ div_ceil c.args.self.now.file_length 512 = cc in
    let used = c.split_at.ensures.front ∙ ap (λ n. take n c.args.self.now.extents) c.from-count.ensures in
    let counted = c.sector_count.ensures ∙ ap (sum_by (λ extent. extent.count)) used in
    (λ yes. record { some = search rules; listed = search rules; sum = sym counted ∙ eqb-true _ _ yes ∙ whole }, λ fits. eq-eqb _ _ (counted ∙ fits.sum ∙ sym whole))
