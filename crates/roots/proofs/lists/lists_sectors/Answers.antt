use Rattle.std.proofs.Common.{◌≡◌, true, ◌∙◌, sym, rules}
use Rattle.roots.proofs.Distinct.{distinct_front}
use Rattle.roots.proofs.lists.lists_sectors.Goals as goal
use Rattle.roots.proofs.lists.lists_sectors.Goals.{then-all, else-all}

pub returns-then-are_distinct : goal.returns-then-are_distinct
returns-then-are_distinct c =
    elim c.if-all.branch [
      | then-all w ↦
          let apart : w.are_distinct.result ≡ true = sym w.value-is ∙ c.if-are_distinct.true in
          (λ yes. record { listed = search rules; distinct = distinct_front _ _ _ _ c.split_at.ensures.front c.from-count.ensures (w.are_distinct.ensures.0 apart) }, λ h. search rules)
      | else-all w ↦ search rules
    ]
