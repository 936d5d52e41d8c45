use Rattle.std.proofs.Common.{◌≡◌, ◌+◌, ◌%◌, ◌∙◌, ◌∷◌, ap, subst, arith, length, get_or, take, drop}
use Rattle.std.proofs.lemmas.List.{length-drop}
use Rattle.sector_disk.specs.Disk.{sector}
use Rattle.sector_disk.specs.Written.{contents, written_to, choices}
use Rattle.sector_disk.proofs.Kept.{length-written_to}
use Rattle.sector_disk.proofs.choices.mix.Goals as goal

pub choose-requires-clause-fits : goal.choose-requires-clause-fits
choose-requires-clause-fits g c at lt =
    let writes = c.args.writes.now in
    omega (arith, c.requires.counted at (omega arith), length-written_to at (drop c.args.synced writes), length-drop c.args.synced writes, c.requires.few_writes)

pub set_contents-requires-clause-made : goal.set_contents-requires-clause-made
set_contents-requires-clause-made g c k lt =
    let picked = c.choose.ensures k (omega arith) in
    omega (arith, picked.2, c.requires.counted k (omega arith), ap (λ ws. length (written_to k ws)) c.split_at.ensures.back)

pub returns-clause-picked : goal.returns-clause-picked
returns-clause-picked g c at lt =
    let sectors = c.args.sectors.now in
    let writes = c.args.writes.now in
    let synced = c.args.synced in
    let picked = c.choose.ensures at (omega arith) in
    let count : get_or c.args.counts.now at 0 + 1 ≡ length (choices sectors writes synced at) = omega (arith, c.requires.counted at lt) in (
      picked.0,
      subst (λ n. goal.F-post g c.args.pick at n picked.0) count picked.1,
      c.set_contents.ensures.settled at (omega arith)
          ∙ ap (λ l. sector (sector l at ∷ written_to at c.split_at.result.1.now) (get_or c.choose.new.counts at 0)) (c.apply.ensures ∙ ap (contents sectors) c.split_at.ensures.front)
          ∙ ap (λ ws. sector (sector (contents sectors (take synced writes)) at ∷ written_to at ws) (get_or c.choose.new.counts at 0)) c.split_at.ensures.back
          ∙ ap (sector (choices sectors writes synced at)) (picked.2 ∙ ap (λ n. picked.0 % n) count),
    )
