use Rattle.std.proofs.Common.{All, List, replicate, get_or, length, drop, ap, sym, ◌∙◌, subst, arith}
use Rattle.std.proofs.lemmas.List.{get_or-replicate, length-replicate}
use Rattle.std.proofs.lemmas.List.Elements.{All-replicate}
use Rattle.sector_disk.specs.Disk.{Sector, StartsWith, sector_bytes, IsWhole}
use Rattle.sector_disk.specs.Written.{contents, written_to}
use Rattle.sector_disk.specs.Moments.{facts_of}
use Rattle.sector_disk.proofs.Kept.{fresh}
use Rattle.sector_disk.proofs.Whole.{zeros_whole}
use Rattle.sector_disk.proofs.memory.Memory.new.Goals as goal

pub invariant_of-result-clause-whole_start : goal.invariant_of-result-clause-whole_start
invariant_of-result-clause-whole_start c = subst (All IsWhole) (sym c.in_ok-filled.ensures) (All-replicate IsWhole c.args.sectors _ zeros_whole)

pub invariant_of-result-clause-counted : goal.invariant_of-result-clause-counted
invariant_of-result-clause-counted c k lt =
    let zeros : Sector = replicate sector_bytes 0 in
    ap (λ l. get_or l k 0) c.in_ok-filled-3.ensures
    ∙ get_or-replicate c.args.sectors k 0 0 (omega (arith, lt, ap length c.in_ok-filled.ensures, length-replicate c.args.sectors zeros))
    ∙ sym (ap (λ ws. length (written_to k (drop 0 ws))) c.new.ensures.items)

pub returns-clause-ok : goal.returns-clause-ok
returns-clause-ok c =
    let start : List Sector = c.in_ok-filled.field-0.items in
    subst (StartsWith (facts_of start c.new.result.items 0 c.new-2.result.items)) (ap (contents start) c.new.ensures.items ∙ c.in_ok-filled.ensures)
    (fresh start c.new.result.items c.new-2.result.items c.new.ensures.items c.new-2.ensures)
