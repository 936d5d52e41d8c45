use Rattle.std.proofs.Common.{take, sym, ap, ◌∙◌, arith}
use Rattle.extents.specs.Extent.{sector_count}
use Rattle.extents.specs.Longest.{longest_first, longest_runs}
use Rattle.extents.proofs.layout.Layout.longest_count.Goals as goal
use Rattle.extents.proofs.UnusedFlags.{unused_runs-flags_of}
use Rattle.extents.proofs.Kept.{count_few}
use Rattle.extents.proofs.LongestLemmas.{longest-few}

pub sector_count-requires : goal.sector_count-requires
sector_count-requires c =
    let runs = c.self.inside.runs.items in
    omega (
      arith,
      ap sector_count (c.longest_of.ensures ∙ ap (λ l. take 32 (longest_first l)) c.as_slice.ensures),
      longest-few runs,
      count_few c.self.inside.sectors runs c.self.invariant.apart,
      c.self.invariant.fits,
    )

pub returns : goal.returns
returns c =
    c.sector_count.ensures
    ∙ ap sector_count (
    c.longest_of.ensures
    ∙ ap (λ l. take 32 (longest_first l)) (c.as_slice.ensures ∙ sym (unused_runs-flags_of c.self.inside.sectors c.self.inside.runs.items c.self.invariant.apart))
    ∙ ap longest_runs c.self.view_is)
