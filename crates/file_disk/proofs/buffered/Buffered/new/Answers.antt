use Rattle.std.proofs.Common.{◌∙◌, sym, arith}
use Rattle.std.proofs.lemmas.Option.{none-some}
use Rattle.file_disk.proofs.buffered.Buffered.new.Goals as goal

pub invariant_of-result : goal.invariant_of-result
invariant_of-result g c = record {
  apart = λ k waits. c.in_ok-new-2.ensures k;
  few = omega arith;
  inside = omega (arith, c.in_ok-new.ensures.end);
  size = c.requires.sectors;
  trusted = λ honest well. c.requires.trusted honest;
  kept = λ honest well k content is. absurd (none-some content (sym (c.in_ok-new-2.ensures k) ∙ is));
}
