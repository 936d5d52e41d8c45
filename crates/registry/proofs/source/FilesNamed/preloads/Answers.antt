use Rattle.std.proofs.lemmas.Bool.Decides.{Decides-eqb}
use Rattle.std.proofs.lemmas.Map.Made.{IsDistinct-from_AllPairs}
use Rattle.registry.proofs.source.FilesNamed.preloads.Goals as goal

pub returns-in-Current-clause-once : goal.returns-in-Current-clause-once
returns-in-Current-clause-once g c = IsDistinct-from_AllPairs Decides-eqb c.preloads.result.now c.preloads.ensures.once
