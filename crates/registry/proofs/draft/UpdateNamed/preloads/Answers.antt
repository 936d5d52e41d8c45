use Rattle.std.proofs.lemmas.Bool.Decides.{Decides-eqb}
use Rattle.std.proofs.lemmas.Map.Made.{IsDistinct-from_AllPairs}
use Rattle.registry.proofs.draft.UpdateNamed.preloads.Goals as goal

pub returns-clause-once : goal.returns-clause-once
returns-clause-once g c = IsDistinct-from_AllPairs Decides-eqb c.preloads.result.now c.preloads.ensures.once
