use Rattle.std.proofs.Common.{◌<◌, All, subst}
use Rattle.store.proofs.DraftReads.{count_drafted}
use Rattle.registry.proofs.draft.UpdateListed.preloads.Goals as goal

pub returns-clause-within : goal.returns-clause-within
returns-clause-within g c d at = subst (λ n. All (λ p. p < n) c.preloads.result.now) (count_drafted g.D.Disk.facts at.1) c.preloads.ensures.inside

pub returns-clause-state : goal.returns-clause-state
returns-clause-state g c d at = c.preloads.ensures.state at.0 d at.1
