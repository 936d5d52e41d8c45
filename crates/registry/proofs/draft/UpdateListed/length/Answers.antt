use Rattle.registry.proofs.draft.UpdateListed.length.Goals as goal

pub returns-clause-state : goal.returns-clause-state
returns-clause-state g c d at = c.length.ensures.state at.0 d at.1
