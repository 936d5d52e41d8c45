use Rattle.registry.proofs.draft.UpdateListed.name.Goals as goal

pub returns-clause-state : goal.returns-clause-state
returns-clause-state g c d at = c.name.ensures.state at.0 d at.1
