use Rattle.program_parts.proofs.refusal.put_file_refusal.Goals as goal

pub returns-in-BadHashTable-clause-ok : goal.returns-in-BadHashTable-clause-ok
returns-in-BadHashTable-clause-ok g c = rw c.in-BadHashTable.is c.put-in-BadHashTable.ensures.ok

pub returns-in-DuplicateDefinition-clause-ok : goal.returns-in-DuplicateDefinition-clause-ok
returns-in-DuplicateDefinition-clause-ok g c = rw c.in-DuplicateDefinition.is c.put.ensures.ok
