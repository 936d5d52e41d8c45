use Rattle.tool_commands.proofs.arguments.run_arguments.Goals as goal

pub returns-in-Ok-clause-ends : goal.returns-in-Ok-clause-ends
returns-in-Ok-clause-ends g c = rw (c.in-Ok.is, ← c.deref.ensures.value) c.run_words.ensures.ends

pub returns-in-Ok-clause-not_read : goal.returns-in-Ok-clause-not_read
returns-in-Ok-clause-not_read g c = rw c.in-Ok.is tt

pub returns-in-Ok-clause-unread : goal.returns-in-Ok-clause-unread
returns-in-Ok-clause-unread g c = rw (c.in-Ok.is, ← c.deref.ensures.value) c.run_words.ensures.unread

pub returns-in-Ok-clause-same : goal.returns-in-Ok-clause-same
returns-in-Ok-clause-same g c = rw (c.in-Ok.is, ← c.deref.ensures.value) c.run_words.ensures.same

pub returns-in-Ok-clause-silent : goal.returns-in-Ok-clause-silent
returns-in-Ok-clause-silent g c = rw (c.in-Ok.is, ← c.deref.ensures.value) c.run_words.ensures.silent

pub returns-in-Ok-clause-apart : goal.returns-in-Ok-clause-apart
returns-in-Ok-clause-apart g c = rw (c.in-Ok.is, ← c.deref.ensures.value) c.run_words.ensures.apart

pub returns-in-Err-clause-ends : goal.returns-in-Err-clause-ends
returns-in-Err-clause-ends g c = rw c.in-Err.is tt

pub returns-in-Err-2-clause-ends : goal.returns-in-Err-2-clause-ends
returns-in-Err-2-clause-ends g c = rw c.in-Err-2.is tt
