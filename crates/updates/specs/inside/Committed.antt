-- The answer to a commit.
use Rattle.std.specs.Prelude.{Result, Ok, Err}
use Rattle.requests.specs.declared.refusal.Refusal.{Refusal}
use Rattle.updates.specs.declared.commit.Committed.{Committed}

-- the answer to a commit, without the value that shows that the commit has succeeded
abbrev pub commit_result : Result Committed Refusal → Result (Unit {0}) Refusal
commit_result (Ok committed) = Ok tt
commit_result (Err refusal) = Err refusal
