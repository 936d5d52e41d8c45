-- Lemmas about the request of a line, and its effects.
use Rattle.std.proofs.Common.{◌≡◌, ◌≢◌, ℕ, List, Option, Some, None, Result, Ok, Err, true, false, sym, subst, ◌∙◌}
use Rattle.std.specs.Prelude.{IfErr, IfOk, bytes_eq}
use Rattle.std.proofs.lemmas.Slice.Eq.{bytes_eq-Decides}
use Rattle.sector_disk.specs.Disk.{DiskFacts}
use Rattle.store.specs.Draft.{Drafted}
use Rattle.requests.specs.Request.{Request}
use Rattle.scripts.specs.Asked.{request_meaning}
use Rattle.scripts.specs.declared.fault.ScriptFault.{ScriptFault}
use Rattle.updates.specs.Lines.{commit_line}
use Rattle.updates.specs.declared.answer.UpdateRefusal.TheVariants as refusal
use Rattle.updates.specs.declared.lines.Ending.{Ending}
use Rattle.updates.specs.declared.lines.Ending.TheVariants.{Commit, Refused}
use Rattle.registry.proofs.Updating.{refuses}
use Rattle.updates.specs.inside.Line.{AskedEnds, LineEnds, MissesAsked, MissesLine}

module _ {D : Type 0} (facts : D → DiskFacts) (old new : Drafted D) (line : List ℕ) (request : Request) (asks : request_meaning line ≡ Some request) (waits now : Option (List ℕ)) where
  one_line : (ending : Option Ending) → AskedEnds facts old new request waits now ending → LineEnds facts old new line waits now ending
  one_line None h = (h.0, ((request, asks, h.1), h.2), h.3)
  one_line (Some (Refused (refusal.Refused why))) h = ((request, asks, h.0), h.1)
  one_line (Some Commit) h = absurd h
  one_line (Some (Refused refusal.BadLine)) h = absurd h
  one_line (Some (Refused refusal.CutLine)) h = absurd h
  one_line (Some (Refused refusal.NoCommit)) h = absurd h

  -- the effects of a line's command are the effects of the line
  pub asked_line : (result : Result (Option Ending) ScriptFault) → IfOk result (AskedEnds facts old new request waits now) → IfOk result (LineEnds facts old new line waits now)
  asked_line (Ok ending) h = one_line ending h
  asked_line (Err fault) h = tt

  pub missed_line : (result : Result (Option Ending) ScriptFault) → IfErr result (MissesAsked facts old new request) → IfErr result (MissesLine facts old new line waits now)
  missed_line (Ok ending) h = tt
  missed_line (Err fault) h = subst (MissesLine facts old new line waits now) (sym h.0) (h.1, ((request, asks, h.2), h.3))

-- a line asks for the commit exactly if it has the bytes of `commit`
pub commits_line : (line : List ℕ) → bytes_eq line commit_line ≡ true → line ≡ commit_line
commits_line line is = (bytes_eq-Decides line commit_line).0 is

pub other_line : (line : List ℕ) → bytes_eq line commit_line ≡ false → line ≢ commit_line
other_line line isnt is = refuses (sym ((bytes_eq-Decides line commit_line).1 is) ∙ isnt)
