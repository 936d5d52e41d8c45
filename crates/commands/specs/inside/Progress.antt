-- The intermediate states of a script.
use Rattle.std.specs.Prelude.{◌≡◌, ◌++◌, ℕ, List, length, All, Option}
use Rattle.std.specs.List.{flat_map, AllZip}
use Rattle.std.specs.Io.KnownBytes.{Appends, Consumes}
use Rattle.requests.specs.Runs.{Run}
use Rattle.binders.specs.Events.{Happening}
use Rattle.binders.specs.declared.event.EventReply.{EventReply}
use Rattle.scripts.specs.Line.{IsLine, ended}
use Rattle.scripts.specs.declared.fault.ScriptFault.{ScriptFault}
use Rattle.scripts.specs.declared.fault.ScriptFault.TheVariants.{Write}
use Rattle.commands.specs.Answer.{LineStep, MayWait, output}
use Rattle.commands.specs.Script.{Counts}
use Rattle.commands.specs.declared.answer.Answer.{Answer}
use Rattle.commands.specs.declared.summary.Summary.{Summary}

-- the streams at a point of a script: the bytes left to read, and the bytes that the writer has
pub record Place : Type 0 where
  pub unread : Option (List ℕ)
  pub written : Option (List ℕ)

module _ {S : Type 0} (step : S → Happening → EventReply → S → Type 0) where
  -- Whole lines were read and answered one after the other, and their answers were written.
  pub record Answered (p q : Place) (s t : S) (summary : Summary) (whole : List (List ℕ)) (answers : List Answer) : Type 0 where
    pub read : Consumes p.unread q.unread (flat_map ended whole)
    pub lines : All IsLine whole
    pub run : Run (LineStep step) s whole answers t
    pub written : Appends p.written q.written (output answers)
    pub counts : Counts summary answers

  -- a line was answered
  abbrev pub Stepped : S → List ℕ → S → Type 0
  Stepped s line s' = (answer : Answer) × LineStep step s line answer s'

  -- The failures of a whole line. `waits` is the text that the writer has before the line, followed
  -- by the answers that haven't been sent yet; `now` is the same text after the line. If memory is
  -- refused, the line changed nothing. If the writer failed, the line was applied before.
  abbrev pub Misses : S → S → Option (List ℕ) → Option (List ℕ) → List ℕ → ScriptFault → Type 0
  Misses s s' waits now line Write = Stepped s line s'
  Misses s s' waits now line fault = (s' ≡ s) × (now ≡ waits)

-- The writer has exactly the answers to the first lines. Each of the other answers may be sent
-- later.
pub record Told (before held : Option (List ℕ)) (whole : List (List ℕ)) (answers : List Answer) : Type 0 where
  pub told : List (List ℕ)
  pub untold : List (List ℕ)
  pub sent : List Answer
  pub missing : List Answer
  pub lines : whole ≡ told ++ untold
  pub answered : answers ≡ sent ++ missing
  pub same : length told ≡ length sent
  pub written : Appends before held (output sent)
  pub quiet : AllZip MayWait untold missing
