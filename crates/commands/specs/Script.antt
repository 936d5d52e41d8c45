-- The effect of a script, and the text that it writes (own).
use Rattle.std.specs.Prelude.{◌≡◌, ◌≢◌, ◌-◌, ℕ, List, [], ◌∷◌, ◌++◌, length, take, count_by, All, Option, IfSome}
use Rattle.std.specs.List.{flat_map, AllZip}
use Rattle.std.specs.Io.{StopsAt}
use Rattle.std.specs.Io.Iter.{u64_saturate}
use Rattle.std.specs.Io.KnownBytes.{Appends}
use Rattle.requests.specs.Runs.{Run}
use Rattle.binders.specs.Events.{Happening}
use Rattle.binders.specs.declared.event.EventReply.{EventReply}
use Rattle.commands.specs.Answer.{LineStep, MayWait, output, is_refused}
use Rattle.commands.specs.declared.answer.Answer.{Answer}
use Rattle.commands.specs.declared.answer.Answer.TheVariants.{CutLine}
use Rattle.scripts.specs.declared.fault.ScriptFault.{ScriptFault}
use Rattle.scripts.specs.declared.fault.ScriptFault.TheVariants.{Write}
use Rattle.scripts.specs.Line.{IsLine, ended}
use Rattle.commands.specs.declared.summary.Summary.{Summary}

-- the answer to the bytes after the last newline, or no answer if there are no such bytes
abbrev pub cut_answer : List ℕ → List Answer
cut_answer [] = []
cut_answer (byte ∷ bytes) = CutLine ∷ []

-- the summary has the number of answers, and the number of refused answers; neither number is
-- greater than the greatest u64
pub record Counts (summary : Summary) (answers : List Answer) : Type 0 where
  pub lines : summary.lines ≡ u64_saturate (length answers)
  pub refused : summary.refused ≡ u64_saturate (count_by is_refused answers)

-- the bytes that are left to read, and the bytes that the writer has before and after the work; a
-- field is none if the contract of the reader or the writer doesn't define it
pub record Streams : Type 0 where
  pub unread : Option (List ℕ)
  pub before : Option (List ℕ)
  pub after : Option (List ℕ)

-- The writer has exactly the answers to the first lines. Each of the other answers, except the
-- last, may be sent later.
pub record IsHeldBack (before held : Option (List ℕ)) (whole : List (List ℕ)) (answers : List Answer) : Type 0 where
  pub told : List (List ℕ)
  pub untold : List (List ℕ)
  pub sent : List Answer
  pub missing : List Answer
  pub lines : whole ≡ told ++ untold
  pub answered : answers ≡ sent ++ missing
  pub same : length told ≡ length sent
  pub written : Appends before held (output sent)
  pub little : AllZip MayWait (take (length missing - 1) untold) (take (length missing - 1) missing)

module _ {S : Type 0} (step : S → Happening → EventReply → S → Type 0) where
  -- The script was read to its end, and each line was answered by a step from the state after the
  -- previous line.
  pub record Ends (io : Streams) (s s' : S) (summary : Summary) (whole : List (List ℕ)) (cut : List ℕ) (answers : List Answer) : Type 0 where
    -- the text is whole lines, each with its newline, and then the bytes after the last newline
    pub read : IfSome io.unread (λ text. text ≡ flat_map ended whole ++ cut)
    pub lines : All IsLine whole
    pub rest : IsLine cut
    pub run : Run (LineStep step) s whole answers s'
    pub written : Appends io.before io.after (output (answers ++ cut_answer cut))
    pub counts : Counts summary (answers ++ cut_answer cut)

  -- The lines `whole` were read and answered. At most one more line was read, and that line wasn't
  -- applied.
  pub record Breaks (io : Streams) (s s' : S) (fault : ScriptFault) (whole : List (List ℕ)) (part : List ℕ) (answers : List Answer) : Type 0 where
    pub read : IfSome io.unread (λ text. (others : List ℕ) × (text ≡ flat_map ended whole ++ part ++ others))
    pub lines : All IsLine whole
    pub one_at_most : StopsAt part 10
    pub run : Run (LineStep step) s whole answers s'
    -- the answers were written, unless the writer failed
    pub written : fault ≢ Write → Appends io.before io.after (output answers)

  -- a script was read to its end: `Ends` holds for some lines and answers
  abbrev pub Finishes : Streams → S → S → Summary → Type 0
  Finishes io s s' summary = (whole : List (List ℕ)) × (cut : List ℕ) × (answers : List Answer) × Ends io s s' summary whole cut answers

  -- a script ended early: `Breaks` holds for some lines and answers
  abbrev pub Stops : Streams → S → S → ScriptFault → Type 0
  Stops io s s' fault = (whole : List (List ℕ)) × (part : List ℕ) × (answers : List Answer) × Breaks io s s' fault whole part answers

  -- The writer failed. Before the failed write it had the text `held`, for which `IsHeldBack`
  -- holds. Its contents after the failed write are unspecified.
  abbrev pub StopsWriting : Streams → S → S → Option (List ℕ) → Type 0
  StopsWriting io s s' held = (whole : List (List ℕ)) × (part : List ℕ) × (answers : List Answer)
      × Breaks io s s' Write whole part answers × IsHeldBack io.before held whole answers
