-- The end of a call that plans a change of a registry (own).
use Rattle.std.specs.Prelude.{◌≡◌, ◌≢◌, ℕ, List}
use Rattle.requests.specs.Request.{Request}
use Rattle.c_answers.specs.Answers.{IsChangeAnswered, IsLeft, IsPlanOf}
use Rattle.c_answers.specs.declared.answer.Answer.{Answer}

-- A call has planned the change `request` of the registry that the bytes of `disk` hold, or reports why
-- the change can't be planned. `before` and `after` are the contents of the plan's buffer before and
-- after the call.
pub record IsPlanned (disk : List ℕ) (request : Request) (before after text : List ℕ) (answer : Answer) (told : ℕ) : Type 0 where
  -- the plan leads from the state that the bytes hold to the state after the accepted change
  pub plan : told ≡ 0 → IsPlanOf disk request after answer
  pub answered : IsChangeAnswered disk request after text answer told
  -- the buffer is unchanged, unless the status is 0 or reports that room or memory is lacking
  pub left : IsLeft before after told
  pub status : answer.status ≡ told
  -- the result is never S1 (Device), because a disk of bytes fails only if memory is refused
  pub device : told ≢ 301
