-- The fields of an answer that are 0 because its call doesn't use them (own).
use Rattle.std.specs.Prelude.{◌≡◌}
use Rattle.c_answers.specs.declared.answer.Answer.{Answer}

-- The answer reports neither a text nor a test that refuses a file.
pub record IsSilent (answer : Answer) : Type 0 where
  pub text : answer.text ≡ 0
  pub file : answer.file_refusal ≡ 0

-- The fields that only a listing uses are 0.
pub record IsUnlisted (answer : Answer) : Type 0 where
  pub preloads : answer.preloads ≡ 0
  pub generation : answer.generation ≡ 0

-- The field that only an image uses is 0.
pub record IsUnbound (answer : Answer) : Type 0 where
  pub objects : answer.objects ≡ 0

-- All counts of the answer are 0.
pub record IsUncounted (answer : Answer) : Type 0 where
  pub count : answer.count ≡ 0
  pub bytes : answer.bytes ≡ 0
  pub unlisted : IsUnlisted answer
  pub unbound : IsUnbound answer
