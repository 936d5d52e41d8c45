use Rattle.std.proofs.Common.{inl}
use Rattle.c_answers.proofs.check.check_on.Goals as goal

pub look-answer-requires : goal.look-answer-requires
look-answer-requires c = let ok = c.in-Ok.ensures.ok in (ok.0, ok.2)

pub returns-in-Ok : goal.returns-in-Ok
returns-in-Ok c = let ok = c.in-Ok.ensures.ok in inl (ok.0, ok.1, c.look-answer.ensures ok.0 ok.2)
