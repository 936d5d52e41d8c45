use Rattle.c_answers.proofs.finding.finding_number.Goals as goal

pub returns-in-Refused-clause-none : goal.returns-in-Refused-clause-none
returns-in-Refused-clause-none c = tt
