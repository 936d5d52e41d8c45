use Rattle.executable.proofs.Joining.{short-joined}
use Rattle.executable.proofs.merging.merge.Goals as goal

pub returns-then-goes_on-clause-short : goal.returns-then-goes_on-clause-short
returns-then-goes_on-clause-short c =
    rw (c.finish.ensures, c.in_ok-join.ensures) (short-joined c.args.piece c.args.next c.requires.short c.requires.next_short c.requires.behind)
