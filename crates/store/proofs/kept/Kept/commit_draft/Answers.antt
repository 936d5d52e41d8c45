use Rattle.store.proofs.DraftCommits.{commits_nothing, nothing_stored}
use Rattle.store.proofs.kept.Kept.commit_draft.Goals as goal

pub returns-in-Nothing-clause-stored : goal.returns-in-Nothing-clause-stored
returns-in-Nothing-clause-stored g c = nothing_stored g.D.Disk.facts c.args.disk.now c.requires.drafting c.in-Nothing.is

pub returns-in-Nothing-clause-commits : goal.returns-in-Nothing-clause-commits
returns-in-Nothing-clause-commits g c = commits_nothing g.D.Disk.facts c.args.disk.now c.requires.drafting c.in-Nothing.is c.if-self.false
