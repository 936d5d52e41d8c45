use Rattle.std.proofs.Common.{subst}
use Rattle.store.specs.inside.Committed.{Commits}
use Rattle.store.specs.inside.Stored.{opened}
use Rattle.store.proofs.update.Update.commit.Given as given
use Rattle.store.proofs.update.Update.commit.Goals.{After-commit_draft-made}
use Rattle.store.proofs.update.Update.commit.Goals as goal

-- what the commit did, in terms of what contracts see of the draft
did : (g : given.Over) (c : After-commit_draft-made g) → Commits g.D.Disk.facts c.args.self (opened c.commit_draft-made.new.disk c.commit_draft-made.new.self) c.commit_draft-made.result
did g c = subst (λ u. Commits g.D.Disk.facts u (opened c.commit_draft-made.new.disk c.commit_draft-made.new.self) c.commit_draft-made.result) c.self.view_is
    c.commit_draft-made.ensures.commits

pub returns-clause-any_moment : goal.returns-clause-any_moment
returns-clause-any_moment g c = (did g (goal.at.returns-clause-any_moment g c).After-commit_draft-made).any_moment

pub returns-clause-placed : goal.returns-clause-placed
returns-clause-placed g c = (did g (goal.at.returns-clause-placed g c).After-commit_draft-made).placed
