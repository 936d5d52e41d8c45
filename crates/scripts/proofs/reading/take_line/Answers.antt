use Rattle.std.proofs.Common.{rules}
use Rattle.scripts.proofs.Pages.{line_taken}
use Rattle.scripts.proofs.reading.take_line.Goals as goal

pub returns-clause-ok : goal.returns-clause-ok
returns-clause-ok g c = line_taken (λ r. g.R.Read.remaining r.now) c.args.pages.now _ c.args.end _ c.requires c.consume.ensures.bytes (search rules)
