use Rattle.std.proofs.Common.{map, ap, ◌∙◌}
use Rattle.requests.specs.Request.{set_preloads}
use Rattle.commands.proofs.Asking.{replied_as}
use Rattle.commands.proofs.on_disk.preload.Goals as goal

pub returns-in-Ok-clause-ends : goal.returns-in-Ok-clause-ends
returns-in-Ok-clause-ends g c =
    replied_as _ _ _ _ _ (ap (λ l. set_preloads (map (λ n. n.now) l)) c.deref.ensures.value ∙ ap set_preloads c.in-Ok.ensures) c.ask.ensures.ends
