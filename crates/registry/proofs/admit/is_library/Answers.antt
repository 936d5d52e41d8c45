use Rattle.std.proofs.Common.{rules, ◌≡◌, ap, ◌∙◌, Some}
use Rattle.requests.proofs.Sonames.{badly_named, is_fine}
use Rattle.registry.proofs.admit.is_library.Goals as goal

pub returns-in-Ok-clause-yes : goal.returns-in-Ok-clause-yes
returns-in-Ok-clause-yes c same =
    let equal : c.in-Ok.soname.now ≡ c.args.name.now = search rules in
    record { accepted = is_fine c.args.object.now c.requires c.in-Ok.ensures.ok; named = c.in-Ok.ensures.name ∙ ap Some equal }

pub returns-in-Err-clause-no : goal.returns-in-Err-clause-no
returns-in-Err-clause-no c e is = badly_named c.args.object.now is.accepted c.in-Err.ensures.refused
