use Rattle.registry.proofs.list.listing.Goals as goal

pub returns : goal.returns
returns g c s at = λ i. record { libraries = c.in_ok-libraries.ensures s at i; preloads = c.in_ok-preloads.ensures s at i }
