use Rattle.std.proofs.Common.{inr, refl, subst}
use Rattle.std.proofs.lemmas.Result.{err_from_is_err_and}
use Rattle.extents.specs.Extent.{places}
use Rattle.store.specs.Stands.{used}
use Rattle.store.specs.inside.Claimed.{IsClaimedBeside, IsUnclaimable}
use Rattle.store.proofs.Claims.{not_apart, claims_used, used_apart}
use Rattle.store.proofs.Ordered.{unclaimable-ordered, claimed-ordered}
use Rattle.store.proofs.used.claim_all.Goals as goal

pub returns-in_err-claim_extents-clause-refused : goal.returns-in_err-claim_extents-clause-refused
returns-in_err-claim_extents-clause-refused c =
    let layout = c.in_ok-layout.layout in
    let root = c.args.root.now in
    let entries = c.args.entries.now in
    let extents = c.in_ok-extents.extents.items in
    let refused = subst (λ l. IsUnclaimable layout (places l)) c.deref.ensures.value c.in_err-claim_extents.ensures.err in
    let none = unclaimable-ordered layout extents (used root entries) c.in_ok-extents.ensures.sectors refused in
    let p = err_from_is_err_and c.from_residual-in_err-claim_extents.result c.from_residual-in_err-claim_extents.ensures.1 in
    rw (p.1, p.2) (inr (refl, not_apart layout root.sectors root entries c.in_ok-layout.ensures.ok none))

pub returns-clause-claims : goal.returns-clause-claims
returns-clause-claims c =
    let layout = c.in_ok-layout.layout in
    let new = c.claim_extents.new.layout in
    let root = c.args.root.now in
    let entries = c.args.entries.now in
    let claimed = subst (λ l. IsClaimedBeside layout new (places l)) c.deref.ensures.value c.in_ok-claim_extents.ensures.ok in
    let all = claimed-ordered layout c.in_ok-extents.extents.items (used root entries) c.in_ok-extents.ensures.sectors new claimed in
    claims_used layout root.sectors root entries c.in_ok-layout.ensures.ok new all

pub returns-clause-apart : goal.returns-clause-apart
returns-clause-apart c =
    let layout = c.in_ok-layout.layout in
    let new = c.claim_extents.new.layout in
    let root = c.args.root.now in
    let entries = c.args.entries.now in
    let claimed = subst (λ l. IsClaimedBeside layout new (places l)) c.deref.ensures.value c.in_ok-claim_extents.ensures.ok in
    let all = claimed-ordered layout c.in_ok-extents.extents.items (used root entries) c.in_ok-extents.ensures.sectors new claimed in
    used_apart layout root.sectors root entries c.in_ok-layout.ensures.ok new all
