use Rattle.std.proofs.Common.{◌≡◌, None, sym, subst}
use Rattle.registry.specs.declared.needs.Needs.{Needs}
use Rattle.registry.specs.inside.Walked.{Grows}
use Rattle.registry.proofs.Grows.{grows_none, if_refused, not_well, noted, taken_off, unnoted}
use Rattle.registry.proofs.needs.Needs.add_needed.Goals as goal

pub returns-then-not-known-clause-grows : goal.returns-then-not-known-clause-grows
returns-then-not-known-clause-grows g c =
    let old : Needs = c.args.self.now in
    let back : ◌≡◌ {A = Needs} (record { places = c.shorten.new.self; missing = None }) old =
    taken_off old c.add_each-added.new.self c.shorten.new.self None c.count-count.result c.add_each-added.ensures.grows c.count-count.ensures.count c.shorten.ensures
    (unnoted c.args.self.now.missing c.if-not-known.ensures) in
    subst (Grows old) (sym back) (grows_none old)

pub returns-then-not-known-clause-same : goal.returns-then-not-known-clause-same
returns-then-not-known-clause-same g c =
    let old : Needs = c.args.self.now in
    let back : ◌≡◌ {A = Needs} (record { places = c.shorten.new.self; missing = None }) old =
    taken_off old c.add_each-added.new.self c.shorten.new.self None c.count-count.result c.add_each-added.ensures.grows c.count-count.ensures.count c.shorten.ensures
    (unnoted c.args.self.now.missing c.if-not-known.ensures) in
    if_refused c.add_each-added.result back

pub returns-then-not-known-clause-ok : goal.returns-then-not-known-clause-ok
returns-then-not-known-clause-ok g c entries has own = not_well _ c.add_each-added.result c.if-is_err.ensures.value

pub returns-else-not-known-clause-grows : goal.returns-else-not-known-clause-grows
returns-else-not-known-clause-grows g c =
    let old : Needs = c.args.self.now in
    let back : ◌≡◌ {A = Needs} (record { places = c.shorten.new.self; missing = c.add_each-added.new.self.missing }) old =
    taken_off old c.add_each-added.new.self c.shorten.new.self c.add_each-added.new.self.missing c.count-count.result c.add_each-added.ensures.grows c.count-count.ensures.count c.shorten.ensures
    (noted c.args.self.now c.add_each-added.new.self c.add_each-added.ensures.grows (sym c.if-not-known.ensures)) in
    subst (Grows old) (sym back) (grows_none old)

pub returns-else-not-known-clause-same : goal.returns-else-not-known-clause-same
returns-else-not-known-clause-same g c =
    let old : Needs = c.args.self.now in
    let back : ◌≡◌ {A = Needs} (record { places = c.shorten.new.self; missing = c.add_each-added.new.self.missing }) old =
    taken_off old c.add_each-added.new.self c.shorten.new.self c.add_each-added.new.self.missing c.count-count.result c.add_each-added.ensures.grows c.count-count.ensures.count c.shorten.ensures
    (noted c.args.self.now c.add_each-added.new.self c.add_each-added.ensures.grows (sym c.if-not-known.ensures)) in
    if_refused c.add_each-added.result back

pub returns-else-not-known-clause-ok : goal.returns-else-not-known-clause-ok
returns-else-not-known-clause-ok g c entries has own = not_well _ c.add_each-added.result c.if-is_err.ensures.value
