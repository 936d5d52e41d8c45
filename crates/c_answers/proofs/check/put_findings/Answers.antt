use Rattle.std.proofs.Common.{refl, ◌≡◌, ◌<◌, ◌∷◌, ◌++◌, [], length, get_or, take, sym, ◌∙◌, ap, subst, arith, append_assoc}
use Rattle.store.specs.Stands.{no_library}
use Rattle.c_answers.specs.Check.{IsFound, IsFoundAt}
use Rattle.c_answers.specs.declared.finding.FindingPlace.{FindingPlace}
use Rattle.c_answers.proofs.Findings.{names_fit, names_more, tell_one, tell_all}
use Rattle.c_answers.proofs.Rows.{none_holds, none_given}
use Rattle.c_answers.proofs.check.put_findings.Goals as goal

pub returns-in_err-behind-clause-unread : goal.returns-in_err-behind-clause-unread
returns-in_err-behind-clause-unread g c s at room =
    let i = c.loop-position.position in
    let lt : i < length s.libraries = omega (arith, c.loop-position-test.true, c.count-position-end.ensures.state s at) in
    none_holds c.from_residual-in_err-behind.result (absurd (omega (
      arith,
      room,
      c.loop-position.auto.names,
      c.in_err-behind.ensures.small,
      c.loop-position.invariant.at s at,
      ap length (c.name-name.ensures.state s at),
      names_fit s.libraries i lt,
    )))

pub returns-in_err-at-clause-unread : goal.returns-in_err-at-clause-unread
returns-in_err-at-clause-unread g c s at room =
    let i = c.loop-position.position in
    let lt : i < length s.libraries = omega (arith, c.loop-position-test.true, c.count-position-end.ensures.state s at) in
    none_holds c.from_residual-in_err-at.result (absurd (omega (
      arith,
      room,
      c.loop-position.auto.names,
      c.in_err-at.ensures.small,
      c.in_ok-behind.ensures.end,
      c.in_ok-behind.ensures.size,
      c.loop-position.invariant.at s at,
      ap length (c.name-name.ensures.state s at),
      names_fit s.libraries i lt,
    )))

pub loop-position-preserved : goal.loop-position-preserved
loop-position-preserved g c = record {
  told = λ s at found.
      let now = c.loop-position in
      let i = now.position in
      let l = get_or s.libraries i no_library in
      let lt : i < length s.libraries = omega (arith, c.loop-position-test.true, c.count-position-end.ensures.state s at) in
      let room : i < length now.findings = omega (arith, c.loop-position-test.true, c.count-position-end.ensures.value, c.requires.room, now.auto.findings) in
      let named = c.name-name.ensures.state s at in
      let place = c.place_of.ensures in
      let here : IsFoundAt now.at l c.place_of.result = record {
        name = ap (λ (p : FindingPlace). p.name) place;
        name_length = ap (λ (p : FindingPlace). p.name_length) place ∙ ap length named;
        finding = subst (IsFound l) (sym (ap (λ (p : FindingPlace). p.finding) place)) (_, found i lt _, c.in_ok-finding.ensures.some);
      } in
      let put : take c.in_ok-at.at c.put-in-loop-position.new.out ≡ take now.at now.names ++ (l.name ++ 0 ∷ []) =
      c.in_ok-at.ensures.front ∙ ap (λ b. b ++ 0 ∷ []) (c.in_ok-behind.ensures.front ∙ ap (λ n. take now.at now.names ++ n) named) ∙ append_assoc (take now.at now.names) l.name (0 ∷ []) in
      tell_one s.libraries i now.findings now.names c.put-in-loop-position.new.out now.at c.in_ok-at.at c.place_of.result lt room (now.invariant.told s at found) here
      (omega (arith, c.in_ok-at.ensures.end, c.in_ok-behind.ensures.end, ap length named)) put;
  at = λ s at.
      let i = c.loop-position.position in
      let lt : i < length s.libraries = omega (arith, c.loop-position-test.true, c.count-position-end.ensures.state s at) in
      omega (arith, c.loop-position.invariant.at s at, c.in_ok-at.ensures.end, c.in_ok-behind.ensures.end, ap length (c.name-name.ensures.state s at), names_more s.libraries i lt);
}

pub returns-clause-found : goal.returns-clause-found
returns-clause-found g c s at found =
    let now = c.loop-position in
    tell_all s.libraries now.position now.findings now.names now.at (omega (arith, c.loop-position-test.false, c.count-position-end.ensures.state s at)) (now.invariant.told s at found)

pub loop-position-init : goal.loop-position-init
loop-position-init g c = record {
  told = λ s at found. record { each = λ k lt d. absurd (omega (arith, lt)); at = refl; names = refl };
  at = λ s at. refl;
}

pub returns-in_err-finding-clause-found : goal.returns-in_err-finding-clause-found
returns-in_err-finding-clause-found g c s at found = none_given c.from_residual.result c.from_residual.ensures _

pub returns-in_err-behind-clause-found : goal.returns-in_err-behind-clause-found
returns-in_err-behind-clause-found g c s at found = none_given c.from_residual-in_err-behind.result c.from_residual-in_err-behind.ensures _

pub returns-in_err-at-clause-found : goal.returns-in_err-at-clause-found
returns-in_err-at-clause-found g c s at found = none_given c.from_residual-in_err-at.result c.from_residual-in_err-at.ensures _
