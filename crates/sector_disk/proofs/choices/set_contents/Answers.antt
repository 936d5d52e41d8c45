use Rattle.std.proofs.Common.{◌≡◌, ◌+◌, ◌-◌, ◌<◌, ◌≤◌, [], ◌∷◌, List, ℕ, length, get_or, set, drop, sym, ◌∙◌, ap, subst, arith}
use Rattle.std.proofs.lemmas.List.{drop_more, length-set}
use Rattle.sector_disk.specs.declared.written.Written.{Written}
use Rattle.sector_disk.specs.Written.{written_to}
use Rattle.sector_disk.proofs.Settling.{settled, settled_made, settled_passed, less_made}
use Rattle.sector_disk.proofs.choices.set_contents.Goals as goal
use Rattle.sector_disk.proofs.choices.set_contents.Goals.{then-numbers-at-eq1, else-numbers-at-eq1}

pub loop-write-preserved : goal.loop-write-preserved
loop-write-preserved c =
    let none : Written = record { at = 0; content = [] } in
    let i = c.loop-write.write-index in
    let writes = c.args.writes.now in
    let sectors = c.loop-write.sectors in
    let numbers = c.loop-write.numbers in
    let write : Written = get_or writes i none in
    let rest = drop (i + 1) writes in
    let split : drop i writes ≡ write ∷ rest = drop_more writes i none c.loop-write-test.true in
    let in_range : write.at < length sectors = omega (arith, c.requires.in_range i none c.loop-write-test.true) in
    let numbered : length numbers ≡ length sectors = omega arith in
    let counted : set numbers write.at c.saturating_sub.result ≡ set numbers write.at (get_or numbers write.at 0 - 1) = ap (λ n. set numbers write.at n) c.saturating_sub.ensures in (
      λ k lt.
          let so_far : settled sectors numbers (write ∷ rest) k ≡ settled c.args.sectors.now c.args.numbers.now writes k =
          ap (λ ws. settled sectors numbers ws k) (sym split) ∙ c.loop-write.invariant.0 k (omega arith) in
          ap (λ l. settled c.if-numbers-at-eq1.sectors l rest k) counted
          ∙ elim c.if-numbers-at-eq1.branch [
            | then-numbers-at-eq1 w ↦ ap (λ l. settled l (set numbers write.at (get_or numbers write.at 0 - 1)) rest k) w.sectors-is
                ∙ settled_made sectors numbers write rest in_range numbered w.if-numbers-at-eq1.true k ∙ so_far
            | else-numbers-at-eq1 w ↦ ap (λ l. settled l (set numbers write.at (get_or numbers write.at 0 - 1)) rest k) w.sectors-is
                ∙ settled_passed sectors numbers write rest in_range numbered w.if-numbers-at-eq1.false k ∙ so_far
          ],
      λ k lt.
          let made : get_or numbers k 0 ≤ length (written_to k (write ∷ rest)) =
          subst (λ ws. get_or numbers k 0 ≤ length (written_to k ws)) split
          (c.loop-write.invariant.1 k (omega (arith, lt, length-set numbers write.at c.saturating_sub.result))) in
          subst (λ (l : List ℕ). get_or l k 0 ≤ length (written_to k rest)) (sym counted) (less_made sectors numbers write rest in_range numbered k made),
    )
