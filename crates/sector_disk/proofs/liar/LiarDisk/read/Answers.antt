use Rattle.std.proofs.Common.{◌≡◌, ◌+◌, ◌<◌, ◌≤◌, ◌%◌, ◌∷◌, ◌++◌, [], length, ap, sym, subst, ◌∙◌, arith}
use Rattle.std.proofs.lemmas.Bool.{ltb-false}
use Rattle.std.proofs.lemmas.Nat.{mod_below}
use Rattle.sector_disk.proofs.Turns.{next_in_turn}
use Rattle.sector_disk.proofs.liar.LiarDisk.read.Goals as goal
use Rattle.sector_disk.proofs.liar.LiarDisk.read.Goals.{in-Some, in-None}

pub invariant_of-self : goal.invariant_of-self
invariant_of-self c = record {
  in_turn = λ some. elim c.match-get.branch [
    | in-Some w ↦
        let self = c.args.self.now in
        let count : length c.match-get.self.1.1.0.items ≡ length self.answers.items = ap (λ s. length s.1.1.0.items) w.self-is in
        let reads = c.and-self.ensures ∙ ap (λ s. s.1.1.1.1.1.0.items ++ c.args.at ∷ []) w.self-is in
        let turn = next_in_turn self.next (length self.answers.items) self.reads.items c.and-self.result.items c.args.at (self.in_turn (subst (λ n. 0 < n) count some)) reads in
        let len : w.len.result ≡ length self.answers.items = omega (arith, w.len.ensures, self.answers.ok.0) in
        ap (λ s. s.1.1.1.0) w.self-is ∙ ap (λ n. (self.next + 1) % n) len ∙ turn ∙ sym (ap (λ n. length c.and-self.result.items % n) count)
    | in-None w ↦
        let self = c.args.self.now in
        let count : length c.match-get.self.1.1.0.items ≡ length self.answers.items = ap (λ s. length s.1.1.0.items) w.self-is in
        let few = subst (λ n. 0 < n) count some in
        let below : self.next < length self.answers.items = subst (λ n. n < length self.answers.items) (sym (self.in_turn few)) (mod_below (length self.reads.items) _ few) in
        let beyond : length self.answers.items ≤ self.next = subst (λ l. length l ≤ self.next) c.deref.ensures.value (ltb-false _ _ (sym w.in-None.ensures.lookup.0)) in
        absurd (omega (arith, below, beyond))
  ];
}
