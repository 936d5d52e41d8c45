use Rattle.std.proofs.Common.{◌≤◌, ◌+◌, ◌-◌, ◌∙◌, ℕ, List, take, drop, arith, ap, sym, subst, get_or}
use Rattle.std.specs.List.{fold}
use Rattle.hash_check.specs.Hash.{hash_step}
use Rattle.hash_check.specs.inside.Lanes.{IsLane}
use Rattle.hash_check.proofs.Hashing.{lane-on}
use Rattle.hash_check.proofs.lanes.Lanes.run.Goals as goal

pub returns-clause-lanes : goal.returns-clause-lanes
returns-clause-lanes c = record {
  each = λ k lt.
      let file : List ℕ = c.args.object.now in
      let symbol : ℕ = get_or c.args.self.now.symbols k 0 in
      let hash : ℕ = get_or c.args.self.now.hashes k 0 in
      let place : ℕ = get_or c.args.self.now.places k 0 in
      let end : ℕ = get_or c.args.self.now.ends k 0 in
      let count : ℕ = get_or c.args.self.now.ends c.shortest-k.result 0 - get_or c.args.self.now.places c.shortest-k.result 0 in
      let old : IsLane file symbol hash place end = c.requires.each k lt in
      let least : count ≤ end - place = c.shortest-k.ensures.least k lt in
      let order : place ≤ end = old.order in
      let room : place + count ≤ end = omega arith in
      let is = c.add_bytes.ensures k lt ∙ ap (λ t. fold hash_step hash (take count (drop place t))) c.string_table.ensures.table in
      subst (λ p. IsLane file symbol (get_or c.add_bytes.new.hashes k 0) p end) (sym (c.move_on.ensures k lt))
      (subst (λ h. IsLane file symbol h (place + count) end) (sym is) (lane-on file symbol hash place end count old room));
}
