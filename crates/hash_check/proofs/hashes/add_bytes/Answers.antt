use Rattle.std.proofs.Common.{◌+◌, ◌∙◌, ℕ, List, take, drop, ap, get_or}
use Rattle.std.specs.List.{fold}
use Rattle.hash_check.specs.Hash.{hash_step}
use Rattle.hash_check.proofs.Hashing.{hash-more}
use Rattle.hash_check.proofs.hashes.add_bytes.Goals as goal

pub loop-i-preserved : goal.loop-i-preserved
loop-i-preserved c = λ k lt.
    let table : List ℕ = c.args.table.now in
    let place : ℕ = get_or c.args.places.now k 0 in
    c.add_byte.ensures k lt ∙ ap (λ h. fold hash_step h (take 1 (drop (place + c.loop-i.i) table))) (c.loop-i.invariant k lt)
    ∙ hash-more table (get_or c.args.hashes.now k 0) place c.loop-i.i 1
