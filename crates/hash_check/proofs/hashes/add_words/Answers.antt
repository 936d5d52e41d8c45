use Rattle.std.proofs.Common.{◌≡◌, ◌+◌, ◌*◌, ◌∙◌, ℕ, List, take, drop, ap, arith, get_or}
use Rattle.std.specs.List.{fold}
use Rattle.hash_check.specs.Hash.{hash_step}
use Rattle.hash_check.proofs.Hashing.{hash-more}
use Rattle.hash_check.proofs.hashes.add_words.Goals as goal

pub loop-i-preserved : goal.loop-i-preserved
loop-i-preserved c = λ k lt.
    let table : List ℕ = c.args.table.now in
    let place : ℕ = get_or c.args.places.now k 0 in
    let next : 4 * c.loop-i.i + 4 ≡ 4 * (c.loop-i.i + 1) = omega arith in
    c.add_word.ensures k lt ∙ ap (λ h. fold hash_step h (take 4 (drop (place + 4 * c.loop-i.i) table))) (c.loop-i.invariant k lt)
    ∙ hash-more table (get_or c.args.hashes.now k 0) place (4 * c.loop-i.i) 4 ∙ ap (λ n. fold hash_step (get_or c.args.hashes.now k 0) (take n (drop place table))) next
