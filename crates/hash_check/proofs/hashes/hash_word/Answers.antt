use Rattle.std.proofs.Common.{◌∙◌, ◌/◌, ◌%◌, ap, arith, ℕ}
use Rattle.hash_check.specs.Hash.{hash_step}
use Rattle.hash_check.proofs.Hashing.{word-hashed}
use Rattle.hash_check.proofs.hashes.hash_word.Goals as goal

pub returns : goal.returns
returns c =
    let word : ℕ = c.u32_at-word.result in
    c.hash_step.ensures ∙ ap (λ h. hash_step h (word / 16777216)) (c.hash_step-third.ensures
    ∙ ap (λ h. hash_step h (word / 65536 % 256)) (c.hash_step-second.ensures ∙ ap (λ h. hash_step h (word / 256 % 256)) c.hash_step-first.ensures))
    ∙ word-hashed c.args.table.now c.args.place c.args.hash word c.requires (λ i. omega (arith, c.type_inv.table i)) c.u32_at-word.ensures
