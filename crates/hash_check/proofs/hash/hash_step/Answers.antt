use Rattle.std.proofs.Common.{◌+◌, ◌-◌, ◌*◌, ◌/◌, ◌%◌, ◌^◌, ◌∙◌, ap}
use Rattle.std.specs.Prelude.{bit_and, bit_xor}
use Rattle.std.proofs.Math.Nat.{mod-add-mod}
use Rattle.hash_check.specs.Hash.{hash_step}
use Rattle.hash_check.proofs.hash.hash_step.Goals as goal

pub returns : goal.returns
unfolding hash_step
returns c =
    ap (λ s. bit_and (bit_xor s (bit_and s 0xf0000000 / 2 ^ 24)) (0xffffffff - bit_and s 0xf0000000))
    (mod-add-mod (c.args.hash * 2 ^ 4) (2 ^ 32) c.from.result ∙ ap (λ b. (c.args.hash * 2 ^ 4 + b) % 2 ^ 32) c.from.ensures)
