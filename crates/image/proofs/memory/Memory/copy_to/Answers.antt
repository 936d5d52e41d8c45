use Rattle.std.proofs.Common.{◌≡◌, ℕ, List, ◌-◌, ◌≤◌, ◌++◌, length, take, sym, ap, ◌∙◌, arith}
use Rattle.std.specs.Prelude.{replicate}
use Rattle.image.specs.inside.Segments.{padded}
use Rattle.image.proofs.Padding.{length_padded, padded-take}
use Rattle.image.proofs.memory.Memory.copy_to.Goals as goal

pub returns : goal.returns
returns c =
    let front : List ℕ = c.self.inside.front.now in
    let size : ℕ = c.self.inside.size in
    let n = length c.args.out.now in
    let kept = c.min-kept.result in
    let view : c.args.self.now ≡ padded front size = sym c.self.view_is in
    let within : n ≤ size = omega (arith, c.requires, ap length view, length_padded front size c.self.invariant) in
    let left : length c.split_at_mut-front.result.1.now ≡ n - kept = omega (arith, c.split_at_mut-front.ensures.back_len) in
    let zeros : c.fill.new.self ≡ replicate {A = ℕ} (n - kept) 0 =
    c.fill.ensures.after (λ y e. e) ∙ ap (λ (k : ℕ). replicate {A = ℕ} k 0) left in
    ap (λ l. l ++ c.fill.new.self) c.copy_from_slice.ensures.after
    ∙ ap (λ l. take kept front ++ l) zeros
    ∙ padded-take front size n kept within c.min-kept.ensures
    ∙ ap (take n) (sym view)
