use Rattle.std.proofs.Common.{◌≡◌, ◌∙◌, ℕ, arith, subst}
use Rattle.elf_file.specs.inside.Index.{Indexes}
use Rattle.elf_file.proofs.load_index.LoadIndex.new.Goals as goal

pub loop-i-init : goal.loop-i-init
loop-i-init c = c.empty-index.ensures c.args.headers.now

pub returns : goal.returns
returns c =
    let end : c.loop-i.i ≡ c.count-i-end.result = omega arith in
    subst (λ (n : ℕ). Indexes c.args.headers.now n c.loop-i.index) (end ∙ c.count-i-end.ensures.ok) c.loop-i.invariant
