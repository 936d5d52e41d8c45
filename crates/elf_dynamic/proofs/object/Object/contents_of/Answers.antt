use Rattle.std.proofs.Common.{◌≡◌, ℕ, ◌+◌, ◌-◌, List, take, drop, length, min, arith, ap, ◌∙◌}
use Rattle.std.proofs.lemmas.Grind.{common_steps}
use Rattle.elf_dynamic.proofs.object.Object.contents_of.Goals as goal

-- the bytes that the code slices from the file are `size` bytes from `offset`, or those of them that the
-- file has
front : (file : List ℕ) (offset size start n : ℕ) → start ≡ min offset (length file) → n ≡ min size (length file - start)
    → take (start + n - start) (drop start file) ≡ take size (drop offset file)
front file offset size start n s e = grind (arith, common_steps)

pub returns-clause-contents : goal.returns-clause-contents
returns-clause-contents c =
    let same : c.file-file.result.now ≡ c.args.self.now = cc in
    front c.file-file.result.now c.args.segment.offset c.args.segment.file_size c.min-start.result c.min-size.result c.min-start.ensures c.min-size.ensures
    ∙ ap (λ (file : List ℕ). take c.args.segment.file_size (drop c.args.segment.offset file)) same
