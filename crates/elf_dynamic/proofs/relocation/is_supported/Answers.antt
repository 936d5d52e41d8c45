use Rattle.std.proofs.Common.{◌≡◌, ◌==◌, false, arith}
use Rattle.std.proofs.lemmas.Bool.Decides.{nat_tests}
use Rattle.elf_dynamic.specs.Relocation.{uses_symbol}
use Rattle.elf_dynamic.proofs.relocation.is_supported.Goals as goal
use Rattle.elf_dynamic.proofs.relocation.is_supported.Goals.{then-kind-eq-R_X86_64_NONE, else-kind-eq-R_X86_64_NONE}

pub returns-else-uses_symbol : goal.returns-else-uses_symbol
returns-else-uses_symbol c =
    elim c.if-kind-eq-R_X86_64_NONE.branch [
      | then-kind-eq-R_X86_64_NONE w ↦
          let none : (c.args.kind == 0) ≡ false = cc in
          absurd (grind (arith, nat_tests))
      | else-kind-eq-R_X86_64_NONE w ↦
          let none : (c.args.kind == 0) ≡ false = grind (arith, nat_tests) in
          let other : uses_symbol c.args.kind ≡ false = cc in
          rw (none, other)
    ]
