use Rattle.std.proofs.Common.{◌≡◌, ◌<◌, ℕ, false}
use Rattle.elf_file.specs.Dynamic.{is_symbolic}
use Rattle.scope.specs.Objects.{file_at}
use Rattle.scope.proofs.definition_table.has_symbolic.Given as goal

abbrev pub invariant-loop-object : goal.invariant-loop-object
invariant-loop-object l = (p : ℕ) → p < l.object-index → is_symbolic (file_at l.objects p) ≡ false
