use Rattle.std.proofs.Common.{◌≡◌, ℕ, ◌+◌, ◌==◌, ◌≢◌, false, ap, arith, if◌then◌else◌}
use Rattle.std.proofs.lemmas.Bool.Decides.{nat_tests}
use Rattle.elf_file.specs.declared.tag_table.Slot.{Slot}
use Rattle.elf_file.proofs.tag_table.Slot.and.Goals as goal

-- if the tag was present already, the slot keeps the value of its first entry
kept : (n value first : ℕ) → n ≢ 0 → first ≡ (if n == 0 then value else first)
kept n value first h =
    let some : (n == 0) ≡ false = grind (arith, nat_tests) in
    rw some

pub returns-else-self-eq0 : goal.returns-else-self-eq0
returns-else-self-eq0 c =
    let slot : ℕ → Slot = λ value. record { count = c.args.self.count + 1; value = value } in
    ap slot (kept c.args.self.count c.args.value c.args.self.value c.if-self-eq0.false)
