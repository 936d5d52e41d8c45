use Rattle.std.proofs.Common.{◌≡◌, ◌-◌, ◌^◌, length, min, take}
use Rattle.states.specs.State.{State}
use Rattle.store.specs.Opened.{IsAt}
use Rattle.c_answers.specs.Check.{library_names}
use Rattle.c_answers.proofs.check.names_bytes.Given as goal

abbrev pub invariant-loop-position : goal.invariant-loop-position
invariant-loop-position g l =
    (s : State) → IsAt g.D.Disk.facts l.store s → l.bytes ≡ min (length (library_names (take l.position s.libraries))) (2 ^ 64 - 1)
