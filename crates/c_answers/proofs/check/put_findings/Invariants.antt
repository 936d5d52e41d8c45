use Rattle.std.proofs.Common.{◌≡◌, ◌<◌, ℕ, get_or, length}
use Rattle.states.specs.State.{State}
use Rattle.store.specs.Opened.{IsAt}
use Rattle.store.specs.Stands.{no_library}
use Rattle.contents.specs.Finding.{IsFinding}
use Rattle.contents.specs.declared.finding.Finding.{Finding}
use Rattle.c_answers.specs.Check.{name_start}
use Rattle.c_answers.proofs.Findings.{TellFirst}
use Rattle.c_answers.proofs.check.put_findings.Given as goal

abbrev pub invariant-loop-position : goal.invariant-loop-position
invariant-loop-position g l = record {
  told : (s : State) → IsAt g.D.Disk.facts l.store s
      → ((i : ℕ) → i < length s.libraries → (d : Finding) → IsFinding (get_or s.libraries i no_library) (get_or l.found i d))
      → TellFirst s.libraries l.position l.findings l.names l.at;
  at : (s : State) → IsAt g.D.Disk.facts l.store s → l.at ≡ name_start s.libraries l.position;
}
