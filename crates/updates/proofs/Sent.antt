-- Lemmas about lines whose buffered answers are sent at the end.
use Rattle.std.proofs.Common.{◌≡◌, ℕ, List, Option, inl, inr, subst}
use Rattle.std.specs.Prelude.{◌⊎◌, IfErr, IfOk, Result, Ok, Err}
use Rattle.std.specs.Io.KnownBytes.{Appends, append_known}
use Rattle.sector_disk.specs.Disk.{DiskFacts}
use Rattle.store.specs.Draft.{Drafted}
use Rattle.program_parts.proofs.Sent.{all_sent}
use Rattle.scripts.specs.declared.fault.ScriptFault.{ScriptFault}
use Rattle.scripts.specs.declared.fault.ScriptFault.TheVariants.{Write}
use Rattle.updates.specs.Answer.{plan_texts}
use Rattle.updates.specs.declared.lines.Ending.{Ending}
use Rattle.updates.specs.inside.Lines.{Broken, Ended, Unsent}

module _ {D : Type 0} (facts : D → DiskFacts) (unread before : Option (List ℕ)) (old new : Drafted D) where
  module _ (start held now : Option (List ℕ)) (waiting : List ℕ) (none : start ≡ before) (sent : Appends held now waiting) where
    written : (text : List ℕ) → Appends start (append_known held waiting) text → Appends before now text
    written text put = subst (λ (k : Option (List ℕ)). Appends k now text) none (all_sent start held now waiting text put sent)

    pub ended_sent : (ending : Ending) → Ended facts unread start (append_known held waiting) old new ending → Ended facts unread before now old new ending
    ended_sent ending so = (so.0, so.1, so.2, so.3, so.4, written (plan_texts so.1) so.5)

    pub broken_sent : (fault : ScriptFault) → Broken facts unread start (append_known held waiting) old new fault → Broken facts unread before now old new fault
    broken_sent fault so = (so.0, so.1, so.2, so.3, so.4, so.5, λ other. written (plan_texts so.1) (so.6 other))

  -- if the output failed when the buffered answers were sent, the lines ended with a failed output
  pub not_sent : (start held now : Option (List ℕ)) (ended : Result Ending ScriptFault) (fault : ScriptFault) → fault ≡ Write → IfOk ended (Ended facts unread start held old new)
      → IfErr ended (Broken facts unread start held old new) → Broken facts unread before now old new fault ⊎ Unsent facts unread old new fault
  not_sent start held now (Ok ending) fault is ok err = inr (is, ok.0, ok.1, ok.2, ending, ok.3, ok.4)
  not_sent start held now (Err other) fault is ok err = inl (err.0, err.1, err.2, err.3, err.4, err.5, λ isnt. absurd (isnt is))
