-- How an update ends, depending on what ended its lines.
use Rattle.std.proofs.Common.{◌≡◌, ◌≢◌, ℕ, List, [], ◌++◌, Option, inl, inr, ap, subst, ◌∙◌}
use Rattle.std.specs.Prelude.{◌⊎◌, Result}
use Rattle.std.specs.Io.KnownBytes.{Appends}
use Rattle.std.proofs.KnownBytes.{Appends-nil, Appends-trans}
use Rattle.std.proofs.lemmas.List.Elements.{All-nil}
use Rattle.sector_disk.specs.Disk.{DiskFacts}
use Rattle.store.specs.Draft.{Drafted, begun}
use Rattle.store.specs.Opened.{Opened}
use Rattle.requests.specs.Step.{answer_of}
use Rattle.requests.specs.declared.refusal.Refusal.{Refusal}
use Rattle.requests.specs.declared.reply.Reply.{Reply}
use Rattle.program_parts.specs.Reply.{reply_text}
use Rattle.program_parts.specs.Said.{AppendsFront}
use Rattle.program_parts.specs.Status.{reply_status}
use Rattle.program_parts.specs.Streams.{Streams}
use Rattle.program_parts.specs.declared.status.Status.{Status}
use Rattle.program_parts.specs.declared.status.Status.TheVariants.{NoMemory}
use Rattle.scripts.specs.Line.{ended}
use Rattle.scripts.specs.declared.fault.ScriptFault.{ScriptFault}
use Rattle.scripts.specs.declared.fault.ScriptFault.TheVariants.{Read, Write, OutOfMemory}
use Rattle.tool_parts.specs.Said.{memory_line}
use Rattle.tool_parts.specs.Streams as outputs
use Rattle.updates.specs.Answer.{plan_texts, update_refusal_text}
use Rattle.updates.specs.Commit.{Commits}
use Rattle.updates.specs.Lines.{ArePlanned, commit_line}
use Rattle.updates.specs.Said.{fault_line}
use Rattle.updates.specs.Status.{fault_status, update_status}
use Rattle.updates.specs.Streams.{BreaksOff, CannotWrite, TellsOnly}
use Rattle.updates.specs.declared.answer.UpdateRefusal.{UpdateRefusal}
use Rattle.updates.specs.declared.lines.Ending.{Ending}
use Rattle.updates.specs.declared.lines.Ending.TheVariants.{Commit, Refused}
use Rattle.updates.specs.inside.Begun.{EndsBegun}
use Rattle.updates.specs.inside.Line.{EndsLines}
use Rattle.updates.specs.inside.Lines.{Broken, Ended, Unsent}
use Rattle.updates.proofs.Planned.{begins_shorter, begins_none, planned_none}

module _ (unread before after errors_before errors_after : Option (List ℕ)) (status : Status) where
  abbrev pub all : Streams
  all = record { unread = unread; before = before; after = after; errors_before = errors_before; errors_after = errors_after }

  -- the two outputs after the answers were written
  abbrev pub end : Option (List ℕ) → outputs.Streams
  end mid = record { before = mid; after = after; errors_before = errors_before; errors_after = errors_after }

  -- a text that was written after other texts makes one text with them
  tells_behind : (mid : Option (List ℕ)) (ends : Status) (texts text : List ℕ) → Appends before mid texts → outputs.TellsOnly ends text (end mid) status → TellsOnly ends (texts ++ text) all status
  tells_behind mid ends texts text written (inl h) = inl (h.0, Appends-trans before mid after texts text written h.1, h.2)
  tells_behind mid ends texts text written (inr h) = inr h

  -- if a fault was reported after the answers, the update ended with the fault
  breaks_off : (fault : ScriptFault) (texts : List ℕ) → (fault ≢ Write → Appends before after texts) → status ≡ fault_status fault → AppendsFront errors_before errors_after (fault_line fault)
      → BreaksOff fault texts all status
  breaks_off Write texts written ends said = (ends, said)
  breaks_off Read texts written ends said = inl (ends, written (λ is. cc is), said)
  breaks_off OutOfMemory texts written ends said = inl (ends, written (λ is. cc is), said)

  -- if the output failed, this was reported
  cannot_write : (fault : ScriptFault) → fault ≡ Write → status ≡ fault_status fault → AppendsFront errors_before errors_after (fault_line fault) → CannotWrite all status
  cannot_write Write is ends said = (ends, said)
  cannot_write Read is ends said = absurd (cc is)
  cannot_write OutOfMemory is ends said = absurd (cc is)

  module _ {D O : Type 0} (facts : D → DiskFacts) (contents : O → Option (List ℕ)) (old last : Drafted D) (new : Opened D) where
    -- if the lines ended with `commit`, the update ends with a commit
    pub by_commit : (held : O) (answer : Result (Unit {0}) Refusal) → Ended facts unread before (contents held) old last Commit → Commits facts last answer new
        → outputs.TellsOnly (reply_status (answer_of answer)) (reply_text (answer_of answer)) (end (contents held)) status → EndsBegun facts contents old all status new
    by_commit held answer so commits told = (
      so.0,
      so.1,
      so.2,
      so.3,
      inl (
        held,
        answer,
        so.4.1,
        so.5,
        subst (λ (u : Drafted D). Commits facts u answer new) so.4.0 commits,
        tells_behind (contents held) (reply_status (answer_of answer)) (plan_texts so.1) (reply_text (answer_of answer)) so.5 told,
      ),
    )

    module _ (is : new ≡ last.store) where
      -- if the lines ended with a refusal, the update ends with this refusal
      pub by_refusal : (mid : Option (List ℕ)) (refusal : UpdateRefusal) → Ended facts unread before mid old last (Refused refusal)
          → outputs.TellsOnly (update_status refusal) (update_refusal_text refusal) (end mid) status → EndsBegun facts contents old all status new
      by_refusal mid refusal so told = (
        so.0,
        so.1,
        so.2,
        so.3,
        inr (inl (refusal, last, so.4, is, tells_behind mid (update_status refusal) (plan_texts so.1) (update_refusal_text refusal) so.5 told)),
      )

      -- if the output failed before all answers were written, the update ends with a failed output
      unsent : (lines : List (List ℕ)) (answers : List Reply) (u : Drafted D) (ending : Ending) → ArePlanned facts old u lines answers → EndsLines facts unread lines u last ending
          → CannotWrite all status → EndsBegun facts contents old all status new
      unsent lines answers u Commit planned ends failed = (
        lines,
        answers,
        u,
        planned,
        inr (inr (Write, [], All-nil (λ b. b ≢ 10), begins_shorter unread lines (ended commit_line) ends.1, is ∙ ap (λ (v : Drafted D). v.store) ends.0, failed)),
      )
      unsent lines answers u (Refused why) planned ends failed = (lines, answers, u, planned, inr (inl (why, last, ends, is, inr failed)))

      -- if the lines ended with a fault, the update ends with this fault
      pub by_fault : (fault : ScriptFault) → status ≡ fault_status fault → AppendsFront errors_before errors_after (fault_line fault)
          → Broken facts unread before after old last fault ⊎ Unsent facts unread old last fault → EndsBegun facts contents old all status new
      by_fault fault ends said (inl so) = (so.0, so.1, last, so.3, inr (inr (fault, so.2, so.4, so.5, is, breaks_off fault (plan_texts so.1) so.6 ends said)))
      by_fault fault ends said (inr so) = unsent so.1 so.2 so.3 so.4 so.5 so.6 (cannot_write fault so.0 ends said)

-- if memory was refused before any line was read, the update ends with the fault of refused memory
pub by_memory : {D O : Type 0} (facts : D → DiskFacts) (contents : O → Option (List ℕ)) (old new : Opened D) (unread before errors_before errors_after : Option (List ℕ)) (status : Status) → new ≡ old
    → status ≡ NoMemory → AppendsFront errors_before errors_after memory_line
    → EndsBegun facts contents (begun old) (record { unread = unread; before = before; after = before; errors_before = errors_before; errors_after = errors_after }) status new
by_memory facts contents old new unread before errors_before errors_after status is ends said = (
  [],
  [],
  begun old,
  planned_none facts (begun old),
  inr (inr (OutOfMemory, [], All-nil (λ b. b ≢ 10), begins_none unread, is, inl (ends, Appends-nil before, said))),
)
