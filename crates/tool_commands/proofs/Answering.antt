-- Lemmas about a command to a registry that was opened without reading a library's file.
use Rattle.std.proofs.Common.{◌≡◌, List, Ok, inl, inr, ap, sym, subst, ◌∙◌}
use Rattle.std.specs.Prelude.{◌≢◌, ◌⊎◌, IsTrue}
use Rattle.sector_disk.specs.Disk.{Sector, DiskFacts, Mixture, LeavesOnly}
use Rattle.sector_disk.proofs.Moments.{goes_on, weaken}
use Rattle.states.specs.State.{State}
use Rattle.store.specs.Opened.{Opened}
use Rattle.store.specs.Opened as store
use Rattle.store.specs.Opens.{Opens, OpensByEntries}
use Rattle.store.specs.Stands as sectors
use Rattle.requests.specs.Request.{Request, install, replace, remove, set_preloads, bind, list}
use Rattle.requests.specs.declared.refusal.Refusal.{Refusal}
use Rattle.requests.specs.declared.refusal.Refusal.TheVariants.{Device}
use Rattle.requests.specs.declared.reply.Reply.{Reply}
use Rattle.requests.specs.declared.reply.Reply.TheVariants.{Refused}
use Rattle.registry.specs.Answered.{Leaves}
use Rattle.registry.specs.Applied.{MayLeaveBy}
use Rattle.registry.specs.Phase.{phase_of}
use Rattle.tool_commands.specs.Request.{DiskStep, IsAnswered, IsChange}

-- a change that is refused for another reason than a failed call leaves the registry unchanged
same : {D : Type 0} (old new : Opened D) (request : Request) (refusal : Refusal) → IsChange request → Leaves old new request (Refused refusal) → refusal ≢ Device → new ≡ old
same old new (install bytes) refusal h leaves other = leaves.1 other
same old new (replace bytes) refusal h leaves other = leaves.1 other
same old new (remove name) refusal h leaves other = leaves.1 other
same old new (set_preloads names) refusal h leaves other = leaves.1 other
same old new (bind program base) refusal h leaves other = absurd h
same old new list refusal h leaves other = absurd h

module _ {D : Type 0} (facts : D → DiskFacts) (disk left : D) (old new : Opened D) (request : Request) (reply : Reply) where
  -- a stop at any moment from the opening to the end may leave the sectors m
  abbrev MayBeLeft : State → State → List Sector → Type 0
  MayBeLeft s s' m = Mixture (facts disk) m ⊎ MayLeaveBy sectors.Stands (phase_of facts old s) request reply s' m

  -- if the registry is unchanged, nothing was written
  nothing : Opens sectors.Stands facts (store.IsAt facts) disk (Ok old) → IsTrue (facts disk).honest → left ≡ old.disk
      → LeavesOnly (facts disk) (facts left) (Mixture (facts disk)) × ((facts left).now ≡ (facts disk).now)
  nothing opened honest back = (
    subst (λ (d : D). LeavesOnly (facts disk) (facts d) (Mixture (facts disk))) (sym back) (opened.any_moment honest),
    ap (λ (d : D). (facts d).now) back ∙ opened.now honest,
  )

  -- if a registry was opened and then answered a command, `IsAnswered` holds
  pub answered : OpensByEntries facts disk (Ok old) → DiskStep facts old request reply new → left ≡ new.disk → IsAnswered facts disk request reply left
  answered is step back = record {
    old = old;
    opened = is;
    new = new;
    step = step;
    any_moment = λ honest s stands.
        let did = step.untested s (is.opened.stands honest s stands) in (
          did.0,
          did.1,
          subst (λ (d : D). LeavesOnly (facts disk) (facts d) (MayBeLeft s did.0)) (sym back)
              (goes_on (MayBeLeft s did.0) (weaken _ (MayBeLeft s did.0) (λ m h. inl h) (is.opened.any_moment honest)) (weaken _ (MayBeLeft s did.0) (λ m h. inr h) did.1.any_moment)),
        );
    unwritten = λ honest change refusal told other.
        let kept = same old new request refusal change (subst (Leaves old new request) told step.on_any_disk.did.leaves) other in
        nothing is.opened honest (back ∙ ap (λ (o : Opened D). o.disk) kept);
    back = back;
  }
