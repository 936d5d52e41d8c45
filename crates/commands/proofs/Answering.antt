-- Lemmas about a request to the registry on a disk.
use Rattle.std.proofs.Common.{◌≡◌, ◌⊎◌, List, Ok, inl, inr, sym, subst}
use Rattle.sector_disk.specs.Disk.{Sector, DiskFacts, Mixture, LeavesOnly}
use Rattle.sector_disk.proofs.Moments.{goes_on, weaken}
use Rattle.requests.specs.Request.{Request}
use Rattle.requests.specs.declared.reply.Reply.{Reply}
use Rattle.states.specs.State.{State}
use Rattle.store.specs.Opened.{Opened}
use Rattle.registry.specs.Applied.{MayLeaveWithin}
use Rattle.registry.specs.Phase.{phase_of}
use Rattle.commands.specs.DiskStep.{DiskStep}
use Rattle.registry.specs.Opening.{EndsOpening}
use Rattle.commands.specs.OnDisk.{IsAnswered}

module _ {D : Type 0} (facts : D → DiskFacts) (disk left : D) (old new : Opened D) (request : Request) (reply : Reply) where
  -- a stop at any moment from the opening to the end may leave the sectors m
  abbrev MayBeLeft : State → State → List Sector → Type 0
  MayBeLeft s s' m = Mixture (facts disk) m ⊎ MayLeaveWithin (phase_of facts old s) request reply s' m

  -- if a registry was opened and then answered a request, `IsAnswered` holds
  pub answered : EndsOpening facts disk (Ok old) → DiskStep facts old request reply new → left ≡ new.disk → IsAnswered facts disk request reply left
  answered opened step back = record {
    old = old;
    opened = opened;
    new = new;
    step = step;
    applied = λ honest s stands.
        let did = step.applied s (opened.opened.stands honest s stands) in (
          did.0,
          did.1,
          subst (λ (d : D). LeavesOnly (facts disk) (facts d) (MayBeLeft s did.0)) (sym back)
              (goes_on (MayBeLeft s did.0) (weaken _ (MayBeLeft s did.0) (λ m h. inl h) (opened.opened.any_moment honest)) (weaken _ (MayBeLeft s did.0) (λ m h. inr h) did.1.any_moment)),
        );
    back = back;
  }
