-- Commands keep held byte strings.
use Rattle.std.proofs.Common.{List, [], ◌∷◌, IsTrue, refl, sym, subst, ◌∙◌}
use Rattle.sector_disk.specs.Disk.{DiskFacts, Mixture, AreCalls}
use Rattle.sector_disk.proofs.Moments.{left_now}
use Rattle.store.specs.Holds.{KeepsHeld, KeepsHolders}
use Rattle.store.specs.Opened.{Opened}
use Rattle.store.proofs.KeepsHolders.{keeps_reads, keeps_same}
use Rattle.requests.specs.Request.{Request}
use Rattle.requests.specs.declared.reply.Reply.{Reply}
use Rattle.registry.specs.Answered.{AreAnswered}
use Rattle.store.specs.IsRead.{IsRead}

module _ {D : Type 0} (facts : D → DiskFacts) where
  -- a call that changes nothing keeps the held byte strings
  pub keeps_held_same : (s : Opened D) → KeepsHeld facts s s
  keeps_held_same s = keeps_same facts {old = s} {view = s} refl

  -- a call that only reads keeps the held byte strings
  pub keeps_held_read : (old new : Opened D) → IsRead facts old new → KeepsHeld facts old new
  keeps_held_read old new read =
      subst (KeepsHolders (facts old.disk) (facts new.disk) old.held) (sym read.held)
      (keeps_reads old.held (λ honest. left_now (Mixture (facts old.disk)) (read.leaves honest)))

  -- two calls that keep the held byte strings keep them when made one after the other
  pub keeps_held_more : (old mid new : Opened D) → AreCalls (facts old.disk) (facts mid.disk) → KeepsHeld facts old mid → KeepsHeld facts mid new → KeepsHeld facts old new
  keeps_held_more old mid new calls first second = record {
    holders = λ sector. second.holders sector ∙ first.holders sector;
    bytes = λ honest sector library is. second.bytes (subst IsTrue (sym calls.honest) honest) sector library (first.bytes honest sector library is);
    holds = λ sector placed. (
      λ by. (second.holds sector placed).0 ((first.holds sector placed).0 by),
      λ by. (first.holds sector placed).1 ((second.holds sector placed).1 by),
    );
    none = λ none. second.none (first.none none);
  }

  -- Commands that are answered one after the other keep the held byte strings.
  pub keeps_held_answered : (old new : Opened D) (qs : List Request) (rs : List Reply) → AreAnswered facts old new qs rs → KeepsHeld facts old new
  keeps_held_answered old new [] [] same = keeps_same facts same
  keeps_held_answered old new (q ∷ qs) (r ∷ rs) (mid, first, rest) = keeps_held_more old mid new first.did.calls first.did.held (keeps_held_answered mid new qs rs rest)
  keeps_held_answered old new [] (r ∷ rs) so_far = absurd so_far
  keeps_held_answered old new (q ∷ qs) [] so_far = absurd so_far
