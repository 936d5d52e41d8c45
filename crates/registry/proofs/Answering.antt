-- Lemmas about answers on any disk.
use Rattle.std.proofs.Common.{List, [], ◌∷◌, ◌++◌, refl, subst}
use Rattle.sector_disk.specs.Disk.{DiskFacts}
use Rattle.store.specs.Opened.{Opened}
use Rattle.requests.specs.Request.{Request}
use Rattle.requests.specs.declared.reply.Reply.{Reply}
use Rattle.registry.specs.Answered.{Answered, AreAnswered}

module _ {D : Type 0} (facts : D → DiskFacts) where
  -- if commands were answered one after the other, and then one more, the longer list was answered too
  pub answered_more : (old mid new : Opened D) (qs : List Request) (rs : List Reply) (q : Request) (r : Reply) → AreAnswered facts old mid qs rs → Answered facts mid new q r
      → AreAnswered facts old new (qs ++ q ∷ []) (rs ++ r ∷ [])
  answered_more old mid new [] [] q r so_far answered = (new, subst (λ k. Answered facts k new q r) so_far answered, refl)
  answered_more old mid new (x ∷ qs) (y ∷ rs) q r (k, first, rest) answered = (k, first, answered_more k mid new qs rs q r rest answered)
  answered_more old mid new [] (y ∷ rs) q r so_far answered = absurd so_far
  answered_more old mid new (x ∷ qs) [] q r so_far answered = absurd so_far
