use Rattle.std.proofs.Common.{List, sym, subst}
use Rattle.store.specs.declared.placed_entry.PlacedEntry.{PlacedEntry}
use Rattle.store.specs.inside.Draft.{own_sectors_in}
use Rattle.store.specs.inside.Room.{IsReleased}
use Rattle.store.specs.inside.Stored.{IsStored}
use Rattle.store.proofs.DraftBegins.{given_up}
use Rattle.store.proofs.update.Update.give_up.Goals as goal

pub invariant_of-result : goal.invariant_of-result
invariant_of-result g c =
    let kept = c.self.inside.kept in
    let left = c.leave_all.new.self.layout in
    subst (IsStored (g.D.Disk.facts c.self.inside.disk).sectors) (sym c.leave_all.ensures.kept)
    (given_up kept c.self.inside.draft c.self.invariant left
    (subst (λ (l : List PlacedEntry). IsReleased kept.layout left (own_sectors_in kept.entries.items l)) c.deref.ensures.value c.leave_all.ensures.freed))
