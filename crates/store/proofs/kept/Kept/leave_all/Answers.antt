use Rattle.std.proofs.Common.{◌+◌, List, get_or, drop, sym, ap, subst, ◌∙◌}
use Rattle.std.proofs.lemmas.List.{drop_more}
use Rattle.store.specs.declared.placed_entry.PlacedEntry.{PlacedEntry}
use Rattle.store.specs.inside.Draft.{own_in, own_sectors_in, with_layout}
use Rattle.store.specs.inside.Edit.{no_entry}
use Rattle.store.specs.inside.Room.{AreClaimedOnce, IsReleased}
use Rattle.store.proofs.Releases.{IsReleasedTo, held_rest, held_some, released_some, released_step}
use Rattle.store.proofs.kept.Kept.leave_all.Goals as goal

pub leave-requires-clause-held : goal.leave-requires-clause-held
leave-requires-clause-held c =
    let standing = c.args.self.now.entries.items in
    let entries = c.args.entries.now in
    let i = c.loop-placed.placed-index in
    let mid = c.loop-placed.self.layout in
    let rest = own_sectors_in standing (drop (i + 1) entries) in
    let first = ap (own_sectors_in standing) (drop_more entries i no_entry c.loop-placed-test.true) in
    let here = subst (AreClaimedOnce mid) first
    (held_rest c.args.self.now.layout mid (own_sectors_in standing entries) (own_sectors_in standing (drop i entries)) c.requires.held c.loop-placed.invariant.freed) in
    subst (λ (l : List PlacedEntry). AreClaimedOnce mid (own_in l (get_or entries i no_entry))) (sym (ap (λ k. k.entries.items) c.loop-placed.invariant.kept))
    (held_some mid (own_in standing (get_or entries i no_entry)) rest here)

pub loop-placed-preserved : goal.loop-placed-preserved
loop-placed-preserved c =
    let standing = c.args.self.now.entries.items in
    let entries = c.args.entries.now in
    let i = c.loop-placed.placed-index in
    let mid = c.loop-placed.self.layout in
    let new = c.leave.new.self.layout in
    let gone = own_sectors_in standing entries in
    let own = own_in standing (get_or entries i no_entry) in
    let rest = own_sectors_in standing (drop (i + 1) entries) in
    let first = ap (own_sectors_in standing) (drop_more entries i no_entry c.loop-placed-test.true) in
    let freed = subst (λ (l : List PlacedEntry). IsReleased mid new (own_in l (get_or entries i no_entry))) (ap (λ k. k.entries.items) c.loop-placed.invariant.kept) c.leave.ensures.freed in
    record {
      kept = c.leave.ensures.kept ∙ ap (λ k. with_layout k new) c.loop-placed.invariant.kept;
      freed = released_step c.args.self.now.layout mid new gone (own_sectors_in standing (drop i entries)) rest c.loop-placed.invariant.freed
          (subst (λ l. IsReleasedTo mid new l rest) (sym first) (released_some mid own rest new freed));
    }
