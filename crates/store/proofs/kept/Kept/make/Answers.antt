use Rattle.std.proofs.Common.{◌≡◌, List, ℕ, length, IsTrue, refl, sym, ap, subst, ◌∙◌, arith}
use Rattle.std.proofs.lemmas.Bool.{false≢true}
use Rattle.roots.specs.declared.version.Version.TheVariants.{Two}
use Rattle.states.specs.State.{State}
use Rattle.store.specs.declared.placed_entry.PlacedEntry.{PlacedEntry}
use Rattle.store.specs.Stands.{StandsBy, entry_sectors}
use Rattle.store.specs.inside.Change.{CanBeStaged, IsFollowed, staged_sectors}
use Rattle.store.specs.inside.Edit.{ReleasesReplaced, IsWithin, edited, edited_by, gone_sectors}
use Rattle.store.specs.inside.Kept.{HaveSpellings, IsKept}
use Rattle.store.specs.inside.Prepared.{IsReady, Makes}
use Rattle.store.specs.inside.Room.{AreClaimedOnce}
use Rattle.store.proofs.Anew.{back_kept, more_free, more_held, moved_held}
use Rattle.store.proofs.Following.{following_fits, next_version}
use Rattle.store.proofs.KeepsHolders.{keeps_table}
use Rattle.store.proofs.Outcomes.{answers_device, answers_carried_out}
use Rattle.store.proofs.Preloads.{few_in}
use Rattle.store.proofs.Preparing.{edited_map, settled_keeps, settled_kept, staged_spelt}
use Rattle.store.proofs.kept.Kept.make.Given as given
use Rattle.store.proofs.kept.Kept.make.Goals.{After-list, After-release_replaced}
use Rattle.store.proofs.kept.Kept.make.Goals as goal

ready : (g : given.Over) (c : After-list g) → IsReady (g.D.Disk.facts c.args.disk.now).sectors c.args.self.now c.args.prepared.now
ready g c = c.requires

-- the entries once the change is made
abbrev others : (g : given.Over) (c : After-list g) → List PlacedEntry
others g c = edited c.args.prepared.now.edit c.args.self.now.entries.items

-- the sectors of these entries are listed
listed_are : (g : given.Over) (c : After-list g) → c.list.new.sectors.items ≡ entry_sectors (others g c)
listed_are g c =
    let edit = c.args.prepared.now.edit in
    c.list.ensures
    ∙ ap (edited_by (λ (p : PlacedEntry). p.at) edit) (ready g c).listed
    ∙ edited_map (λ (p : PlacedEntry). p.at) edit c.args.self.now.entries.items

-- the staged sectors, and then the root, turn the current state into the next one
following : (g : given.Over) (c : After-list g) (listed : List ℕ) → listed ≡ c.list.new.sectors.items → (written : List PlacedEntry) (s s' : State)
    → Makes (g.D.Disk.facts c.args.disk.now).now written c.args.self.now c.args.prepared.now c.args.bytes.now s s'
    → IsFollowed Two c.args.self.now.root c.args.self.now.entries.items s (g.D.Disk.facts c.args.disk.now).now written c.args.prepared.now.change
    c.args.bytes.now listed (others g c) s'
following g c listed are written s s' makes =
    subst (λ l. IsFollowed Two c.args.self.now.root c.args.self.now.entries.items s (g.D.Disk.facts c.args.disk.now).now written c.args.prepared.now.change
    c.args.bytes.now l (others g c) s') (sym (are ∙ listed_are g c)) makes

pub list-requires : goal.list-requires
list-requires g c = c.requires.list

pub carry_out-written-requires-clause-root : goal.carry_out-written-requires-clause-root
carry_out-written-requires-clause-root g c = following_fits c.requires.change.next c.requires.change.kept.root_fits

pub carry_out-written-requires-clause-fits : goal.carry_out-written-requires-clause-fits
carry_out-written-requires-clause-fits g c = omega (arith, c.requires.size, c.requires.change.kept.root_fits.sectors)

pub carry_out-written-requires-clause-roots : goal.carry_out-written-requires-clause-roots
carry_out-written-requires-clause-roots g c = omega (arith, c.requires.size, c.requires.change.kept.root_fits.sectors)

pub carry_out-written-requires-clause-room : goal.carry_out-written-requires-clause-room
carry_out-written-requires-clause-room g c =
    let before = (goal.at.carry_out-written-requires-clause-room g c).After-list in
    let staged = c.args.prepared.now.change.staged in
    subst (CanBeStaged (g.D.Disk.facts c.args.disk.now).sectors staged) (sym (c.deref.ensures.value ∙ listed_are g before))
    (subst (λ n. CanBeStaged n staged (entry_sectors (others g before))) (sym c.requires.size) c.requires.change.place)

pub give_back-requires-clause-fits : goal.give_back-requires-clause-fits
give_back-requires-clause-fits g c =
    let before = (goal.at.give_back-requires-clause-fits g c).After-list in
    staged_spelt c.args.self.now.root.sectors c.args.prepared.now.change.staged (entry_sectors (others g before)) c.requires.change.place

pub give_back-requires-clause-held : goal.give_back-requires-clause-held
give_back-requires-clause-held g c = more_held c.requires.change.kept c.requires.change.claimed

pub returns-in-Err-clause-stored : goal.returns-in-Err-clause-stored
returns-in-Err-clause-stored g c =
    let is = c.requires.change in (
      back_kept is.kept is.claimed c.give_back.new.layout c.give_back.ensures,
      c.requires.indexed,
      c.carry_out-written.ensures.calls.sectors ∙ c.requires.size,
      λ is. absurd (false≢true (sym is)),
      c.requires.two,
    )

pub returns-in-Err-clause-any_moment : goal.returns-in-Err-clause-any_moment
returns-in-Err-clause-any_moment g c written s s' at makes =
    let before = (goal.at.returns-in-Err-clause-any_moment g c).After-list in
    (c.carry_out-written.ensures.carried_out at.honest).any_moment
    (record { version = Two; root = c.args.self.now.root; entries = c.args.self.now.entries.items; before = s; written = written; others = others g before; after = s' })
    (record { stands = at.stands; followed = following g before c.deref.result.now c.deref.ensures.value written s s' makes })

pub returns-in-Err-clause-held : goal.returns-in-Err-clause-held
returns-in-Err-clause-held g c =
    let is = c.requires.change in
    keeps_table is.kept (staged_sectors c.args.prepared.now.change.staged) (more_free is.kept is.claimed) c.carry_out-written.ensures.others

pub returns-in-Err-clause-on_any_disk : goal.returns-in-Err-clause-on_any_disk
returns-in-Err-clause-on_any_disk g c =
    answers_device g.D.Disk.facts c.requires.usable c.from.result c.from.ensures c.in-Err.ensures.calls refl

pub release_replaced-requires-clause-root : goal.release_replaced-requires-clause-root
release_replaced-requires-clause-root g c = c.requires.change.kept.root_fits

pub release_replaced-requires-clause-spellings : goal.release_replaced-requires-clause-spellings
release_replaced-requires-clause-spellings g c = subst HaveSpellings (sym c.deref-2.ensures.value) c.requires.change.kept.entries_fit

pub release_replaced-requires-clause-within : goal.release_replaced-requires-clause-within
release_replaced-requires-clause-within g c = subst (λ l. IsWithin c.args.prepared.now.edit (length l)) (sym c.deref-2.ensures.value) c.requires.edit.within

pub release_replaced-requires-clause-held : goal.release_replaced-requires-clause-held
release_replaced-requires-clause-held g c =
    let before = (goal.at.release_replaced-requires-clause-held g c).After-list in
    let is = c.requires.change in
    subst (λ l. AreClaimedOnce c.args.self.now.layout (gone_sectors c.args.prepared.now.edit c.args.self.now.root l)) (sym c.deref-2.ensures.value)
    (moved_held is.kept is.claimed c.args.prepared.now.change.root (others g before) is.moved)

-- what the change gave up is settled
settled : (g : given.Over) (c : After-release_replaced g)
    → ReleasesReplaced c.args.prepared.now.edit c.args.self.now.root c.args.self.now.entries.items c.args.self.now.held c.release_replaced.new.held c.args.self.now.layout c.release_replaced.new.layout
settled g c =
    subst (λ l. ReleasesReplaced c.args.prepared.now.edit c.args.self.now.root l c.args.self.now.held c.release_replaced.new.held c.args.self.now.layout c.release_replaced.new.layout)
    c.deref-2.ensures.value c.release_replaced.ensures

pub enter-requires-clause-edit : goal.enter-requires-clause-edit
enter-requires-clause-edit g c = c.requires.edit

pub enter-requires-clause-index : goal.enter-requires-clause-index
enter-requires-clause-index g c = c.requires.indexed

pub enter-requires-clause-spellings : goal.enter-requires-clause-spellings
enter-requires-clause-spellings g c = c.requires.change.kept.entries_fit

pub enter-requires-clause-few : goal.enter-requires-clause-few
enter-requires-clause-few g c =
    let fits = c.requires.change.kept.root_fits in
    omega (arith, c.requires.change.kept.counted, few_in c.args.self.now.root.library_count c.args.self.now.root.sectors c.args.self.now.root.list c.requires.two fits.list)

pub returns-clause-stored : goal.returns-clause-stored
returns-clause-stored g c =
    let at = goal.at.returns-clause-stored g c in
    let is = c.requires.change in
    let change = c.args.prepared.now.change in
    let edit = c.args.prepared.now.edit in
    let entries = c.args.self.now.entries.items in (
      subst (λ l. IsKept change.root l c.release_replaced.new.held c.release_replaced.new.layout) (sym c.enter.ensures.entries)
          (settled_kept change c.release_replaced.new.layout edit is c.requires.edit.within (settled g at.After-release_replaced)),
      c.enter.ensures.index,
      c.carry_out-written.ensures.calls.sectors ∙ c.requires.size ∙ sym (ap (λ r. r.sectors) is.next.is_next),
      λ _. listed_are g at.After-list ∙ ap entry_sectors (sym c.enter.ensures.entries),
      next_version is.next is.kept.root_fits,
    )

pub returns-clause-any_moment : goal.returns-clause-any_moment
returns-clause-any_moment g c written s s' at makes =
    let before = (goal.at.returns-clause-any_moment g c).After-list in
    (c.carry_out-written.ensures.carried_out at.honest).any_moment
    (record { version = Two; root = c.args.self.now.root; entries = c.args.self.now.entries.items; before = s; written = written; others = others g before; after = s' })
    (record { stands = at.stands; followed = following g before c.deref.result.now c.deref.ensures.value written s s' makes })

pub returns-clause-ok : goal.returns-clause-ok
returns-clause-ok g c written s s' at makes =
    let before = (goal.at.returns-clause-ok g c).After-list in
    record {
      honest = subst IsTrue (sym c.carry_out-written.ensures.calls.honest) at.honest;
      usable = refl;
      stands = λ m mixture. subst (λ l. StandsBy Two m c.args.prepared.now.change.root l s') (sym c.enter.ensures.entries)
          ((c.in_default.ensures.carried_out at.honest).done
          (record { version = Two; root = c.args.self.now.root; entries = c.args.self.now.entries.items; before = s; written = written; others = others g before; after = s' })
          (record { stands = at.stands; followed = following g before c.deref.result.now c.deref.ensures.value written s s' makes }) m mixture);
    }

pub returns-clause-made : goal.returns-clause-made
returns-clause-made g c = record { root = refl; entries = c.enter.ensures.entries }

pub returns-clause-written : goal.returns-clause-written
returns-clause-written g c honest = c.in_default.ensures.written honest

pub returns-clause-held : goal.returns-clause-held
returns-clause-held g c =
    let at = goal.at.returns-clause-held g c in
    settled_keeps c.args.prepared.now.change c.release_replaced.new.layout c.args.prepared.now.edit c.requires.change c.requires.edit.within (settled g at.After-release_replaced) c.carry_out-written.ensures.others

pub returns-clause-on_any_disk : goal.returns-clause-on_any_disk
returns-clause-on_any_disk g c =
    answers_carried_out g.D.Disk.facts c.requires.usable c.in_default.ensures.calls refl
