use Rattle.std.proofs.Common.{◌≡◌, ◌<◌, length, get_or, refl, sym, subst, arith}
use Rattle.std.specs.Int.{div_ceil}
use Rattle.std.specs.Prelude.{IfOk}
use Rattle.sector_disk.specs.Disk.{AreCallsExactly, AreCallsAtMost}
use Rattle.sector_disk.proofs.Moments.{exactly_none, exactly_at_most}
use Rattle.store.specs.IsRead.{file_sectors}
use Rattle.store.specs.Opened.{IsAt}
use Rattle.store.specs.Stands.{HaveOwnNames, name_of, no_library}
use Rattle.store.specs.declared.placed_entry.PlacedEntry.{PlacedEntry}
use Rattle.store.proofs.UsedAlone.{no_entry}
use Rattle.contents.proofs.contents.Contents.file.Goals as goal
use Rattle.contents.proofs.Files.{entry_at, has_file, no_other, none_named, named_at, of_length}

pub returns-in-Some-clause-ok : goal.returns-in-Some-clause-ok
returns-in-Some-clause-ok g c s at =
    let here = subst (λ store. IsAt g.D.Disk.facts store s) (sym c.self.view_is) at in
    has_file s c.args.name.now c.in-Some.position c.read.result (c.in-Some.ensures.state s here) (c.read.ensures.ok s at)

pub returns-in-Some-clause-only : goal.returns-in-Some-clause-only
returns-in-Some-clause-only g c s at =
    let here = subst (λ store. IsAt g.D.Disk.facts store s) (sym c.self.view_is) at in
    no_other s c.args.name.now c.in-Some.position c.read.result (c.in-Some.ensures.state s here) (c.read.ensures.ok s at)

pub returns-in-Some-clause-not_installed : goal.returns-in-Some-clause-not_installed
returns-in-Some-clause-not_installed g c s at =
    let here = subst (λ store. IsAt g.D.Disk.facts store s) (sym c.self.view_is) at in
    let named = named_at s c.args.name.now c.in-Some.position (c.in-Some.ensures.state s here) in
    (λ is. absurd (c.read.ensures.installed is), λ none. absurd (none c.in-Some.position no_library named.0 named.1))

pub returns-in-Some-clause-all_calls : goal.returns-in-Some-clause-all_calls
returns-in-Some-clause-all_calls g c = of_length
    (λ n. AreCallsExactly (div_ceil n 512) (g.D.Disk.facts c.args.self.now.disk) (g.D.Disk.facts c.read.new.self.disk)) _ c.read.result
    (c.read.ensures.all_calls no_entry) (c.read.ensures.length no_entry)

pub returns-in-Some-clause-calls : goal.returns-in-Some-clause-calls
returns-in-Some-clause-calls g c placed has =
    let is : get_or c.args.self.now.entries c.in-Some.position placed ≡ placed = entry_at c.args.self.now.entries c.args.name.now c.in-Some.position placed
    (subst (λ store. HaveOwnNames store.entries) c.self.view_is c.position.ensures.own_names)
    (subst (λ store. (c.in-Some.position < length store.entries) × ((d : PlacedEntry) → name_of (get_or store.entries c.in-Some.position d).entry ≡ c.args.name.now)) c.self.view_is c.in-Some.ensures.some)
    has in
    subst (λ p. AreCallsAtMost (file_sectors p) (g.D.Disk.facts c.args.self.now.disk) (g.D.Disk.facts c.read.new.self.disk)) is (c.read.ensures.calls placed)

pub returns-in-Some-clause-length : goal.returns-in-Some-clause-length
returns-in-Some-clause-length g c placed has =
    let is : get_or c.args.self.now.entries c.in-Some.position placed ≡ placed = entry_at c.args.self.now.entries c.args.name.now c.in-Some.position placed
    (subst (λ store. HaveOwnNames store.entries) c.self.view_is c.position.ensures.own_names)
    (subst (λ store. (c.in-Some.position < length store.entries) × ((d : PlacedEntry) → name_of (get_or store.entries c.in-Some.position d).entry ≡ c.args.name.now)) c.self.view_is c.in-Some.ensures.some)
    has in
    subst (λ p. IfOk c.read.result (λ bytes. length bytes.items ≡ p.entry.file_length)) is (c.read.ensures.length placed)

pub returns-in-None-clause-calls : goal.returns-in-None-clause-calls
returns-in-None-clause-calls g c placed has = exactly_at_most (exactly_none (g.D.Disk.facts c.args.self.now.disk)) (omega arith)

pub returns-in-None-clause-not_installed : goal.returns-in-None-clause-not_installed
returns-in-None-clause-not_installed g c s at =
    let here = subst (λ store. IsAt g.D.Disk.facts store s) (sym c.self.view_is) at in
    (λ _. none_named s c.args.name.now (c.in-None.ensures.state s here), λ _. refl)
