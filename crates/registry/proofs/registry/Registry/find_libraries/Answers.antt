use Rattle.std.proofs.Common.{◌≡◌, length, map, sym, subst, ◌∙◌}
use Rattle.std.specs.Prelude.{All, sum_by}
use Rattle.sector_disk.specs.Disk.{AreCallsExactly}
use Rattle.states.specs.State.{Library}
use Rattle.requests.specs.Binding.{object_of, objects, preload_numbers}
use Rattle.scope.specs.LoadOrder.{available, load_order}
use Rattle.roots.specs.Root.{listed_preloads}
use Rattle.store.specs.IsRead.{IsRead}
use Rattle.store.specs.Opened.{IsAt}
use Rattle.registry.specs.Binding.{data_sectors}
use Rattle.registry.specs.Found.{Found, IsFindRefusal, IsFoundFor, found_sectors}
use Rattle.registry.specs.declared.walk.Walk.{Walk}
use Rattle.registry.specs.inside.Reading.{IsReadRefusal}
use Rattle.registry.proofs.Closed.{all-known}
use Rattle.registry.proofs.FilesRead.{all_fit}
use Rattle.registry.proofs.FindRefusals.{find_refused, read_damaged}
use Rattle.registry.proofs.StateNames.{numbers_are, object_count}
use Rattle.registry.proofs.States.{own_names, preloads_listed, preloads_once}
use Rattle.std.specs.List.{IsDistinct}
use Rattle.std.proofs.Common.{nat_eq, ◌<◌}
use Rattle.registry.proofs.registry.Registry.find_libraries.Goals as goal

pub returns-in-Err-clause-damaged : goal.returns-in-Err-clause-damaged
returns-in-Err-clause-damaged g c s at is =
    let here : IsAt g.D.Disk.facts c.self.inside.store s = subst (λ k. IsAt g.D.Disk.facts k s) (sym c.self.view_is) at in
    c.in-Err.ensures.damaged s here
    (read_damaged g.D.Disk.facts c.self.inside.store c.read_needed.new.store c.in-Err.refusal c.in-Err.ensures.refusals (sym c.refusal_of_read.ensures ∙ is))

pub returns-in-Err-clause-refusals : goal.returns-in-Err-clause-refusals
returns-in-Err-clause-refusals g c =
    subst (IsFindRefusal g.D.Disk.facts c.args.self.now c.read_needed.new.store) (sym c.refusal_of_read.ensures)
    (find_refused g.D.Disk.facts c.args.self.now c.read_needed.new.store c.in-Err.refusal
    (subst (λ k. IsReadRefusal g.D.Disk.facts k c.read_needed.new.store c.in-Err.refusal) c.self.view_is c.in-Err.ensures.refusals))

pub returns-in-Err-clause-read : goal.returns-in-Err-clause-read
returns-in-Err-clause-read g c = subst (λ k. IsRead g.D.Disk.facts k c.read_needed.new.store) c.self.view_is c.read_needed.ensures.read

pub returns-clause-read : goal.returns-clause-read
returns-clause-read g c = subst (λ k. IsRead g.D.Disk.facts k c.read_needed.new.store) c.self.view_is c.read_needed.ensures.read

pub returns-clause-ok : goal.returns-clause-ok
returns-clause-ok g c s at =
    let start = c.args.self.now in
    let here : IsAt g.D.Disk.facts c.self.inside.store s = subst (λ k. IsAt g.D.Disk.facts k s) (sym c.self.view_is) at in
    let walk : Walk = c.in-Ok.walk in
    let holds = g.met.D.Disk.holds_now start.disk in
    let ks = listed_preloads start.root in
    let inside = preloads_listed g.D.Disk.facts start s at holds in
    let numbers = numbers_are g.D.Disk.facts start s holds at (own_names g.D.Disk.facts start s at holds) inside in
    let count = object_count g.D.Disk.facts start s holds at in
    let low : All (λ p. p < length (objects s)) (preload_numbers s) =
    subst (All (λ p. p < length (objects s))) (sym numbers) (subst (λ n. All (λ p. p < n) ks) (sym count) inside) in
    let once : IsDistinct nat_eq (preload_numbers s) = subst (IsDistinct nat_eq) (sym numbers) (preloads_once g.D.Disk.facts start s at holds) in
    let ordered : load_order c.args.program.now (objects s) (preload_numbers s) ≡ available c.args.program.now (map object_of walk.files.items) = c.in-Ok.ensures.ok s here in
    subst (IsFoundFor s c.args.program.now) (sym c.of.ensures) (record {
      order = ordered;
      lacks = c.in-Ok.ensures.missing s here;
      are = c.in-Ok.ensures.libraries s here;
      known = all-known c.args.program.now (objects s) (preload_numbers s) low once (map object_of walk.files.items) ordered;
    })

pub returns-clause-calls : goal.returns-clause-calls
returns-clause-calls g c =
    subst (λ (found : Found). AreCallsExactly (found_sectors found) (g.D.Disk.facts c.args.self.now.disk) (g.D.Disk.facts c.read_needed.new.store.disk)) (sym c.of.ensures)
    (subst (λ k. AreCallsExactly (sum_by (λ (f : Library). data_sectors f.bytes) c.in-Ok.walk.files.items) (g.D.Disk.facts k.disk) (g.D.Disk.facts c.read_needed.new.store.disk)) c.self.view_is
    c.in-Ok.ensures.all_calls)

pub returns-clause-all_calls : goal.returns-clause-all_calls
returns-clause-all_calls g c s at =
    let here : IsAt g.D.Disk.facts c.self.inside.store s = subst (λ k. IsAt g.D.Disk.facts k s) (sym c.self.view_is) at in
    subst (λ n. AreCallsExactly n (g.D.Disk.facts c.args.self.now.disk) (g.D.Disk.facts c.read_needed.new.store.disk))
    (all_fit c.args.program.now s c.in-Ok.walk.files.items (c.in-Ok.ensures.ok s here))
    (subst (λ k. AreCallsExactly (sum_by (λ (f : Library). data_sectors f.bytes) c.in-Ok.walk.files.items) (g.D.Disk.facts k.disk) (g.D.Disk.facts c.read_needed.new.store.disk)) c.self.view_is
    c.in-Ok.ensures.all_calls)
