use Rattle.std.proofs.Common.{◌≡◌, ◌+◌, ◌++◌, ◌∷◌, ◌∙◌, [], ℕ, List, All, length, sum_by, refl, sym, ap, subst, arith}
use Rattle.std.proofs.lemmas.List.{length_push}
use Rattle.std.proofs.lemmas.List.Elements.{All-nil, All-push}
use Rattle.std.proofs.lemmas.Result.{err_from_is_err_and}
use Rattle.scope.specs.Queue.{AreApart}
use Rattle.requests.specs.Library.{IsLibrary}
use Rattle.registry.specs.declared.source.Source.TheVariants.{Current}
use Rattle.registry.specs.inside.Source.{offered}
use Rattle.registry.specs.inside.Walked.{IsAmong, IsWalked}
use Rattle.store.proofs.IsReadLemmas.{read_more, read_none}
use Rattle.registry.proofs.FilesRead.{all_read, libraries_read, missing_read, next_is_library}
use Rattle.registry.proofs.Sources.{are_names, HasCome, come_more, come_offers, count_read, entries_read, offers_current}
use Rattle.sector_disk.specs.Disk.{AreCallsExactly}
use Rattle.sector_disk.proofs.Moments.{exactly_none}
use Rattle.states.specs.State.{Library, State}
use Rattle.store.specs.Opened.{IsAt}
use Rattle.registry.specs.Binding.{data_sectors}
use Rattle.registry.specs.inside.Reading.{IsReadRefusal}
use Rattle.registry.proofs.Files.{refused_more}
use Rattle.registry.proofs.needed.read_needed.Goals as goal

pub loop-source-preserved : goal.loop-source-preserved
loop-source-preserved g c =
    let more = c.in_ok-step.ensures.next in
    let come = c.loop-source.invariant in
    let start = c.args.store.now in
    let offers = come_offers g.D.Disk.facts (g.met.D.Disk.holds_now start.disk) come in
    let few : offered Current c.loop-source.store ≡ length start.entries = count_read g.D.Disk.facts start c.loop-source.store come.read Current in
    let walked = λ (s : State) (at : IsAt g.D.Disk.facts start s).
    subst (IsWalked c.args.program.now s c.step.new.self.needs) more.behind (c.in_ok-step.ensures.walked c.args.program.now start.entries s (offers s at) (come.walked s at)) in
    subst (HasCome g.D.Disk.facts c.args.program.now c.args.store.now c.step.new.store c.step.new.self.needs) (sym more.behind)
    (come_more g.D.Disk.facts come c.step.ensures.read more.file (All-push IsLibrary c.loop-source.walk.files.items more.file come.libraries more.library)
    (subst (λ (n : ℕ). IsAmong n c.step.new.self.needs (c.loop-source.walk.files.items ++ more.file ∷ [])) few
    (subst (IsAmong (offered Current c.loop-source.store) c.step.new.self.needs) more.behind c.in_ok-step.ensures.among))
    walked
    (more.calls start.entries (entries_read g.D.Disk.facts start c.loop-source.store come.read Current start.entries refl)))

pub loop-source-smaller : goal.loop-source-smaller
loop-source-smaller g c =
    let more = c.in_ok-step.ensures.next in
    let longer : length c.step.new.self.files.items ≡ length c.loop-source.walk.files.items + 1 = ap length more.behind ∙ length_push c.loop-source.walk.files.items more.file in
    omega (arith, longer, c.loop-source-test.ensures.few, c.loop-source.invariant.among.places.limit, c.loop-source.invariant.among.within)

pub returns-in_err-step-clause-read : goal.returns-in_err-step-clause-read
returns-in_err-step-clause-read g c = read_more c.loop-source.invariant.read c.step.ensures.read

pub returns-in_err-step-clause-damaged : goal.returns-in_err-step-clause-damaged
returns-in_err-step-clause-damaged g c s at =
    let start = c.args.store.now in
    let come = c.loop-source.invariant in
    let p = err_from_is_err_and c.from_residual-in_err-step.result c.from_residual-in_err-step.ensures.1 in
    let walked = come.walked s at in
    let apart : AreApart (length s.libraries + 1) c.loop-source.walk.needs.places.places =
    subst (λ k. AreApart k c.loop-source.walk.needs.places.places) walked.among.places.limit c.loop-source-test.ensures.apart in
    rw p.1 (λ is all. c.in_err-step.ensures.damaged s (come.read.same s at) (sym p.2 ∙ is)
    (next_is_library c.args.program.now s walked apart (c.loop-source-test.ensures.yes refl) all))

pub returns-clause-libraries : goal.returns-clause-libraries
returns-clause-libraries g c s at =
    libraries_read c.args.program.now s (c.loop-source.invariant.walked s at) (c.loop-source-test.ensures.no refl) c.loop-source.invariant.libraries

pub returns-clause-ok : goal.returns-clause-ok
returns-clause-ok g c s at =
    all_read c.args.program.now s (c.loop-source.invariant.walked s at) (c.loop-source-test.ensures.no refl)

pub returns-clause-missing : goal.returns-clause-missing
returns-clause-missing g c s at =
    missing_read c.args.program.now s (c.loop-source.invariant.walked s at) (c.loop-source-test.ensures.no refl)

pub returns-in_err-walk-clause-read : goal.returns-in_err-walk-clause-read
returns-in_err-walk-clause-read g c = read_none c.args.store.now

pub returns-clause-read : goal.returns-clause-read
returns-clause-read g c = c.loop-source.invariant.read

pub returns-clause-all_calls : goal.returns-clause-all_calls
returns-clause-all_calls g c = c.loop-source.invariant.calls

pub returns-in_err-step-clause-refusals : goal.returns-in_err-step-clause-refusals
returns-in_err-step-clause-refusals g c =
    let p = err_from_is_err_and c.from_residual-in_err-step.result c.from_residual-in_err-step.ensures.1 in
    rw p.1 (refused_more c.step.new.store p.0 c.loop-source.invariant.read
    (subst (IsReadRefusal g.D.Disk.facts c.loop-source.store c.step.new.store) (sym p.2) c.in_err-step.ensures.refusals))

pub step-requires-clause-next : goal.step-requires-clause-next
step-requires-clause-next g c = c.loop-source-test.ensures.yes refl

pub loop-source-init : goal.loop-source-init
loop-source-init g c =
    let start = c.args.store.now in
    let none = c.in_ok-walk.ensures.none in
    let disk = g.D.Disk.facts start.disk in
    record {
      among = c.in_ok-walk.ensures.among;
      walked = λ s at. c.in_ok-walk.ensures.ok start.entries s (are_names g.D.Disk.facts Current start.entries s start (offers_current g.D.Disk.facts start s (g.met.D.Disk.holds_now start.disk) c.entries_are_sound.ensures.own_names at));
      libraries = subst (All IsLibrary) (sym none) (All-nil IsLibrary);
      own = c.entries_are_sound.ensures.own_names;
      read = read_none start;
      calls = subst (λ (files : List Library). AreCallsExactly (sum_by (λ (f : Library). data_sectors f.bytes) files) disk disk) (sym none) (exactly_none disk);
    }
