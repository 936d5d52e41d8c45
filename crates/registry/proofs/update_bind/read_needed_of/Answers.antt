use Rattle.std.proofs.Common.{◌≡◌, ◌+◌, ◌-◌, ◌∙◌, ℕ, All, List, length, sum_by, get_or, refl, sym, ap, subst, arith}
use Rattle.std.proofs.lemmas.List.{length_push}
use Rattle.std.proofs.lemmas.List.Elements.{All-nil, All-push}
use Rattle.std.proofs.lemmas.Result.{err_from_is_err_and}
use Rattle.scope.specs.Queue.{AreApart}
use Rattle.sector_disk.specs.Disk.{AreCallsAtMost, AreCallsExactly}
use Rattle.sector_disk.proofs.Moments.{at_most_sum, exactly_at_most, exactly_none, exactly_sum}
use Rattle.states.specs.State.{Library}
use Rattle.store.specs.Stands.{HaveOwnNames, no_library}
use Rattle.requests.specs.Library.{IsLibrary}
use Rattle.registry.specs.inside.Drafting.{IsDraftReadRefusal, ReadsBeside}
use Rattle.registry.specs.Binding.{bind_sectors, data_sectors}
use Rattle.registry.specs.inside.Walked.{IsAmong}
use Rattle.registry.proofs.Sources.{one_more}
use Rattle.registry.proofs.DraftBinds.{draft_names, reads_more, reads_none, reads_refused}
use Rattle.registry.proofs.FilesRead.{all_fit, all_read, libraries_read, missing_read, next_fits, next_is_library}
use Rattle.registry.proofs.update_bind.read_needed_of.Goals as goal

pub loop-alloc-init : goal.loop-alloc-init
loop-alloc-init g c =
    let start = c.args.draft.now in
    let none = c.in_ok-walk.ensures.none in
    record {
      among = c.in_ok-walk.ensures.among;
      walked = λ s d at. c.in_ok-walk.ensures.ok start.entries d (draft_names at c.entries_are_sound.ensures);
      libraries = subst (All IsLibrary) (sym none) (All-nil IsLibrary);
      own = c.entries_are_sound.ensures;
      read = reads_none start;
      calls = subst (λ (files : List Library). AreCallsExactly (sum_by (λ (f : Library). data_sectors f.bytes) files) (g.D.Disk.facts start.store.disk) (g.D.Disk.facts start.store.disk)) (sym none)
          (exactly_none (g.D.Disk.facts start.store.disk));
    }

pub next_position-requires-clause-next : goal.next_position-requires-clause-next
next_position-requires-clause-next g c = c.loop-alloc-test.ensures.yes refl

pub next_position-requires-clause-first : goal.next_position-requires-clause-first
next_position-requires-clause-first g c = c.loop-alloc.invariant.among.places.first

pub read_drafted-requires : goal.read_drafted-requires
read_drafted-requires g c =
    let come = c.loop-alloc.invariant in
    omega (arith, c.next_position.ensures.inside, come.among.places.limit, ap length come.read.draft.entries)

pub take-requires-clause-next : goal.take-requires-clause-next
take-requires-clause-next g c = c.loop-alloc-test.ensures.yes refl

pub take-requires-clause-among : goal.take-requires-clause-among
take-requires-clause-among g c =
    let come = c.loop-alloc.invariant in
    let reads = reads_more come.read c.read_drafted.ensures.read in
    subst (λ (n : ℕ). IsAmong n c.loop-alloc.walk.needs c.loop-alloc.walk.files.items) (sym (ap length reads.draft.entries)) come.among

pub loop-alloc-preserved : goal.loop-alloc-preserved
loop-alloc-preserved g c =
    let facts = g.D.Disk.facts in
    let start = c.args.draft.now in
    let come = c.loop-alloc.invariant in
    let mid = c.read_drafted.new.draft in
    let reads : ReadsBeside facts start mid = reads_more come.read c.read_drafted.ensures.read in
    let own : HaveOwnNames mid.entries = subst HaveOwnNames (sym reads.draft.entries) come.own in
    record {
      among = subst (λ (n : ℕ). IsAmong n c.take.new.self.needs c.take.new.self.files.items) (ap length reads.draft.entries) c.in_ok-take.ensures.among;
      walked = λ s d at.
          c.in_ok-take.ensures.walked c.args.program.now mid.entries d (draft_names (reads.same s d at) own) (come.walked s d at)
          (c.in_ok-file.ensures.ok s d (come.read.same s d at) ∙ ap (λ (k : ℕ). get_or d.libraries k no_library) c.next_position.ensures.next);
      libraries = subst (All IsLibrary) (sym c.in_ok-take.ensures.behind) (All-push IsLibrary c.loop-alloc.walk.files.items c.in_ok-file.file come.libraries c.in_ok-file.ensures.library);
      own = come.own;
      read = reads;
      calls = subst (λ (files : List Library). AreCallsExactly (sum_by (λ (f : Library). data_sectors f.bytes) files) (facts start.store.disk) (facts mid.store.disk)) (sym c.in_ok-take.ensures.behind)
          (exactly_sum come.calls c.in_ok-file.ensures.all_calls (one_more c.loop-alloc.walk.files.items c.in_ok-file.file));
    }

pub loop-alloc-smaller : goal.loop-alloc-smaller
loop-alloc-smaller g c =
    let longer : length c.take.new.self.files.items ≡ length c.loop-alloc.walk.files.items + 1 = ap length c.in_ok-take.ensures.behind ∙ length_push c.loop-alloc.walk.files.items c.in_ok-file.file in
    omega (arith, longer, c.loop-alloc-test.ensures.few, c.loop-alloc.invariant.among.places.limit, c.loop-alloc.invariant.among.within)

pub returns-in_err-walk-clause-read : goal.returns-in_err-walk-clause-read
returns-in_err-walk-clause-read g c = reads_none c.args.draft.now

pub returns-in_err-file-clause-read : goal.returns-in_err-file-clause-read
returns-in_err-file-clause-read g c = reads_more c.loop-alloc.invariant.read c.read_drafted.ensures.read

pub returns-in_err-take-clause-read : goal.returns-in_err-take-clause-read
returns-in_err-take-clause-read g c = reads_more c.loop-alloc.invariant.read c.read_drafted.ensures.read

pub returns-in_err-file-clause-damaged : goal.returns-in_err-file-clause-damaged
returns-in_err-file-clause-damaged g c s d at =
    let come = c.loop-alloc.invariant in
    let p = err_from_is_err_and c.from_residual-in_err-file.result c.from_residual-in_err-file.ensures.1 in
    let walked = come.walked s d at in
    let apart : AreApart (length d.libraries + 1) c.loop-alloc.walk.needs.places.places =
    subst (λ k. AreApart k c.loop-alloc.walk.needs.places.places) walked.among.places.limit c.loop-alloc-test.ensures.apart in
    rw p.1 (λ is all. c.in_err-file.ensures.damaged s d (come.read.same s d at) (sym p.2 ∙ is)
    (subst (λ (k : ℕ). IsLibrary (get_or d.libraries k no_library)) (sym c.next_position.ensures.next)
    (next_is_library c.args.program.now d walked apart (c.loop-alloc-test.ensures.yes refl) all)))

pub returns-in_err-file-clause-refusals : goal.returns-in_err-file-clause-refusals
returns-in_err-file-clause-refusals g c =
    let p = err_from_is_err_and c.from_residual-in_err-file.result c.from_residual-in_err-file.ensures.1 in
    rw p.1 (reads_refused c.read_drafted.new.draft p.0 c.loop-alloc.invariant.read
    (subst (IsDraftReadRefusal g.D.Disk.facts c.loop-alloc.draft c.read_drafted.new.draft) (sym p.2) c.in_err-file.ensures.refusals))

pub returns-clause-libraries : goal.returns-clause-libraries
returns-clause-libraries g c s d at =
    libraries_read c.args.program.now d (c.loop-alloc.invariant.walked s d at) (c.loop-alloc-test.ensures.no refl) c.loop-alloc.invariant.libraries

pub returns-clause-ok : goal.returns-clause-ok
returns-clause-ok g c s d at = all_read c.args.program.now d (c.loop-alloc.invariant.walked s d at) (c.loop-alloc-test.ensures.no refl)

pub returns-clause-missing : goal.returns-clause-missing
returns-clause-missing g c s d at = missing_read c.args.program.now d (c.loop-alloc.invariant.walked s d at) (c.loop-alloc-test.ensures.no refl)

pub returns-clause-read : goal.returns-clause-read
returns-clause-read g c = c.loop-alloc.invariant.read

pub returns-in_err-walk-clause-calls : goal.returns-in_err-walk-clause-calls
returns-in_err-walk-clause-calls g c s d at = exactly_at_most (exactly_none (g.D.Disk.facts c.args.draft.now.store.disk)) (omega arith)

pub returns-in_err-file-clause-calls : goal.returns-in_err-file-clause-calls
returns-in_err-file-clause-calls g c s d at =
    let come = c.loop-alloc.invariant in
    let walked = come.walked s d at in
    let apart : AreApart (length d.libraries + 1) c.loop-alloc.walk.needs.places.places =
    subst (λ k. AreApart k c.loop-alloc.walk.needs.places.places) walked.among.places.limit c.loop-alloc-test.ensures.apart in
    at_most_sum (exactly_at_most {most = sum_by (λ (f : Library). data_sectors f.bytes) c.loop-alloc.walk.files.items} come.calls (omega arith))
    (c.read_drafted.ensures.calls s d (come.read.same s d at))
    (omega (
      arith,
      next_fits c.args.program.now d walked apart (c.loop-alloc-test.ensures.yes refl),
      ap (λ (k : ℕ). data_sectors (get_or d.libraries k no_library).bytes) c.next_position.ensures.next,
    ))

pub returns-in_err-take-clause-calls : goal.returns-in_err-take-clause-calls
returns-in_err-take-clause-calls g c s d at =
    let come = c.loop-alloc.invariant in
    let walked = come.walked s d at in
    let apart : AreApart (length d.libraries + 1) c.loop-alloc.walk.needs.places.places =
    subst (λ k. AreApart k c.loop-alloc.walk.needs.places.places) walked.among.places.limit c.loop-alloc-test.ensures.apart in
    at_most_sum (exactly_at_most {most = sum_by (λ (f : Library). data_sectors f.bytes) c.loop-alloc.walk.files.items} come.calls (omega arith))
    (c.read_drafted.ensures.calls s d (come.read.same s d at))
    (omega (
      arith,
      next_fits c.args.program.now d walked apart (c.loop-alloc-test.ensures.yes refl),
      ap (λ (k : ℕ). data_sectors (get_or d.libraries k no_library).bytes) c.next_position.ensures.next,
    ))

pub returns-clause-all_calls : goal.returns-clause-all_calls
returns-clause-all_calls g c s d at =
    let come = c.loop-alloc.invariant in
    subst (λ n. AreCallsExactly n (g.D.Disk.facts c.args.draft.now.store.disk) (g.D.Disk.facts c.loop-alloc.draft.store.disk))
    (all_fit c.args.program.now d c.loop-alloc.walk.files.items (all_read c.args.program.now d (come.walked s d at) (c.loop-alloc-test.ensures.no refl))) come.calls

pub returns-clause-calls : goal.returns-clause-calls
returns-clause-calls g c s d at = exactly_at_most (returns-clause-all_calls g c s d at) (omega arith)
