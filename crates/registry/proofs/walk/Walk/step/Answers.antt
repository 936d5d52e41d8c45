use Rattle.std.proofs.Common.{◌≡◌, ◌-◌, ℕ, List, get_or, sym, ap, subst, ◌∙◌}
use Rattle.std.proofs.lemmas.Result.{err_from_is_err_and}
use Rattle.sector_disk.specs.Disk.{DiskFacts, AreCallsAtMost}
use Rattle.store.specs.IsRead.{file_sectors}
use Rattle.store.specs.Stands.{no_library}
use Rattle.store.specs.declared.placed_entry.PlacedEntry.{PlacedEntry}
use Rattle.requests.specs.Library.{IsLibrary}
use Rattle.registry.specs.inside.Walked.{IsAmong, next_place}
use Rattle.registry.proofs.Sources.{are_names, count_read, offers_read}
use Rattle.registry.proofs.walk.Walk.step.Goals as goal

-- if two positions are equal, the number of calls for the file is the same
calls_at : {old new : DiskFacts} (position next : ℕ) → position ≡ next → (entries : List PlacedEntry) (d : PlacedEntry) → AreCallsAtMost (file_sectors (get_or entries position d)) old new
    → AreCallsAtMost (file_sectors (get_or entries next d)) old new
calls_at {old = old} {new = new} position next is entries d calls = subst (λ k. AreCallsAtMost (file_sectors (get_or entries k d)) old new) is calls

pub returns-in_err-file-clause-damaged : goal.returns-in_err-file-clause-damaged
returns-in_err-file-clause-damaged g c s has =
    let p = err_from_is_err_and c.from_residual.result c.from_residual.ensures.1 in
    let named : c.next_position-position.result ≡ next_place c.args.self.now.needs c.args.self.now.files.items - 1 = c.next_position-position.ensures.next in
    rw p.1 (λ is library. c.in_err-file.ensures.damaged s has (sym p.2 ∙ is)
    (subst (λ (k : ℕ). IsLibrary (get_or s.libraries k no_library)) (sym named) library))

pub returns-clause-walked : goal.returns-clause-walked
returns-clause-walked g c program entries s offers so_far =
    let after = offers_read g.D.Disk.facts c.args.store.now c.read_library.new.store c.read_library.ensures.read c.args.source offers in
    c.in_ok-take.ensures.walked program entries s (are_names g.D.Disk.facts c.args.source entries s c.read_library.new.store after) so_far
    (c.in_ok-file.ensures.ok s offers.files ∙ ap (λ (k : ℕ). get_or s.libraries k no_library) c.next_position-position.ensures.next)

pub returns-in_err-file-clause-calls : goal.returns-in_err-file-clause-calls
returns-in_err-file-clause-calls g c entries has d = calls_at _ _ c.next_position-position.ensures.next entries d (c.read_library.ensures.calls entries has d)

pub returns-in_err-file-clause-read : goal.returns-in_err-file-clause-read
returns-in_err-file-clause-read g c = c.read_library.ensures.read

pub returns-in_err-take-clause-calls : goal.returns-in_err-take-clause-calls
returns-in_err-take-clause-calls g c entries has d = calls_at _ _ c.next_position-position.ensures.next entries d (c.read_library.ensures.calls entries has d)

pub returns-in_err-take-clause-read : goal.returns-in_err-take-clause-read
returns-in_err-take-clause-read g c = c.read_library.ensures.read

pub returns-clause-calls : goal.returns-clause-calls
returns-clause-calls g c entries has d = calls_at _ _ c.next_position-position.ensures.next entries d (c.read_library.ensures.calls entries has d)

pub returns-clause-read : goal.returns-clause-read
returns-clause-read g c = c.read_library.ensures.read

pub returns-clause-next : goal.returns-clause-next
returns-clause-next g c = record {
  file = c.in_ok-file.file;
  behind = c.in_ok-take.ensures.behind;
  library = c.in_ok-file.ensures.library;
  is = λ s has. c.in_ok-file.ensures.ok s has ∙ ap (λ (k : ℕ). get_or s.libraries k no_library) c.next_position-position.ensures.next;
  calls = c.in_ok-file.ensures.all_calls;
}

pub returns-clause-among : goal.returns-clause-among
returns-clause-among g c =
    subst (λ (n : ℕ). IsAmong n c.take.new.self.needs c.take.new.self.files.items) (count_read g.D.Disk.facts c.args.store.now c.read_library.new.store c.read_library.ensures.read c.args.source)
    c.in_ok-take.ensures.among

pub take-requires-clause-among : goal.take-requires-clause-among
take-requires-clause-among g c =
    subst (λ (n : ℕ). IsAmong n c.args.self.now.needs c.args.self.now.files.items) (sym (count_read g.D.Disk.facts c.args.store.now c.read_library.new.store c.read_library.ensures.read c.args.source))
    c.requires.among
