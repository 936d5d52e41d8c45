use Rattle.std.proofs.Common.{IfErr, IfOk, ◌≡◌, length, sym, ap, subst, ◌∙◌}
use Rattle.std.specs.Int.{div_ceil}
use Rattle.std.specs.Prelude.{slice_index_or}
use Rattle.std.proofs.lemmas.Result.{IfOk-weaker}
use Rattle.sector_disk.specs.Disk.{AreCallsExactly, sector_bytes}
use Rattle.states.specs.State.{Library}
use Rattle.store.proofs.UsedAlone.{no_entry}
use Rattle.store.specs.Stands.{no_library}
use Rattle.store.specs.declared.refusal.StoreRefusal.TheVariants.{Damaged}
use Rattle.requests.specs.Library.{IsLibrary}
use Rattle.registry.proofs.DraftBinds.{one_most, reads_one}
use Rattle.registry.proofs.Files.{same_library}
use Rattle.registry.proofs.update_bind.read_drafted.Goals as goal

pub returns-in_err-bytes-clause-read : goal.returns-in_err-bytes-clause-read
returns-in_err-bytes-clause-read g c = reads_one c.read_blob.ensures

pub returns-clause-read : goal.returns-clause-read
returns-clause-read g c = reads_one c.read_blob.ensures

pub returns-clause-ok : goal.returns-clause-ok
returns-clause-ok g c s d at =
    same_library (λ l. IfOk c.new.result (λ file. file ≡ l)) c.name.result.now _ (slice_index_or d.libraries c.args.position no_library)
    (c.name.ensures.state s d (c.read_blob.ensures.same s d at)) (c.in_ok-bytes.ensures.ok s d at) c.new.ensures.ok

pub returns-clause-damaged : goal.returns-clause-damaged
returns-clause-damaged g c s d at =
    same_library (λ l. IfErr c.new.result (λ e. e ≡ Damaged → IsLibrary l → ⊥)) c.name.result.now _ (slice_index_or d.libraries c.args.position no_library)
    (c.name.ensures.state s d (c.read_blob.ensures.same s d at)) (c.in_ok-bytes.ensures.ok s d at) c.new.ensures.damaged

pub returns-in_err-bytes-clause-calls : goal.returns-in_err-bytes-clause-calls
returns-in_err-bytes-clause-calls g c s d at =
    one_most c.read_blob.ensures (length (slice_index_or d.libraries c.args.position no_library).bytes) (sym (c.length.ensures.value no_entry) ∙ c.length.ensures.state s d at)

pub returns-clause-calls : goal.returns-clause-calls
returns-clause-calls g c s d at =
    one_most c.read_blob.ensures (length (slice_index_or d.libraries c.args.position no_library).bytes) (sym (c.length.ensures.value no_entry) ∙ c.length.ensures.state s d at)

pub returns-clause-all_calls : goal.returns-clause-all_calls
returns-clause-all_calls g c =
    let old = g.D.Disk.facts c.args.draft.now.store.disk in
    let new = g.D.Disk.facts c.read_blob.new.self.store.disk in
    IfOk-weaker c.new.result _ (λ (file : Library). AreCallsExactly (div_ceil (length file.bytes) sector_bytes) old new)
    (λ file is. subst (λ n. AreCallsExactly (div_ceil n sector_bytes) old new)
    (sym (c.in_ok-bytes.ensures.read.size no_entry) ∙ sym (ap (λ (l : Library). length l.bytes) is)) (c.in_ok-bytes.ensures.read.all_calls no_entry))
    c.new.ensures.ok
