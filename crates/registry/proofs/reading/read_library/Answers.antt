use Rattle.std.proofs.Common.{IfOk, IfErr, sym, ap, subst, ◌≡◌, ◌∙◌}
use Rattle.std.specs.Prelude.{slice_index_or, length}
use Rattle.std.specs.Int.{div_ceil}
use Rattle.std.proofs.lemmas.Result.{IfOk-weaker, err_from_is_err_and}
use Rattle.sector_disk.specs.Disk.{sector_bytes, AreCallsExactly}
use Rattle.store.specs.Stands.{no_library}
use Rattle.store.specs.declared.refusal.StoreRefusal.TheVariants.{Damaged}
use Rattle.requests.specs.Library.{IsLibrary}
use Rattle.states.specs.State.{Library}
use Rattle.registry.proofs.Files.{same_library}
use Rattle.registry.proofs.Sources.{files_read}
use Rattle.registry.proofs.reading.read_library.Goals as goal

pub returns-in_err-bytes-clause-damaged : goal.returns-in_err-bytes-clause-damaged
returns-in_err-bytes-clause-damaged g c s has =
    let p = err_from_is_err_and c.from_residual.result c.from_residual.ensures.1 in
    rw p.1 (λ is library. c.in_err-bytes.ensures.whole s has (sym p.2 ∙ is))

pub returns-clause-ok : goal.returns-clause-ok
returns-clause-ok g c s has =
    same_library (λ l. IfOk c.new.result (λ file. file ≡ l)) c.name_at.result.now _ (slice_index_or s.libraries c.args.position no_library)
    (c.name_at.ensures s (files_read g.D.Disk.facts c.args.store.now c.read_at.new.store c.read_at.ensures.read c.args.source s has)) (c.in_ok-bytes.ensures.ok s has) c.new.ensures.ok

pub returns-clause-damaged : goal.returns-clause-damaged
returns-clause-damaged g c s has =
    same_library (λ l. IfErr c.new.result (λ e. e ≡ Damaged → IsLibrary l → ⊥)) c.name_at.result.now _ (slice_index_or s.libraries c.args.position no_library)
    (c.name_at.ensures s (files_read g.D.Disk.facts c.args.store.now c.read_at.new.store c.read_at.ensures.read c.args.source s has)) (c.in_ok-bytes.ensures.ok s has) c.new.ensures.damaged

pub returns-clause-all_calls : goal.returns-clause-all_calls
returns-clause-all_calls g c entries has =
    IfOk-weaker c.new.result _ (λ (file : Library). AreCallsExactly (div_ceil (length file.bytes) sector_bytes) (g.D.Disk.facts c.args.store.now.disk) (g.D.Disk.facts c.read_at.new.store.disk))
    (λ file is. subst (λ n. AreCallsExactly (div_ceil n sector_bytes) (g.D.Disk.facts c.args.store.now.disk) (g.D.Disk.facts c.read_at.new.store.disk))
    (sym (ap (λ (l : Library). length l.bytes) is)) (c.in_ok-bytes.ensures.all_calls entries has))
    c.new.ensures.ok
