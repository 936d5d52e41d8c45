use Rattle.std.proofs.Common.{sym, ◌∙◌}
use Rattle.std.proofs.lemmas.Result.{err_from_is_err_and}
use Rattle.store.specs.Stands.{no_library}
use Rattle.std.specs.Prelude.{slice_index_or}
use Rattle.store.proofs.IsReadLemmas.{read_one}
use Rattle.requests.specs.Library.{IsLibrary}
use Rattle.registry.proofs.Files.{same_library}
use Rattle.registry.proofs.admit.admit_at.Goals as goal

pub returns-in_err-bytes-clause-read : goal.returns-in_err-bytes-clause-read
returns-in_err-bytes-clause-read g c = read_one c.read_blob_into.ensures

pub returns-clause-read : goal.returns-clause-read
returns-clause-read g c = read_one c.read_blob_into.ensures

pub returns-in_err-see_library-clause-read : goal.returns-in_err-see_library-clause-read
returns-in_err-see_library-clause-read g c = read_one c.read_blob_into.ensures

pub returns-in_err-see_library-clause-damaged : goal.returns-in_err-see_library-clause-damaged
returns-in_err-see_library-clause-damaged g c s at =
    let p = err_from_is_err_and c.from_residual-in_err-see_library.result c.from_residual-in_err-see_library.ensures.1 in
    rw p.1 (λ is. same_library (λ l. IsLibrary l → ⊥) c.name.result.now c.deref.result.now (slice_index_or s.libraries c.args.position no_library)
    (c.name.ensures.state s (c.read_blob_into.ensures.same s at)) (c.deref.ensures.value ∙ c.in_ok-bytes.ensures.ok s at) (c.in_err-see_library.ensures.damaged (sym p.2 ∙ is)))

pub returns-clause-ok : goal.returns-clause-ok
returns-clause-ok g c s at =
    same_library IsLibrary c.name.result.now c.deref.result.now (slice_index_or s.libraries c.args.position no_library)
    (c.name.ensures.state s (c.read_blob_into.ensures.same s at)) (c.deref.ensures.value ∙ c.in_ok-bytes.ensures.ok s at) c.in_ok-see_library.ensures.ok
