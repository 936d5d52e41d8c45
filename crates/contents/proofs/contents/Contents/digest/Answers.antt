use Rattle.std.proofs.Common.{◌≡◌, Result, Ok, Err, sym, ap, subst, ◌∙◌}
use Rattle.std.specs.Int.{div_ceil}
use Rattle.sector_disk.specs.Disk.{AreCallsExactly}
use Rattle.sha2.specs.Sha256.{sha256}
use Rattle.contents.proofs.contents.Contents.digest.Goals as goal

other : {T E : Type 0} (t : T) (e : E) → ◌≡◌ {A = Result T E} (Ok t) (Err e) → ⊥
other t e h = cc

-- if two errors are equal in results of one type, they are equal in results of another type
again : {T U E : Type 0} (e f : E) → ◌≡◌ {A = Result T E} (Err e) (Err f) → ◌≡◌ {A = Result U E} (Err e) (Err f)
again {T = T} {U = U} {E = E} e f h =
    let same : e ≡ f = cc in
    ap (λ (x : E). let r : Result U E = Err x in r) same

pub returns-in-Ok-clause-only : goal.returns-in-Ok-clause-only
returns-in-Ok-clause-only g c s at bytes has = c.digest.ensures ∙ ap sha256 (sym (c.in-Ok.ensures.only s at bytes has))

pub returns-in-Ok-clause-not_installed : goal.returns-in-Ok-clause-not_installed
returns-in-Ok-clause-not_installed g c s at =
    (λ is. absurd (other _ _ is), λ none. absurd (other _ _ ((c.in-Ok.ensures.not_installed s at).1 none)))

pub returns-in-Err-clause-not_installed : goal.returns-in-Err-clause-not_installed
returns-in-Err-clause-not_installed g c s at =
    let same = c.in-Err.ensures.not_installed s at in
    (λ is. same.0 (again _ _ is), λ none. again _ _ (same.1 none))

pub returns-in-Ok-clause-all_calls : goal.returns-in-Ok-clause-all_calls
returns-in-Ok-clause-all_calls g c placed has =
    subst (λ n. AreCallsExactly (div_ceil n 512) (g.D.Disk.facts c.args.self.now.disk) (g.D.Disk.facts c.file.new.self.disk)) (c.in-Ok.ensures.length placed has) c.in-Ok.ensures.all_calls
