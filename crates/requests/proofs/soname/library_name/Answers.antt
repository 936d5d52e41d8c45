use Rattle.std.proofs.Common.{◌≡◌, Some, false, true, ap, subst, ◌∙◌, sym}
use Rattle.elf_dynamic.specs.Strings.{soname}
use Rattle.hash_check.specs.Soname.{has_bad_soname}
use Rattle.hash_check.specs.declared.file_refusal.FileRefusal.TheVariants.{Object}
use Rattle.requests.proofs.Sonames.{name_is, is_fine, is_badly_named, is_refused, taken_memory}
use Rattle.requests.proofs.soname.library_name.Goals as goal

pub returns-in-Ok-library_name-clause-ok : goal.returns-in-Ok-library_name-clause-ok
returns-in-Ok-library_name-clause-ok c =
    let fine : has_bad_soname c.args.file.now ≡ false = subst (λ f. has_bad_soname f ≡ false) c.in-Ok.ensures.same c.in-Ok-library_name.ensures.ok in
    is_fine c.args.file.now c.in-Ok.ensures.ok fine

pub returns-in-Ok-library_name-clause-memory : goal.returns-in-Ok-library_name-clause-memory
returns-in-Ok-library_name-clause-memory c =
    let fine : has_bad_soname c.args.file.now ≡ false = subst (λ f. has_bad_soname f ≡ false) c.in-Ok.ensures.same c.in-Ok-library_name.ensures.ok in
    taken_memory c.args.file.now (is_fine c.args.file.now c.in-Ok.ensures.ok fine)

pub returns-in-Ok-library_name-clause-name : goal.returns-in-Ok-library_name-clause-name
returns-in-Ok-library_name-clause-name c =
    let named : soname c.args.file.now ≡ Some c.in-Ok-library_name.name.now =
    subst (λ f. soname f ≡ Some c.in-Ok-library_name.name.now) c.in-Ok.ensures.same c.in-Ok-library_name.ensures.name in
    name_is c.args.file.now c.in-Ok-library_name.name.now named

pub returns-in-Ok-library_name-clause-library : goal.returns-in-Ok-library_name-clause-library
returns-in-Ok-library_name-clause-library c =
    let fine : has_bad_soname c.args.file.now ≡ false = subst (λ f. has_bad_soname f ≡ false) c.in-Ok.ensures.same c.in-Ok-library_name.ensures.ok in
    let named : soname c.args.file.now ≡ Some c.in-Ok-library_name.name.now =
    subst (λ f. soname f ≡ Some c.in-Ok-library_name.name.now) c.in-Ok.ensures.same c.in-Ok-library_name.ensures.name in
    record { accepted = is_fine c.args.file.now c.in-Ok.ensures.ok fine; named = named }

pub returns-in-Err-clause-refused : goal.returns-in-Err-clause-refused
returns-in-Err-clause-refused c =
    let bad : has_bad_soname c.args.file.now ≡ true = subst (λ f. has_bad_soname f ≡ true) c.in-Ok.ensures.same c.in-Err.ensures.refused in
    is_badly_named c.args.file.now c.in-Ok.ensures.ok bad ∙ ap (λ r. Some (Object r)) (sym c.in-Err.ensures.err)

pub returns-in-Err-File-clause-refused : goal.returns-in-Err-File-clause-refused
returns-in-Err-File-clause-refused c = is_refused c.args.file.now c.in-Err-File.refusal (rw c.in-Err-File.field-0-is at c.in-Err-File.ensures.refused)

pub returns-in-Err-clause-ok : goal.returns-in-Err-clause-ok
returns-in-Err-clause-ok c = tt

pub returns-in-Err-clause-name : goal.returns-in-Err-clause-name
returns-in-Err-clause-name c = tt

pub returns-in-Err-clause-library : goal.returns-in-Err-clause-library
returns-in-Err-clause-library c = tt

pub returns-in-Err-clause-memory : goal.returns-in-Err-clause-memory
returns-in-Err-clause-memory c = tt
