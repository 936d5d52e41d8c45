-- If all byte strings are libraries, a command that is applied to them is applied to a state of a
-- registry.
use Rattle.std.proofs.Common.{◌≡◌, ℕ, ◌⊎◌, inl, inr, ⊎_elim, List, ◌∷◌, Option, Some, None, All, IsTrue, IsFalse, cond, refl, sym, subst}
use Rattle.std.specs.Option.{option_map}
use Rattle.elf_file.specs.FirstOf.{first_of}
use Rattle.hash_check.specs.declared.file_refusal.FileRefusal.{FileRefusal}
use Rattle.sector_disk.specs.Disk.{Sector, DiskFacts, HoldsNow}
use Rattle.sector_disk.proofs.Moments.{weaken}
use Rattle.store.specs.Opened.{Opened}
use Rattle.store.specs.Stands as sectors
use Rattle.requests.proofs.LibraryLists.{each_left}
use Rattle.requests.specs.Library.{IsLibrary, library_refusal}
use Rattle.states.specs.State.{State}
use Rattle.requests.specs.Phase.{Phase}
use Rattle.requests.specs.Request.{Request, install, replace, remove, set_preloads, bind, list}
use Rattle.requests.specs.Step.{Step, accepted, is_acknowledged, refusal_at}
use Rattle.requests.specs.declared.refusal.Refusal.{Refusal}
use Rattle.requests.specs.declared.refusal.Refusal.TheVariants.{Damaged, Object}
use Rattle.registry.specs.Applied.{Applies, MayLeaveBy, MayLeaveWithin}
use Rattle.registry.specs.Opened.{IsAt}
use Rattle.registry.specs.Stands.{Stands}
use Rattle.registry.specs.Untested.{AppliesUntested, ReadsLibraries, UntestedStep}
use Rattle.registry.specs.Phase.{phase_of}
use Rattle.requests.specs.declared.reply.Reply.{Reply}
use Rattle.requests.specs.declared.reply.Reply.TheVariants.{Bound, Done, Listing, Refused}
use Rattle.registry.proofs.Acknowledging.{step_state}
use Rattle.registry.proofs.Bounds.{all_behind}
use Rattle.registry.proofs.Puts.{each_installed, each_put}
use Rattle.registry.proofs.States.{own_names, preloads_listed, preloads_once}

-- if no test of a change refuses it, the test of its file doesn't
taken : (o : Option FileRefusal) (others : List (Option Refusal)) → first_of (option_map Object o ∷ others) ≡ None → o ≡ None
taken None others is = refl
taken (Some r) others is = cc

-- after an accepted command each file is still a library
pub each_accepted : (p : Phase) (q : Request) → refusal_at p q ≡ None → All IsLibrary p.state.libraries → All IsLibrary (accepted p.state q).libraries
each_accepted p (install bytes) is all = each_installed p.state bytes (taken (library_refusal bytes) _ is) all
each_accepted p (replace bytes) is all = each_put p.state bytes (taken (library_refusal bytes) _ is) all
each_accepted p (remove name) is all = each_left IsLibrary name p.state.libraries all
each_accepted p (set_preloads names) is all = all
each_accepted p (bind program base) is all = all
each_accepted p list is all = all

each_after : (p : Phase) (q : Request) (r : Reply) (p' : Phase) → Step p q r p' → p'.state ≡ cond (is_acknowledged r) (accepted p.state q) p.state
    → All IsLibrary p.state.libraries → All IsLibrary p'.state.libraries
each_after p q Done p' step same all = subst (λ (t : State). All IsLibrary t.libraries) (sym same) (each_accepted p q step.1 all)
each_after p q (Refused refusal) p' step same all = subst (λ (t : State). All IsLibrary t.libraries) (sym same) all
each_after p q (Bound image) p' step same all = subst (λ (t : State). All IsLibrary t.libraries) (sym same) all
each_after p q (Listing listing) p' step same all = subst (λ (t : State). All IsLibrary t.libraries) (sym same) all

-- if each file that a bind reads is a library, the answer is a step of the step table
table_step : (p : Phase) (q : Request) (r : Reply) (p' : Phase) → ((program : List ℕ) → ReadsLibraries p.state program) → UntestedStep p q r p' → Step p q r p'
table_step p (install bytes) r p' reads step = step
table_step p (replace bytes) r p' reads step = step
table_step p (remove name) r p' reads step = step
table_step p (set_preloads names) r p' reads step = step
table_step p list r p' reads step = step
table_step p (bind program base) (Refused Damaged) p' reads step = absurd (step.2 (reads program))
table_step p (bind program base) r p' reads step = step.0

-- an answer other than S5 is a step of the step table
pub other_step : (p : Phase) (q : Request) (r : Reply) (p' : Phase) → (r ≡ Refused Damaged → ⊥) → UntestedStep p q r p' → Step p q r p'
other_step p (install bytes) r p' other step = step
other_step p (replace bytes) r p' other step = step
other_step p (remove name) r p' other step = step
other_step p (set_preloads names) r p' other step = step
other_step p list r p' other step = step
other_step p (bind program base) (Refused Damaged) p' other step = absurd (other refl)
other_step p (bind program base) r p' other step = step.0

module _ {D : Type 0} (facts : D → DiskFacts) (old new : Opened D) (s : State) (at : IsAt facts old s)
    (holds : IsTrue (facts old.disk).honest → HoldsNow (facts old.disk)) (q : Request) (r : Reply) where
  reads : (program : List ℕ) → ReadsLibraries s program
  reads program =
      let own = own_names facts old s at.stored holds in
      let listed = preloads_listed facts old s at.stored holds in
      let once = preloads_once facts old s at.stored holds in
      all_behind facts old holds s at.stored own listed once program IsLibrary at.libraries

  pub tested : AppliesUntested facts old new s q r → Applies facts old new s q r
  tested (s', untested) =
      let after : Phase = phase_of facts new s' in
      let step : Step (phase_of facts old s) q r after = table_step (phase_of facts old s) q r after reads untested.step in
      let kept : IsFalse new.failed ⊎ (s' ≡ s) = ⊎_elim (λ stored. inl stored.usable) (λ failed. inr failed.1) untested.kept in
      let libraries : All IsLibrary s'.libraries = each_after (phase_of facts old s) q r after step (step_state (phase_of facts old s) q r after step kept) at.libraries in
      let registry = λ (m : List Sector) (t : State) (all : All IsLibrary t.libraries) (stands : sectors.Stands m t). (let both : Stands m t = record { stored = stands; libraries = all } in both) in (
        s',
        record {
          step = step;
          any_moment = weaken (MayLeaveBy sectors.Stands (phase_of facts old s) q r s') (MayLeaveWithin (phase_of facts old s) q r s')
              (λ m. ⊎_elim (λ stands. inl (registry m s at.libraries stands)) (λ others. ⊎_elim
              (λ stands. inr (inl (registry m s' libraries stands)))
              (λ flight. inr (inr (flight.0, flight.1, registry m (accepted s q) (each_accepted (phase_of facts old s) q flight.1 at.libraries) flight.2))) others))
              untested.any_moment;
          kept = ⊎_elim (λ stored. inl (record { stored = stored; libraries = libraries })) inr untested.kept;
        },
      )
