-- The answer of a bind, as it follows from the findings of its walk.
use Rattle.std.proofs.Common.{◌≡◌, ℕ, ◌+◌, ◌<◌, IsFalse, IsTrue, List, [], ◌∷◌, map, drop, sum_by, Option, Some, None, inl, refl, sym, ap, subst, ◌∙◌}
use Rattle.std.specs.Option.{option_map}
use Rattle.elf_file.specs.FirstOf.{first_of}
use Rattle.sector_disk.specs.Disk.{DiskFacts, Mixture}
use Rattle.sector_disk.proofs.Moments.{weaken}
use Rattle.scope.specs.LoadOrder.{Need, available, load_order, missing}
use Rattle.scope.specs.Objects.{Named}
use Rattle.image.specs.Byte.{byte_of}
use Rattle.image.specs.Image.{MemoryImage, image_byte}
use Rattle.image.specs.Placement.{place}
use Rattle.image.specs.Refusal.{IsAnswer, IsProgramAnswer, IsFirstOrWantsMemory, placed_refusal, missing_by, program_refusal}
use Rattle.image.specs.declared.refusal.BindRefusal.{BindRefusal}
use Rattle.image.specs.declared.refusal.BindRefusal.TheVariants as binding
use Rattle.image.proofs.Answering.{program-taken, program-based, behind, later-answer}
use Rattle.store.specs.Opened.{Opened, IsAt}
use Rattle.store.specs.Stands as sectors
use Rattle.store.specs.declared.refusal.StoreRefusal.{StoreRefusal}
use Rattle.store.specs.declared.refusal.StoreRefusal.TheVariants as reading
use Rattle.requests.specs.Binding.{object_of, objects, preload_numbers, binding_refusal, bound_objects, bound_image, of_bind}
use Rattle.states.specs.State.{Library, State}
use Rattle.requests.specs.Phase.{Phase}
use Rattle.requests.specs.Request.{bind}
use Rattle.requests.specs.Step.{Leads}
use Rattle.requests.specs.declared.refusal.Refusal.TheVariants.{Bind}
use Rattle.requests.specs.declared.reply.Reply.{Reply}
use Rattle.requests.specs.declared.reply.Reply.TheVariants.{Refused, Bound}
use Rattle.requests.proofs.Bindings.{memory}
use Rattle.registry.specs.Applied.{MayLeaveBy}
use Rattle.registry.specs.Untested.{AppliedUntested, ComesBehindReading, ReadsLibraries, UntestedStep}
use Rattle.registry.specs.Binding.{data_sectors, bind_sectors}
use Rattle.registry.specs.Phase.{phase_of}
use Rattle.store.specs.IsRead.{IsRead}
use Rattle.registry.specs.inside.Reading.{IsReadRefusalIf, refusal_of_read}
use Rattle.registry.specs.inside.Walked.{walked_objects, walked_refusal}
use Rattle.registry.proofs.FilesRead.{all_fit}

module _ (s : State) (program : List ℕ) (base : ℕ) (files : List Library) (lacks : Option Need) (taken : program_refusal program base ≡ None)
    (is : load_order program (objects s) (preload_numbers s) ≡ available program (map object_of files)) (lacking : missing program (objects s) (preload_numbers s) ≡ lacks) where
  later_same : first_of (option_map missing_by (missing program (objects s) (preload_numbers s)) ∷ placed_refusal (bound_objects s program base) ∷ []) ≡ walked_refusal program base lacks files
  later_same =
      ap (λ m. first_of (option_map missing_by m ∷ placed_refusal (bound_objects s program base) ∷ [])) lacking
      ∙ ap (λ o. first_of (option_map missing_by lacks ∷ placed_refusal (place base o) ∷ [])) is

  -- the refusal and the answer of a bind follow from the findings of its walk
  pub refusal_same : binding_refusal s program base ≡ walked_refusal program base lacks files
  refusal_same = behind program base (objects s) (preload_numbers s) (program-taken program base taken) (program-based program base taken) ∙ later_same

  pub answer_same : (e : BindRefusal) → IsFirstOrWantsMemory (walked_refusal program base lacks files) e → IsAnswer program base (objects s) (preload_numbers s) e
  answer_same e h =
      later-answer program base (objects s) (preload_numbers s) e (program-taken program base taken) (program-based program base taken)
      (subst (λ r. IsFirstOrWantsMemory r e) (sym later_same) h)

  -- the objects that are bound are the program and the files of the walk, at their bases
  pub objects_same : walked_objects program base files ≡ bound_objects s program base
  objects_same = ap (place base) (sym is)

  -- the number of sectors that were read is the number of sectors that a bind reads
  pub sectors_read : sum_by (λ f. data_sectors f.bytes) files ≡ bind_sectors s program
  sectors_read = all_fit program s files is

-- A bind changed the phase from p to p', which has the same state.
module _ (p p' : Phase) (usable : IsFalse p.failed) (leads : Leads p p.state p') (program : List ℕ) (base : ℕ) where
  -- A refusal of a bind is a step. If the refusal comes only after reading, each file has to be a
  -- library.
  pub refused : (e : BindRefusal) → IsAnswer program base (objects p.state) (preload_numbers p.state) e → (ComesBehindReading program base (Refused (of_bind e)) → ReadsLibraries p.state program)
      → UntestedStep p (bind program base) (Refused (of_bind e)) p'
  refused (binding.Program r) h all = ((usable, ap (option_map Bind) h, leads), all)
  refused binding.BadBase h all = ((usable, ap (option_map Bind) h, leads), all)
  refused (binding.Missing needer name) h all = ((usable, ap (option_map Bind) h, leads), all)
  refused binding.NoRoom h all = ((usable, ap (option_map Bind) h, leads), all)
  refused (binding.Undefined object symbol) h all = ((usable, ap (option_map Bind) h, leads), all)
  refused binding.OutOfMemory h all = ((usable, h, leads), all)

  -- a refusal of the program by itself doesn't depend on reading any file
  pub alone : (e : BindRefusal) → IsProgramAnswer program base e → ComesBehindReading program base (Refused (of_bind e)) → ReadsLibraries p.state program
  alone binding.OutOfMemory h behind = absurd behind
  alone (binding.Program r) h behind = absurd (let no : ◌≡◌ {A = Option BindRefusal} None (Some (binding.Program r)) = sym behind ∙ h in cc)
  alone binding.BadBase h behind = absurd (let no : ◌≡◌ {A = Option BindRefusal} None (Some binding.BadBase) = sym behind ∙ h in cc)
  alone (binding.Missing needer name) h behind = absurd (let no : ◌≡◌ {A = Option BindRefusal} None (Some (binding.Missing needer name)) = sym behind ∙ h in cc)
  alone binding.NoRoom h behind = absurd (let no : ◌≡◌ {A = Option BindRefusal} None (Some binding.NoRoom) = sym behind ∙ h in cc)
  alone (binding.Undefined object symbol) h behind = absurd (let no : ◌≡◌ {A = Option BindRefusal} None (Some (binding.Undefined object symbol)) = sym behind ∙ h in cc)

  -- the answer with the image is a step
  pub bound : (image : MemoryImage) → binding_refusal p.state program base ≡ None → image ≡ bound_image p.state program base
      → ((a : ℕ) → image_byte image a ≡ byte_of (bound_objects p.state program base) a) → ReadsLibraries p.state program
      → UntestedStep p (bind program base) (Bound image) p'
  bound image accepted is bytes all = ((usable, ap (option_map Bind) accepted, (is, bytes), leads), λ behind. all)

  -- the refusal of a read is a step
  pub unread : program_refusal program base ≡ None → (e : StoreRefusal) → IsReadRefusalIf (p.failures < p'.failures) (IsTrue p.failed) e → (e ≡ reading.Damaged → ReadsLibraries p.state program → ⊥)
      → UntestedStep p (bind program base) (Refused (refusal_of_read e)) p'
  unread taken reading.Device is damaged = ((usable, record { risen = is; untested = taken; same = leads }), λ none. absurd none)
  unread taken reading.Reopen is damaged = ((is, leads), λ none. absurd none)
  unread taken reading.OutOfMemory is damaged = ((usable, memory program base taken, leads), λ none. absurd none)
  unread taken reading.Damaged is damaged = (usable, taken, damaged refl, leads)
  unread taken reading.NotFormatted is damaged = absurd is
  unread taken reading.AlreadyFormatted is damaged = absurd is
  unread taken reading.BadGeometry is damaged = absurd is
  unread taken reading.Full is damaged = absurd is
  unread taken reading.Fragmented is damaged = absurd is
  unread taken reading.TooMany is damaged = absurd is
  unread taken reading.GenerationEnd is damaged = absurd is
  unread taken reading.OldFormat is damaged = absurd is

module _ {D : Type 0} (facts : D → DiskFacts) (old new : Opened D) (s : State) (read : IsRead facts old new) (at : IsAt facts old s) (program : List ℕ) (base : ℕ) where
  pub leads_read : Leads (phase_of facts old s) s (phase_of facts new s)
  leads_read = record { sectors = read.calls.sectors; failed = read.failed; state = refl }

  -- a step that only reads is applied to the registry
  pub applied : (answer : Reply) → UntestedStep (phase_of facts old s) (bind program base) answer (phase_of facts new s) → AppliedUntested facts old new s s (bind program base) answer
  applied answer step = record {
    step = step;
    any_moment = weaken (Mixture (facts old.disk)) (MayLeaveBy sectors.Stands (phase_of facts old s) (bind program base) answer s)
        (λ m mixture. inl (old.root, old.entries, at.stands m mixture))
        (read.leaves at.honest);
    kept = inl (read.same s at);
  }
