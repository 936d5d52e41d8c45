-- Lemmas about binders on their flights, given the findings of their walks.
use Rattle.std.proofs.Common.{◌≡◌, ℕ, suc, ◌+◌, ◌-◌, ◌<◌, ◌≤◌, List, [], ◌∷◌, ◌++◌, length, map, take, drop, get_or, sum_by, Option, Some, None}
use Rattle.std.proofs.Common.{Result, Ok, Err, IsTrue, IsFalse, Bor, inl, inr, ⊎_elim, refl, sym, ap, subst, ◌∙◌, arith}
use Rattle.std.specs.Prelude.{◌⊎◌, ◌↔◌, All, IfErr, IfOk}
use Rattle.std.specs.Option.{option_map}
use Rattle.std.proofs.lemmas.Bool.{false≢true}
use Rattle.std.proofs.Math.Seq.{drop-append_seam}
use Rattle.std.proofs.lemmas.List.{length-map, length-take, length_push, length-append}
use Rattle.std.proofs.lemmas.List.Elements.{All-get_or}
use Rattle.std.proofs.lemmas.List.Sums.{sum_by-cons}
use Rattle.sector_disk.specs.Disk.{DiskFacts, HoldsNow, AreCallsAtMost, AreCallsExactly, sector_bytes}
use Rattle.sector_disk.proofs.Moments.{exactly_at_most, exactly_none}
use Rattle.roots.specs.Root.{listed_preloads}
use Rattle.scope.specs.LoadOrder.{available, load_order, missing, object_at}
use Rattle.scope.specs.Objects.{Named}
use Rattle.scope.specs.Queue.{AreApart}
use Rattle.scope.proofs.Apart.{few}
use Rattle.scope.proofs.Queueing.{order-whole}
use Rattle.image.specs.Byte.{byte_of}
use Rattle.image.specs.Image.{MemoryImage, image_of}
use Rattle.image.specs.Refusal.{IsAnswer, IsProgramAnswer, IsFirstOrWantsMemory, WantsMemory, program_refusal}
use Rattle.image.proofs.Answering.{program-answer}
use Rattle.image.specs.declared.refusal.BindRefusal.{BindRefusal}
use Rattle.image.specs.declared.refusal.BindRefusal.TheVariants as binding
use Rattle.snapshots.specs.Snapshot.{IsSnapshotOf, IsTakenOf, AreHeldAs, LetsAllGo, Taken, Takes}
use Rattle.snapshots.proofs.Kept.{snapshot_beside, snapshot_kept, snapshot_left}
use Rattle.states.specs.State.{Library, State}
use Rattle.store.specs.Holds.{holders_of, AreFlagged, KeepsHeld}
use Rattle.store.specs.Opened as stored
use Rattle.store.specs.Opened.{Opened}
use Rattle.store.specs.Stands.{HaveOwnNames, TellLengths, no_library}
use Rattle.store.specs.declared.refusal.StoreRefusal.{StoreRefusal}
use Rattle.store.specs.declared.refusal.StoreRefusal.TheVariants as reading
use Rattle.requests.proofs.Bindings.{memory}
use Rattle.requests.specs.Binding.{object_of, objects, preload_numbers, binding_refusal, bound_objects}
use Rattle.requests.specs.Library.{IsLibrary}
use Rattle.requests.specs.declared.refusal.Refusal.{Refusal}
use Rattle.requests.specs.declared.refusal.Refusal.TheVariants.{Bind, OutOfMemory, Reopen}
use Rattle.requests.specs.declared.reply.Reply.TheVariants.{Bound, Refused}
use Rattle.std.specs.Int.{div_ceil}
use Rattle.store.proofs.UsedAlone.{no_entry}
use Rattle.registry.specs.Binding.{data_sectors}
use Rattle.store.specs.IsRead.{IsRead, file_sectors}
use Rattle.registry.specs.Flight.{Flight, IsBounded, goings, goings_by, sectors_at, step_sectors}
use Rattle.registry.specs.Flying.{Advances, Begins, Ends, Flies, IsLastStep, IsStep, IsStepRefusal}
use Rattle.registry.specs.declared.binder.Step.{Step}
use Rattle.registry.specs.declared.binder.Step.TheVariants.{Going, Final}
use Rattle.registry.specs.declared.needs.Needs.{Needs}
use Rattle.registry.specs.declared.source.Source.TheVariants.{Held}
use Rattle.registry.specs.inside.Binding.{Binding, Found, HasCome, Stays}
use Rattle.registry.specs.inside.Reading.{IsReadRefusal, refusal_of_read}
use Rattle.registry.specs.inside.Source.{Offers}
use Rattle.registry.specs.inside.Stepping.{refused_step, unread_step}
use Rattle.registry.specs.inside.Walked.{IsBoundBy, IsWalked, next_place, walked_objects, walked_refusal}
use Rattle.registry.proofs.Bindings.{refusal_same, objects_same}
use Rattle.store.proofs.IsReadLemmas.{read_none}
use Rattle.registry.proofs.FilesRead.{all_read, missing_read, order-at, place-above, library-at}
use Rattle.registry.proofs.Keeping.{keeps_held_read, keeps_held_same}
use Rattle.registry.proofs.StateNames.{names_are, numbers_are, object_count}

-- the flight with the binder's own program and base
abbrev pub own_flight : Binding → State → ℕ → Flight
own_flight binder s going = record { program = binder.program; base = binder.base; state = s; going = going }

module _ {D : Type 0} (facts : D → DiskFacts) {now : Opened D} {binder : Binding} {flight : Flight} (flies : Flies facts now binder flight) where
  pub own_is : own_flight binder flight.state flight.going ≡ flight
  own_is = λ i. record { program = flies.program i; base = flies.base i; state = flight.state; going = flight.going }

  -- the snapshot of a binder offers the libraries and preloads that the registry had when the binder was
  -- begun
  pub flies_offers : (IsTrue (facts flies.taken.disk).honest → HoldsNow (facts flies.taken.disk)) → (snapshot : Bor Taken) → snapshot.now ≡ binder.snapshot
      → Offers facts (Held snapshot) flies.taken.entries flight.state now
  flies_offers holds snapshot same =
      let s : State = flight.state in
      let listed : snapshot.now.preloads ≡ listed_preloads flies.taken.root = ap (λ (k : Taken). k.preloads) same ∙ flies.snapshot.preloads in
      record {
        has = subst (λ (k : Taken). IsTakenOf now.held k flies.taken.entries) (sym same) flies.snapshot.entries;
        own = flies.own;
        names = names_are facts flies.taken s holds flies.at.stored;
        preloads = subst (λ (ps : List ℕ). All (λ p. p < length flies.taken.entries) ps → preload_numbers s ≡ ps) (sym listed)
            (numbers_are facts flies.taken s holds flies.at.stored flies.own);
        files = subst (λ (k : Taken). IsTrue (facts now.disk).honest × AreHeldAs facts now k.handles s.libraries) (sym same) (flies.snapshot.libraries s flies.at.stored);
      }

  -- A read keeps the snapshot of a binder.
  pub snapshot_read : (new : Opened D) → IsRead facts now new → IsSnapshotOf facts flies.taken new binder.snapshot
  snapshot_read new read = snapshot_kept facts flies.snapshot (keeps_held_read facts now new read) (λ honest. subst IsTrue (sym read.calls.honest) honest)

  -- A binder stays on its flight if its snapshot remains valid.
  pub flies_with : {new : Opened D} → IsSnapshotOf facts flies.taken new binder.snapshot → Flies facts new binder flight
  flies_with snapshot = record {
    taken = flies.taken;
    at = flies.at;
    own = flies.own;
    lengths = flies.lengths;
    snapshot = snapshot;
    program = flies.program;
    base = flies.base;
    come = flies.come;
  }

  -- a binder stays on its flight when something is read
  pub flies_read : (new : Opened D) → IsRead facts now new → Flies facts new binder flight
  flies_read new read = flies_with (snapshot_read new read)

  -- a binder stays on its flight when an operation keeps the held byte strings
  pub flies_kept : (new : Opened D) → KeepsHeld facts now new → (IsTrue (facts now.disk).honest → IsTrue (facts new.disk).honest) → Flies facts new binder flight
  flies_kept new keeps honest = flies_with (snapshot_kept facts flies.snapshot keeps honest)

  -- a binder stays on its flight when another binder is begun
  pub flies_beside : (new : Opened D) {result : Result Taken StoreRefusal} → Takes facts now new result → Flies facts new binder flight
  flies_beside new takes = flies_with (snapshot_beside facts flies.snapshot takes)

  -- a binder stays on its flight when another binder is ended, if its byte strings still have holders
  pub flies_left : (new : Opened D) (handles : List ℕ) → LetsAllGo facts now new handles
      → ((i : ℕ) → i < length binder.snapshot.handles → 0 < holders_of new.held (get_or binder.snapshot.handles i 0)) → Flies facts new binder flight
  flies_left new handles gone still = flies_with (snapshot_left facts flies.snapshot gone still)

-- a load order isn't empty, because it has the program
order_some : (program : List ℕ) (s : State) → 0 < length (load_order program (objects s) (preload_numbers s))
order_some program s = omega (arith, ap length (order-whole program (objects s) (preload_numbers s)))

-- a step that makes no call makes at most any number of calls
pub quiet : {D : Type 0} (facts : D → DiskFacts) (store : Opened D) (most : ℕ) → AreCallsAtMost most (facts store.disk) (facts store.disk)
quiet facts store most = exactly_at_most (exactly_none (facts store.disk)) (omega arith)

-- if `front` has k items, the item after the first k items of the list is x
one_behind : {X : Type 0} (front : List X) (x : X) (more : List X) (k : ℕ) → length front ≡ k → (k < length (front ++ x ∷ more)) × (take 1 (drop k (front ++ x ∷ more)) ≡ x ∷ [])
one_behind front x more k size =
    (omega (arith, size, length-append front (x ∷ more)), subst (λ n. take 1 (drop n (front ++ x ∷ more)) ≡ x ∷ []) size (ap (take 1) (drop-append_seam front (x ∷ more))))

module _ {D : Type 0} (facts : D → DiskFacts) (now : Opened D) (binder : Binding) (s : State) (accepted : program_refusal binder.program binder.base ≡ None) where
  -- if no test refuses the program by itself, the number of Going steps is the number of objects in the
  -- load order
  pub goings_are : (going : ℕ) → goings (own_flight binder s going) ≡ length (load_order binder.program (objects s) (preload_numbers s))
  goings_are going = ap (λ o. goings_by o (load_order binder.program (objects s) (preload_numbers s))) accepted

-- the binder with these findings of its walk
abbrev pub with_found : Binding → Needs → List Library → Binding
with_found binder needs files = record {
  program = binder.program;
  base = binder.base;
  snapshot = binder.snapshot;
  found = Some (record { needs = needs; files = files });
}

module _ {D : Type 0} (facts : D → DiskFacts) (now : Opened D) (before : Binding) (flight : Flight) (flies : Flies facts now before flight) (first : before.found ≡ None) where
  at_start : flight.going ≡ 0
  at_start = subst (λ (o : Option Found). HasCome flight.state before.program before.base o flight.going) first flies.come

  abbrev first_order : List Named
  first_order = load_order before.program (objects flight.state) (preload_numbers flight.state)

  -- if no test refuses the program by itself, the first step is answered with Going
  pub started : (needs : Needs) (files : List Library) → program_refusal before.program before.base ≡ None → files ≡ [] → IsWalked before.program flight.state needs files
      → IsStep facts now now flight (with_found before needs files) (Ok Going)
  started needs files accepted none walked =
      let none_read : sectors_at flight.going first_order ≡ 0 = ap (λ (k : ℕ). sectors_at k first_order) at_start in
      subst (λ (f : Flight). IsStep facts now now f (with_found before needs files) (Ok Going)) (own_is facts flies) (
        omega (arith, at_start, goings_are facts now before flight.state accepted flight.going, order_some before.program flight.state),
        record {
          taken = flies.taken;
          at = flies.at;
          own = flies.own;
          lengths = flies.lengths;
          snapshot = flies.snapshot;
          program = refl;
          base = refl;
          come = (accepted, walked, omega (arith, at_start, ap length none));
        },
        subst (λ (k : ℕ). AreCallsExactly k (facts now.disk) (facts now.disk)) (sym none_read) (exactly_none (facts now.disk)),
      )

  -- if a test refuses the program by itself, the first step is answered with the bind's answer
  stopped : (e : BindRefusal) → program_refusal before.program before.base ≡ Some e → binding_refusal flight.state before.program before.base ≡ Some e
      → IsStep facts now now flight before (Ok (Final (Refused (Bind e))))
  stopped e refused is =
      subst (λ (f : Flight). IsStep facts now now f before (Ok (Final (Refused (Bind e))))) (own_is facts flies)
      (at_start ∙ sym (ap (λ o. goings_by o first_order) refused), ap (option_map Bind) is, refl)

  answered : (e : BindRefusal) → IsProgramAnswer before.program before.base e → IsAnswer before.program before.base (objects flight.state) (preload_numbers flight.state) e
  answered e is = program-answer before.program before.base (objects flight.state) (preload_numbers flight.state) e is

  pub refused_at_first : (e : BindRefusal) → IsProgramAnswer before.program before.base e → IsStep facts now now flight before (refused_step e)
  refused_at_first binding.OutOfMemory is = (flies, quiet facts now (step_sectors flight), subst WantsMemory flies.program is)
  refused_at_first (binding.Program r) is = stopped (binding.Program r) is (answered (binding.Program r) is)
  refused_at_first binding.BadBase is = stopped binding.BadBase is (answered binding.BadBase is)
  refused_at_first (binding.Missing needer name) is = stopped (binding.Missing needer name) is (answered (binding.Missing needer name) is)
  refused_at_first binding.NoRoom is = stopped binding.NoRoom is (answered binding.NoRoom is)
  refused_at_first (binding.Undefined object symbol) is = stopped (binding.Undefined object symbol) is (answered (binding.Undefined object symbol) is)

module _ {D : Type 0} (facts : D → DiskFacts) (old : Opened D) (before : Binding) (flight : Flight) (flies : Flies facts old before flight)
    (holds : IsTrue (facts flies.taken.disk).honest → HoldsNow (facts flies.taken.disk)) (needs : Needs) (files : List Library)
    (found : before.found ≡ Some (record { needs = needs; files = files })) where
  abbrev order : List Named
  order = load_order before.program (objects flight.state) (preload_numbers flight.state)

  come : (program_refusal before.program before.base ≡ None) × IsWalked before.program flight.state needs files × (flight.going ≡ length files + 1)
  come = subst (λ (o : Option Found). HasCome flight.state before.program before.base o flight.going) found flies.come

  -- admitting the program allocates memory
  its_memory : WantsMemory flight.program
  its_memory = subst WantsMemory flies.program (memory before.program before.base come.0)

  all_goings : goings (own_flight before flight.state flight.going) ≡ length order
  all_goings = goings_are facts old before flight.state come.0 flight.going

  -- The step reads the next file.
  module _ (new : Opened D) (read : IsRead facts old new) (apart : AreApart needs.places.limit needs.places.places) (lt : length files + 1 < length needs.places.places) where
    abbrev place : ℕ
    place = next_place needs files

    abbrev libraries : List Named
    libraries = objects flight.state

    count : length libraries ≡ length flight.state.libraries
    count = length-map flight.state.libraries object_of

    limit : needs.places.limit ≡ length flight.state.libraries + 1
    limit = come.1.among.places.limit

    within : place < length flight.state.libraries + 1
    within = subst (λ k. place < k) limit (All-get_or (λ q. q < needs.places.limit) needs.places.places (length files + 1) 0 lt apart.below)

    above : 0 < place
    above = place-above needs.places.places (length files) come.1.among.places.first apart.distinct lt

    -- the next file is a library
    pub next_library : IsLibrary (get_or flight.state.libraries (place - 1) no_library)
    next_library =
        All-get_or IsLibrary flight.state.libraries (place - 1) no_library
        (omega (arith, within, above)) flies.at.libraries

    at_place : (suc (length files) < length order) × (take 1 (drop (suc (length files)) order) ≡ object_at (available before.program libraries) place ∷ [])
    at_place =
        let i : ℕ = length files + 1 in
        let size : length needs.places.places ≤ length (available before.program libraries) = omega (arith, few needs.places.limit needs.places.places apart, limit, count) in
        let reached = order-at before.program libraries (preload_numbers flight.state) needs.places.places i come.1.reached lt size in
        let front : List Named = map (object_at (available before.program libraries)) (take i needs.places.places) in
        let long : length front ≡ suc (length files) = omega (arith, length-map (take i needs.places.places) (object_at (available before.program libraries)), length-take i needs.places.places, lt) in
        subst (λ (l : List Named). (suc (length files) < length l) × (take 1 (drop (suc (length files)) l) ≡ object_at (available before.program libraries) place ∷ [])) (sym reached.1)
        (one_behind front (object_at (available before.program libraries) place) reached.0 (suc (length files)) long)

    -- the sectors that the step reads are those of the next file
    sectors : (file : Library) → file ≡ get_or flight.state.libraries (place - 1) no_library → step_sectors (own_flight before flight.state flight.going) ≡ data_sectors file.bytes
    sectors file is =
        let e : flight.going ≡ suc (length files) = omega (arith, come.2) in
        let object : object_of file ≡ object_at (available before.program libraries) place =
        library-at before.program flight.state place file above within is in
        ap (λ (k : ℕ). sectors_at k order) e
        ∙ ap (sum_by (λ (o : Named). data_sectors o.file)) at_place.1
        ∙ (let one : sum_by (λ (o : Named). data_sectors o.file) (object_at (available before.program libraries) place ∷ []) ≡ data_sectors
        (object_at (available before.program libraries) place).file =
        omega (arith, sum_by-cons (λ (o : Named). data_sectors o.file) (object_at (available before.program libraries) place) []) in one)
        ∙ ap (λ (o : Named). data_sectors o.file) (sym object)

    -- the next file's entry has the number of sectors that the step reads
    sectors_told : file_sectors (get_or flies.taken.entries (place - 1) no_entry) ≡ step_sectors flight
    sectors_told =
        ap (λ n. div_ceil n sector_bytes) (flies.lengths (place - 1) no_entry (omega (arith, within, above, count, object_count facts flies.taken flight.state holds flies.at.stored)))
        ∙ sym (sectors (get_or flight.state.libraries (place - 1) no_library) refl)
        ∙ ap (λ f. step_sectors f) (own_is facts flies)

    -- if the next file was read and its needs were added, the step is answered with Going
    pub gone_on : (file : Library) → file ≡ get_or flight.state.libraries (place - 1) no_library → (more : Needs) (all : List Library) → all ≡ files
        ++ file ∷ [] → IsWalked before.program flight.state more all
        → AreCallsExactly (data_sectors file.bytes) (facts old.disk) (facts new.disk) → IsStep facts old new flight (with_found before more all) (Ok Going)
    gone_on file is more all one walked calls =
        subst (λ (f : Flight). IsStep facts old new f (with_found before more all) (Ok Going)) (own_is facts flies) (
          omega (arith, all_goings, come.2, at_place.0),
          record {
            taken = flies.taken;
            at = flies.at;
            own = flies.own;
            lengths = flies.lengths;
            snapshot = snapshot_read facts flies new read;
            program = refl;
            base = refl;
            come = (come.0, walked, omega (arith, come.2, ap length one, length_push files file));
          },
          subst (λ (k : ℕ). AreCallsExactly k (facts old.disk) (facts new.disk)) (sym (sectors file is)) calls,
        )

    -- If the read is refused, the binder stays where it was.
    module _ (calls : AreCallsAtMost (file_sectors (get_or flies.taken.entries (place - 1) no_entry)) (facts old.disk) (facts new.disk)) where
      again : Flies facts new before flight × AreCallsAtMost (step_sectors flight) (facts old.disk) (facts new.disk)
      again = (flies_read facts flies new read, subst (λ n. AreCallsAtMost n (facts old.disk) (facts new.disk)) sectors_told calls)

      pub unread_on : (e : StoreRefusal) → IsReadRefusal facts old new e → (e ≡ reading.Damaged → ⊥) → IsStep facts old new flight before (unread_step e)
      unread_on reading.Device is intact = (again.0, again.1, tt)
      unread_on reading.Reopen is intact = (again.0, again.1, tt)
      unread_on reading.OutOfMemory is intact = (again.0, again.1, its_memory)
      unread_on reading.Damaged is intact = absurd (intact refl)
      unread_on reading.NotFormatted is intact = absurd is
      unread_on reading.AlreadyFormatted is intact = absurd is
      unread_on reading.BadGeometry is intact = absurd is
      unread_on reading.Full is intact = absurd is
      unread_on reading.Fragmented is intact = absurd is
      unread_on reading.TooMany is intact = absurd is
      unread_on reading.GenerationEnd is intact = absurd is
      unread_on reading.OldFormat is intact = absurd is

  -- If no file is left, the step is answered with the answer of the bind.
  module _ (outside : length needs.places.places ≤ length files + 1) where
    ordered : order ≡ available before.program (map object_of files)
    ordered = all_read before.program flight.state come.1 outside

    lacking : missing before.program (objects flight.state) (preload_numbers flight.state) ≡ needs.missing
    lacking = missing_read before.program flight.state come.1 outside

    at_end : flight.going ≡ goings (own_flight before flight.state flight.going)
    at_end = omega (arith, all_goings, ap length ordered, length-map files object_of, come.2)

    refusal : binding_refusal flight.state before.program before.base ≡ walked_refusal before.program before.base needs.missing files
    refusal = refusal_same flight.state before.program before.base files needs.missing come.0 ordered lacking

    bound : walked_objects before.program before.base files ≡ bound_objects flight.state before.program before.base
    bound = objects_same flight.state before.program before.base files needs.missing come.0 ordered lacking

    pub bound_at_last : (image : MemoryImage) → IsBoundBy before.program before.base needs.missing files (Ok image) → IsStep facts old old flight before (Ok (Final (Bound image)))
    bound_at_last image is =
        subst (λ (f : Flight). IsStep facts old old f before (Ok (Final (Bound image)))) (own_is facts flies)
        (at_end, (refusal ∙ is.tested.accepted, is.ok ∙ ap image_of bound, λ a. is.bytes a ∙ ap (λ os. byte_of os a) bound), refl)

    last_refused : (e : BindRefusal) → walked_refusal before.program before.base needs.missing files ≡ Some e → IsStep facts old old flight before (Ok (Final (Refused (Bind e))))
    last_refused e is =
        subst (λ (f : Flight). IsStep facts old old f before (Ok (Final (Refused (Bind e))))) (own_is facts flies)
        (at_end, ap (option_map Bind) (refusal ∙ is), refl)

    pub refused_at_last : (e : BindRefusal) → IsFirstOrWantsMemory (walked_refusal before.program before.base needs.missing files) e → IsStep facts old old flight before (refused_step e)
    refused_at_last binding.OutOfMemory is = (flies, quiet facts old (step_sectors flight), its_memory)
    refused_at_last (binding.Program r) (inl is) = last_refused (binding.Program r) is
    refused_at_last binding.BadBase (inl is) = last_refused binding.BadBase is
    refused_at_last (binding.Missing needer name) (inl is) = last_refused (binding.Missing needer name) is
    refused_at_last binding.NoRoom (inl is) = last_refused binding.NoRoom is
    refused_at_last (binding.Undefined object symbol) (inl is) = last_refused (binding.Undefined object symbol) is
    refused_at_last (binding.Program r) (inr wants) = absurd cc
    refused_at_last binding.BadBase (inr wants) = absurd cc
    refused_at_last (binding.Missing needer name) (inr wants) = absurd cc
    refused_at_last binding.NoRoom (inr wants) = absurd cc
    refused_at_last (binding.Undefined object symbol) (inr wants) = absurd cc

-- If a binder isn't begun, nothing changes.
pub not_begun : {D : Type 0} (facts : D → DiskFacts) (store : Opened D) (program : List ℕ) (base : ℕ) → AreFlagged store → (e : Refusal)
    → ((e ≡ Reopen) ↔ IsTrue store.failed) → (e ≡ Reopen) ⊎ (e ≡ OutOfMemory)
    → Begins facts store store program base (Err e)
not_begun facts store program base flags e reopen refusals = record {
  ok = λ s at. tt;
  same = λ s at. at;
  others = λ binder flight flies. flies;
  held = λ sector library is. is;
  holds = λ sector placed by. by;
  holders = tt;
  unheld = λ sector. refl;
  flags = flags;
  kept = (refl, refl, refl, refl);
  reopen = (λ is. reopen.0 (err_is is), λ failed. ap (λ r. Err r) (reopen.1 failed));
  refusals = refusals;
}
  where
    err_is : ◌≡◌ {A = Result Binding Refusal} (Err e) (Err Reopen) → e ≡ Reopen
    err_is is = cc

module _ {D : Type 0} (facts : D → DiskFacts) (old new : Opened D) (program : List ℕ) (base : ℕ) where
  -- If a snapshot is taken, the binder is begun.
  pub is_begun : (snapshot : Taken) → HaveOwnNames old.entries → ((s : State) → stored.IsAt facts old s → TellLengths old.entries s)
      → Takes facts old new (Ok snapshot) → (copy : List ℕ) → copy ≡ program
      → Begins facts old new program base (Ok (record { program = copy; base = base; snapshot = snapshot; found = None }))
  is_begun snapshot own lengths takes copy same = record {
    ok = λ s at. record {
      taken = old;
      at = at;
      own = own;
      lengths = lengths s at.stored;
      snapshot = takes.ok;
      program = same;
      base = refl;
      come = refl;
    };
    same = λ s at. record { stored = takes.same s at.stored; libraries = at.libraries };
    others = λ binder flight flies. flies_beside facts flies new takes;
    held = takes.others;
    holds = takes.holds;
    holders = takes.holders;
    unheld = tt;
    flags = takes.flags;
    kept = takes.kept;
    reopen = (λ is. absurd cc, λ failed. absurd (taken_failed (takes.reopen.1 failed)));
    refusals = tt;
  }
    where
      taken_failed : ◌≡◌ {A = Result Taken StoreRefusal} (Ok snapshot) (Err reading.Reopen) → ⊥
      taken_failed is = absurd cc

  -- if the snapshot is refused, the binder is refused
  pub isnt_begun : (e : StoreRefusal) → Takes facts old new (Err e) → Begins facts old new program base (Err (refusal_of_read e))
  isnt_begun e takes = record {
    ok = λ s at. tt;
    same = λ s at. record { stored = takes.same s at.stored; libraries = at.libraries };
    others = λ binder flight flies. flies_beside facts flies new takes;
    held = takes.others;
    holds = takes.holds;
    holders = tt;
    unheld = takes.unheld;
    flags = takes.flags;
    kept = takes.kept;
    reopen = (λ is. takes.reopen.0 (ap (λ r. Err r) (back e is)), λ failed. ap (λ r. Err (refusal_of_read r)) (err_is (takes.reopen.1 failed)));
    refusals = ⊎_elim (λ is. inl (ap refusal_of_read is)) (λ is. inr (ap refusal_of_read is)) takes.refusals;
  }
    where
      err_is : ◌≡◌ {A = Result Taken StoreRefusal} (Err e) (Err reading.Reopen) → e ≡ reading.Reopen
      err_is is = cc

      back : (r : StoreRefusal) → ◌≡◌ {A = Result Binding Refusal} (Err (refusal_of_read r)) (Err Reopen) → r ≡ reading.Reopen
      back reading.Reopen is = refl
      back reading.Device is = absurd cc
      back reading.OutOfMemory is = absurd cc
      back reading.Damaged is = absurd cc
      back reading.NotFormatted is = absurd cc
      back reading.AlreadyFormatted is = absurd cc
      back reading.BadGeometry is = absurd cc
      back reading.Full is = absurd cc
      back reading.Fragmented is = absurd cc
      back reading.TooMany is = absurd cc
      back reading.GenerationEnd is = absurd cc
      back reading.OldFormat is = absurd cc

  -- If the handles of a binder are released, the binder is ended.
  pub is_ended : (binder : Binding) → LetsAllGo facts old new binder.snapshot.handles → Ends facts old new binder
  is_ended binder gone = record {
    let_go = gone;
    same = λ s at. record { stored = gone.same s at.stored; libraries = at.libraries };
    others = λ other flight still flies. flies_left facts flies new binder.snapshot.handles gone still;
  }

  -- A step that only reads is a step of the binder.
  pub has_advanced : (before after : Binding) (result : Result Step Refusal) → IsFalse old.failed → IsRead facts old new → Stays before after
      → ((flight : Flight) → Flies facts old before flight → IsStep facts old new flight after result)
      → ((flight : Flight) → Flies facts old before flight → IsBounded flight) → IfErr result (IsStepRefusal facts old new)
      → IfOk result IsLastStep
      → Advances facts old new before after result
  has_advanced before after result usable read stays step bounds refusals answers = record {
    step = step;
    bounds = bounds;
    any_moment = read.leaves;
    unchanged = read.unchanged;
    same = λ s at. record { stored = read.same s at.stored; libraries = at.libraries };
    others = λ binder flight flies. flies_read facts flies new read;
    held = keeps_held_read facts old new read;
    kept = (read.root, read.entries, read.held, read.failed);
    handles = ap (λ (k : Taken). k.handles) stays.snapshot;
    reopen = (λ is. subst (λ r. IfErr r (IsStepRefusal facts old new)) is refusals, λ failed. absurd (false≢true (sym usable ∙ failed)));
    failed = λ failed. absurd (false≢true (sym usable ∙ failed));
    refusals = refusals;
    answers = answers;
    calls = read.calls;
  }

-- If a write or a sync failed before, no step is made, and the answer is S2.
pub hasnt_advanced : {D : Type 0} (facts : D → DiskFacts) (store : Opened D) (binder : Binding) → IsTrue store.failed → ((flight : Flight) → Flies facts store binder flight → IsBounded flight)
    → Advances facts store store binder binder (Err Reopen)
hasnt_advanced facts store binder failed bounds =
    let read : IsRead facts store store = read_none store in
    record {
      step = λ flight flies. (flies, quiet facts store (step_sectors flight), tt);
      bounds = bounds;
      any_moment = read.leaves;
      unchanged = read.unchanged;
      same = λ s at. at;
      others = λ other flight flies. flies;
      held = keeps_held_same facts store;
      kept = (refl, refl, refl, refl);
      handles = refl;
      reopen = (λ is. failed, λ is. refl);
      failed = λ is. (refl, refl);
      refusals = failed;
      answers = tt;
      calls = read.calls;
    }
