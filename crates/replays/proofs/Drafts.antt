-- A draft of a new registry to which the requests of a dump are made: its states, and the tests of the
-- requests.
use Rattle.std.proofs.Common.{◌≡◌, ◌<◌, ◌≤◌, ℕ, ◌+◌, Bool, false, List, [], ◌∷◌, ◌++◌, length, length-append, map, Option, None, Some, refl, sym, ap, subst, ◌∙◌, arith, inl, inr}
use Rattle.std.specs.Prelude.{◌⊎◌, All, fold, not, nat_lt}
use Rattle.std.specs.List.{list_any}
use Rattle.std.specs.Option.{option_map}
use Rattle.std.proofs.lemmas.List.{get_or_append_left, length-map}
use Rattle.std.proofs.lemmas.List.Elements.{All-cons, All-head, All-nil, All-tail}
use Rattle.elf_file.specs.FirstOf.{◌when◌, first_of}
use Rattle.states.specs.Changes.{libraries_with, libraries_without}
use Rattle.states.specs.Cost.{catalogue_cost}
use Rattle.states.specs.Limits.{most_libraries, most_preloads}
use Rattle.states.specs.Room.{has_most, is_fragmented, is_full, is_last}
use Rattle.states.specs.State.{Library, State, empty_state, has_name}
use Rattle.store.specs.Draft.{drafted}
use Rattle.requests.specs.Library.{IsLibrary, library_refusal, name_of}
use Rattle.requests.specs.Phase.{Phase, table_of}
use Rattle.requests.specs.Request.{Request, install, replace, remove, set_preloads, bind, list}
use Rattle.requests.specs.Runs.{Steps}
use Rattle.requests.specs.State.{IsState}
use Rattle.requests.specs.Step.{accepted, refusal_at}
use Rattle.requests.specs.Table.{Table}
use Rattle.requests.specs.Tests.{first_refusal, has_repeat, is_installed}
use Rattle.requests.specs.declared.refusal.Refusal.{Refusal}
use Rattle.requests.specs.declared.refusal.Refusal.TheVariants as refusal
use Rattle.requests.specs.declared.refusal.Refusal.TheVariants.{Object, AlreadyInstalled, NotInstalled, InPreloads, RepeatedPreload}
use Rattle.requests.specs.declared.refusal.Refusal.TheVariants.{TooManyPreloads, Full, Fragmented, TooMany, GenerationEnd}
use Rattle.requests.specs.declared.reply.Reply.{Reply}
use Rattle.requests.specs.declared.reply.Reply.TheVariants.{Done, Refused}
use Rattle.requests.specs.declared.reply.Reply.TheVariants as reply
use Rattle.registry.specs.Drafting.{DraftStep, PlanStep}
use Rattle.registry.specs.Updating.{drafted_by, is_refusal, updated}
use Rattle.replays.specs.Replay.{HasRoomFor, HasShortRuns, IsFault, LacksRoomAtMost, preload_requests, requests_for, sectors_for}
use Rattle.replays.specs.Update.{IsHindrance, changes_by, renewed}
use Rattle.replays.proofs.Answers.{IsChange, all_change, done_or_fault, each_changes, room_taken}
use Rattle.replays.proofs.Refusals.{at_state, not_last}
use Rattle.replays.proofs.States as states
use Rattle.replays.proofs.States.{install_of, leads}

-- ---- a draft has what the requests make, and the same generation as before

-- two states have the same libraries and preloads
abbrev SameLists : State → State → Type 0
SameLists d e = (d.libraries ≡ e.libraries) × (d.preloads ≡ e.preloads)

accepted_lists : (d e : State) (request : Request) → SameLists d e → SameLists (accepted d request) (accepted e request)
accepted_lists d e (install bytes) h =
    let added : Library = record { name = name_of bytes; bytes = bytes } in
    (ap (λ (ls : List Library). ls ++ added ∷ []) h.0, h.1)
accepted_lists d e (replace bytes) h = (ap (libraries_with (name_of bytes) bytes) h.0, h.1)
accepted_lists d e (remove name) h = (ap (libraries_without name) h.0, h.1)
accepted_lists d e (set_preloads names) h = (h.0, refl)
accepted_lists d e (bind program base) h = h
accepted_lists d e list h = h

drafted_lists : (requests : List Request) (d e : State) → SameLists d e → SameLists (drafted_by d requests) (fold accepted e requests)
drafted_lists [] d e h = h
drafted_lists (request ∷ requests) d e h = drafted_lists requests (drafted d (accepted d request)) (accepted e request) (accepted_lists d e request h)

drafted_generation : (requests : List Request) (d : State) → (drafted_by d requests).generation ≡ d.generation
drafted_generation [] d = refl
drafted_generation (request ∷ requests) d = drafted_generation requests (drafted d (accepted d request))

-- a state with these fields equals the record of these fields
state_is : (d : State) (generation : ℕ) (libraries : List Library) (preloads : List (List ℕ)) → d.generation ≡ generation → d.libraries ≡ libraries → d.preloads ≡ preloads
    → d ≡ record { generation = generation; libraries = libraries; preloads = preloads }
state_is d generation libraries preloads g l p =
    ap (λ (n : ℕ). let made : State = record { generation = n; libraries = d.libraries; preloads = d.preloads } in made) g
    ∙ ap (λ (ls : List Library). let made : State = record { generation = generation; libraries = ls; preloads = d.preloads } in made) l
    ∙ ap (λ (ps : List (List ℕ)). let made : State = record { generation = generation; libraries = libraries; preloads = ps } in made) p

-- the state with the same libraries and preloads, and with generation 0
abbrev anew : State → State
anew e = record { generation = 0; libraries = e.libraries; preloads = e.preloads }

drafted_is : (requests : List Request) → drafted_by empty_state requests ≡ anew (fold accepted empty_state requests)
drafted_is requests =
    let e = fold accepted empty_state requests in
    let lists = drafted_lists requests empty_state empty_state (refl, refl) in
    state_is (drafted_by empty_state requests) 0 e.libraries e.preloads (drafted_generation requests empty_state) lists.0 lists.1

-- ---- so few requests don't reach the last generation

one_more : (e : State) (request : Request) → (accepted e request).generation ≤ e.generation + 1
one_more e (install bytes) = omega arith
one_more e (replace bytes) = omega arith
one_more e (remove name) = omega arith
one_more e (set_preloads names) = omega arith
one_more e (bind program base) = omega arith
one_more e list = omega arith

generation_below : (requests : List Request) (e : State) → (fold accepted e requests).generation ≤ e.generation + length requests
generation_below [] e = omega arith
generation_below (request ∷ requests) e = omega (arith, one_more e request, generation_below requests (accepted e request))

few_preload : (names : List (List ℕ)) → length (preload_requests names) ≤ 1
few_preload [] = omega arith
few_preload (name ∷ names) = omega arith

-- the number of requests for a state is at most the maximum number of libraries, plus one
few_asked : (s : State) → IsState s → length (requests_for s) ≤ most_libraries + 1
few_asked s h =
    omega (arith, length-append (map install_of s.libraries) (preload_requests s.preloads), length-map s.libraries install_of, few_preload s.preloads, h.few)

few_in_front : (s : State) → IsState s → (front back : List Request) (request : Request) → requests_for s ≡ front ++ request ∷ back → length front ≤ most_libraries + 1
few_in_front s h front back request is = omega (arith, few_asked s h, ap length is, length-append front (request ∷ back))

-- if two generations aren't the last, they don't affect the first refusal
same_tests : (t : Table) (g : ℕ) (request : Request) → is_last t.generation ≡ false → is_last g ≡ false
    → first_refusal (record t { generation = g }) request ≡ first_refusal t request
same_tests t g (install bytes) old new =
    let few = TooMany when has_most (length t.names) in
    let room = (Full when is_full t.free (catalogue_cost (length t.names)) (length bytes)) ∷ (Fragmented when is_fragmented t.longest (length bytes)) ∷ [] in
    ap (λ (last : Bool). first_of (option_map Object (library_refusal bytes) ∷ (AlreadyInstalled when is_installed t (name_of bytes)) ∷ few ∷ (GenerationEnd when last) ∷ room)) (new ∙ sym old)
same_tests t g (replace bytes) old new =
    let room = (Full when is_full t.free 0 (length bytes)) ∷ (Fragmented when is_fragmented t.longest (length bytes)) ∷ [] in
    ap (λ (last : Bool). first_of (option_map Object (library_refusal bytes) ∷ (NotInstalled when not (is_installed t (name_of bytes))) ∷ (GenerationEnd when last) ∷ room)) (new ∙ sym old)
same_tests t g (remove name) old new =
    ap (λ (last : Bool). first_of ((NotInstalled when not (is_installed t name)) ∷ (InPreloads when has_name t.preloads name) ∷ (GenerationEnd when last) ∷ [])) (new ∙ sym old)
same_tests t g (set_preloads names) old new =
    let few = TooManyPreloads when nat_lt most_preloads (length names) in
    let there = NotInstalled when list_any (λ name. not (is_installed t name)) names in
    ap (λ (last : Bool). first_of (few ∷ (RepeatedPreload when has_repeat names) ∷ there ∷ (GenerationEnd when last) ∷ [])) (new ∙ sym old)
same_tests t g (bind program base) old new = refl
same_tests t g list old new = refl

-- ---- the requests to a draft may only lack room

short_alike : (p : Phase) (a b : State) (request : Request) → HasShortRuns (at_state p a) request → HasShortRuns (at_state p b) request
short_alike p a b (install bytes) short = short
short_alike p a b (replace bytes) short = absurd short
short_alike p a b (remove name) short = absurd short
short_alike p a b (set_preloads names) short = absurd short
short_alike p a b (bind program base) short = absurd short
short_alike p a b list short = absurd short

module _ (p : Phase) where
  -- the tests of a request to a draft are those of the request to the state after the same changes
  same_refusal : (front : List Request) (request : Request) → length front ≤ most_libraries + 1 → IsChange request
      → refusal_at (at_state p (drafted_by empty_state front)) request ≡ refusal_at (at_state p (fold accepted empty_state front)) request
  same_refusal front request few change =
      let e = fold accepted empty_state front in
      ap (λ (t : State). refusal_at (at_state p t) request) (drafted_is front)
      ∙ by request change (not_last e.generation (omega (arith, few, generation_below front empty_state)))
    where
      by : (r : Request) → IsChange r → is_last (fold accepted empty_state front).generation ≡ false
          → refusal_at (at_state p (anew (fold accepted empty_state front))) r ≡ refusal_at (at_state p (fold accepted empty_state front)) r
      by (install bytes) change early = same_tests (table_of (at_state p (fold accepted empty_state front))) 0 (install bytes) early refl
      by (set_preloads names) change early = same_tests (table_of (at_state p (fold accepted empty_state front))) 0 (set_preloads names) early refl
      by (replace bytes) change early = absurd change
      by (remove name) change early = absurd change
      by (bind program base) change early = absurd change
      by list change early = absurd change

module _ (s : State) (h : IsState s) (p : Phase) where
  lacks_alike : (a b : State) (request : Request) → refusal_at (at_state p a) request ≡ refusal_at (at_state p b) request
      → LacksRoomAtMost s (at_state p b) request → LacksRoomAtMost s (at_state p a) request
  lacks_alike a b request same lacks = record {
    only = subst (λ (o : Option Refusal). (o ≡ None) ⊎ (o ≡ Some Full) ⊎ (o ≡ Some Fragmented)) (sym same) lacks.only;
    full = λ e. lacks.full (sym same ∙ e);
    fragmented = λ e. short_alike p b a request (lacks.fragmented (sym same ∙ e));
  }

  -- after the requests before it were planned, a request can be refused only for lack of room
  pub lacks_room : (front back : List Request) (request : Request) → requests_for s ≡ front ++ request ∷ back → p.state ≡ drafted_by empty_state front
      → LacksRoomAtMost s p request
  lacks_room front back request is now =
      let e = fold accepted empty_state front in
      subst (λ (t : State). LacksRoomAtMost s (at_state p t) request) (sym now)
      (lacks_alike (drafted_by empty_state front) e request (same_refusal p front request (few_in_front s h front back request is) (each_changes s front back request is))
      (states.lacks_room s h (at_state p e) front back request is refl))

  -- if the disk has fewer sectors than the state needs, the last install is refused with S7
  pub last_lacks_room : (libraries : List Library) (last : Library) → s.libraries ≡ libraries ++ last ∷ [] → p.state ≡ drafted_by empty_state (map install_of libraries)
      → p.sectors < sectors_for s + p.lone → refusal_at p (install last.bytes) ≡ Some Full
  last_lacks_room libraries last all now small =
      let front = map install_of libraries in
      let few : length front ≤ most_libraries + 1 = omega (arith, h.few, ap length all, length-append libraries (last ∷ []), length-map libraries install_of) in
      subst (λ (t : State). refusal_at (at_state p t) (install last.bytes) ≡ Some Full) (sym now)
      (same_refusal p front (install last.bytes) few tt
      ∙ states.last_lacks_room s h (at_state p (fold accepted empty_state front)) libraries last all refl small)

-- ---- the answers

-- a change of a dump is answered as a planned change
plan_step : (p p' : Phase) (request : Request) (answer : Reply) → IsChange request → DraftStep p request answer p' → PlanStep p request answer p'
plan_step p p' (install bytes) answer change h = h
plan_step p p' (set_preloads names) answer change h = h
plan_step p p' (replace bytes) answer change h = absurd change
plan_step p p' (remove name) answer change h = absurd change
plan_step p p' (bind program base) answer change h = absurd change
plan_step p p' list answer change h = absurd change

planned_or_fault : (p p' : Phase) (request : Request) (answer : Reply) → IsChange request → refusal_at p request ≡ None → PlanStep p request answer p' → (answer ≡ Done) ⊎ IsFault answer
planned_or_fault p p' request Done change none h = inl refl
planned_or_fault p p' request (Refused refusal.Device) change none h = inr tt
planned_or_fault p p' request (Refused r) change none h = done_or_fault p p' request (Refused r) change none h
planned_or_fault p p' request (reply.Listing l) change none h = absurd (let no : reply.Listing l ≡ Done = h.2 in cc)
planned_or_fault p p' request (reply.Bound i) change none h = absurd (let no : reply.Bound i ≡ Done = h.2 in cc)

pub answered : (s : State) → IsState s → (front rest : List Request) (request : Request) (p p' : Phase) (answer : Reply) → requests_for s ≡ front ++ request ∷ rest
    → p.state ≡ drafted_by empty_state front → HasRoomFor s p request → DraftStep p request answer p' → (answer ≡ Done) ⊎ IsFault answer
answered s h front rest request p p' answer is now room step =
    let change = each_changes s front rest request is in
    planned_or_fault p p' request answer change (room_taken s p request (lacks_room s h p front rest request is now) room) (plan_step p p' request answer change step)

module _ (s : State) (p p' : Phase) (request : Request) (lacks : LacksRoomAtMost s p request) (alone : p.lone ≡ 0) where
  -- if a test refuses the request, the refusal is one for lack of room
  for_room : (why : Refusal) → refusal_at p request ≡ Some why → IsHindrance s p.sectors why
  for_room why is = by lacks.only
    where
      by : (refusal_at p request ≡ None) ⊎ (refusal_at p request ≡ Some Full) ⊎ (refusal_at p request ≡ Some Fragmented) → IsHindrance s p.sectors why
      by (inl none) = absurd (let no : None ≡ Some why = sym none ∙ is in cc)
      by (inr (inl full)) =
          let is_full : Full ≡ why = let some : Some Full ≡ Some why = sym full ∙ is in cc in
          subst (IsHindrance s p.sectors) is_full (omega (arith, lacks.full full, alone))
      by (inr (inr fragmented)) =
          let is_fragmented : Fragmented ≡ why = let some : Some Fragmented ≡ Some why = sym fragmented ∙ is in cc in
          subst (IsHindrance s p.sectors) is_fragmented tt

  planned_hindered : (why : Refusal) → PlanStep p request (Refused why) p' → IsHindrance s p.sectors why
  planned_hindered refusal.Device h = tt
  planned_hindered refusal.Reopen h = tt
  planned_hindered refusal.OutOfMemory h = tt
  planned_hindered why h = for_room why h.1

  -- if a request of a dump is refused, `IsHindrance` holds for the refusal
  pub hindered : (why : Refusal) → IsChange request → DraftStep p request (Refused why) p' → IsHindrance s p.sectors why
  hindered why change step = planned_hindered why (plan_step p p' request (Refused why) change step)

-- a change that isn't refused is answered Done
planned_done : (p p' : Phase) (request : Request) (answer : Reply) → PlanStep p request answer p' → is_refusal answer ≡ false → answer ≡ Done
planned_done p p' request Done h fine = refl
planned_done p p' request (reply.Listing l) h fine = h.2
planned_done p p' request (reply.Bound i) h fine = h.2
planned_done p p' request (Refused why) h fine = absurd (cc fine)

pub each_planned : (p : Phase) (requests : List Request) (answers : List Reply) (phases : List Phase) → Steps DraftStep p requests answers phases → All IsChange requests
    → All (λ answer. is_refusal answer ≡ false) answers → All (λ answer. answer ≡ Done) answers
each_planned p [] [] phases steps changes fine = All-nil (λ answer. answer ≡ Done)
each_planned p (request ∷ requests) (answer ∷ answers) (q ∷ phases) steps changes fine =
    All-cons (λ answer. answer ≡ Done) answer answers
    (planned_done p q request answer (plan_step p q request answer (All-head IsChange request requests changes) steps.0) (All-head (λ (a : Reply). is_refusal a ≡ false) answer answers fine))
    (each_planned q requests answers phases steps.1 (All-tail IsChange request requests changes) (All-tail (λ (a : Reply). is_refusal a ≡ false) answer answers fine))
each_planned p [] (answer ∷ answers) phases steps changes fine = absurd steps
each_planned p (request ∷ requests) [] phases steps changes fine = absurd steps
each_planned p (request ∷ requests) (answer ∷ answers) [] steps changes fine = absurd steps

-- the first requests of a dump are all changes
pub front_changes : (s : State) (front back : List Request) → requests_for s ≡ front ++ back → All IsChange front
front_changes s front back is k d lt =
    subst IsChange (get_or_append_left front back d k lt) (subst (All IsChange) is (all_change s) k d (omega (arith, lt, length-append front back)))

-- ---- what the commit makes

made : (requests : List Request) (libraries : List Library) (preloads : List (List ℕ)) → All IsChange requests → (drafted_by empty_state requests).libraries ≡ libraries
    → (drafted_by empty_state requests).preloads ≡ preloads → updated empty_state requests ≡ record { generation = changes_by requests; libraries = libraries; preloads = preloads }
made [] libraries preloads changes l p = state_is empty_state 0 libraries preloads refl l p
made (install bytes ∷ requests) libraries preloads changes l p = state_is (updated empty_state (install bytes ∷ requests)) 1 libraries preloads refl l p
made (set_preloads names ∷ requests) libraries preloads changes l p = state_is (updated empty_state (set_preloads names ∷ requests)) 1 libraries preloads refl l p
made (replace bytes ∷ requests) libraries preloads changes l p = absurd (All-head IsChange (replace bytes) requests changes)
made (remove name ∷ requests) libraries preloads changes l p = absurd (All-head IsChange (remove name) requests changes)
made (bind program base ∷ requests) libraries preloads changes l p = absurd (All-head IsChange (bind program base) requests changes)
made (list ∷ requests) libraries preloads changes l p = absurd (All-head IsChange list requests changes)

pub renews : (s : State) → All IsLibrary s.libraries → updated empty_state (requests_for s) ≡ renewed s
renews s h =
    let lists = drafted_lists (requests_for s) empty_state empty_state (refl, refl) in
    let to = leads s h in
    made (requests_for s) s.libraries s.preloads (all_change s) (lists.0 ∙ ap (λ (t : State). t.libraries) to) (lists.1 ∙ ap (λ (t : State). t.preloads) to)
