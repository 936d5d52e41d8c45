-- The report about a program, as it follows from the libraries that were found or are installed, and its
-- statuses.
use Rattle.std.proofs.Common.{◌≡◌, ◌≢◌, ◌∙◌, ℕ, Option, Some, None, true, false, Bool, List, [], ◌∷◌, map, inl, inr, refl, sym, ap, subst, arith}
use Rattle.std.specs.Prelude.{Err, IfErr, IfOk, Ok, Result, if◌then◌else◌, is_none, is_some, not}
use Rattle.std.specs.Option.{option_map}
use Rattle.bindings.proofs.Known.{texts-same}
use Rattle.bindings.specs.Bindings.{bindings_text}
use Rattle.bindings.specs.Dependencies.{dependencies_text}
use Rattle.byte_disk.proofs.ReadOnly.{no_failure}
use Rattle.byte_disk.specs.ReadOnlyDisk.{read_only_facts}
use Rattle.byte_disk.specs.declared.read_only.ReadOnlyDisk.{ReadOnlyDisk}
use Rattle.elf_file.specs.FirstOf.{◌when◌, first_of}
use Rattle.elf_dynamic.specs.declared.relocation.Relocation.{Relocation}
use Rattle.hash_check.specs.FileRefusal.{first_file_refusal}
use Rattle.hash_check.specs.declared.file_refusal.FileRefusal.{FileRefusal}
use Rattle.image.proofs.Answering.{order-answer, placed-is, program-answer, program-based, program-taken}
use Rattle.image.proofs.Undefined.{placed-left, placed-room}
use Rattle.image.specs.Placement.{Placed, is_good_base, lacks_room, place}
use Rattle.image.specs.Refusal.{IsPlaceAnswer, IsProgramAnswer, placed_refusal, program_refusal, undefined_by, undefined_in, undefined_refusal}
use Rattle.image.specs.Relocating.{first_undefined}
use Rattle.image.specs.declared.refusal.BindRefusal.{BindRefusal}
use Rattle.image.specs.declared.refusal.BindRefusal.TheVariants as bind
use Rattle.registry.specs.Found.{Found, IsFindRefusal, IsFoundFor}
use Rattle.registry.specs.Untested.{ReadsLibraries}
use Rattle.requests.specs.Binding.{binding_refusal, bound_objects, object_of, objects, of_bind, preload_numbers}
use Rattle.requests.specs.declared.refusal.Refusal.{Refusal}
use Rattle.requests.specs.declared.refusal.Refusal.TheVariants as refusal
use Rattle.requests.specs.declared.reply.Reply.TheVariants.{Refused}
use Rattle.scope.specs.LoadOrder.{Need, available, load_order, missing, names_of}
use Rattle.scope.specs.Objects.{Named}
use Rattle.scope.specs.declared.refusal.OrderRefusal.TheVariants as order
use Rattle.states.specs.State.{State}
use Rattle.store.specs.IsRead.{IsRead}
use Rattle.store.specs.Opened.{IsAt, Opened}
use Rattle.store.specs.declared.refusal.StoreRefusal.{StoreRefusal}
use Rattle.store.specs.declared.refusal.StoreRefusal.TheVariants as store
use Rattle.byte_registry.specs.Bytes.{HoldNoOther, HoldStore}
use Rattle.c_answers.specs.Answers.{IsToldAlone, IsTurnedAway}
use Rattle.c_answers.specs.Bindings.{IsBindingsAnswered, IsBindingsOf, IsBindingsTold, IsText, IsUntold, TellsText, bound_number, told_text}
use Rattle.c_answers.specs.Contents.{IsGiven}
use Rattle.c_answers.specs.Numbers.{no_room, out_of_memory, refusal_number, store_number}
use Rattle.c_answers.specs.declared.answer.Answer.{Answer}
use Rattle.c_answers.specs.declared.symbols.Told.{Told}
use Rattle.c_answers.specs.inside.Bindings.{IsFoundText, IsPlacedText, IsUnfoundText, IsUnplaced, found_objects, found_text}

-- the refusal, if there is one, is that a symbol is undefined
abbrev OnlyUndefined : Option BindRefusal → Type 0
OnlyUndefined None = Unit
OnlyUndefined (Some (bind.Undefined object symbol)) = Unit
OnlyUndefined (Some other) = ⊥

undefined-here : (objects : List Placed) (own : ℕ) (r : Option Relocation) (rest : Option BindRefusal) → OnlyUndefined rest
    → OnlyUndefined (first_of (option_map (undefined_by objects own) r ∷ rest ∷ []))
undefined-here objects own (Some r) rest only = tt
undefined-here objects own None None only = tt
undefined-here objects own None (Some e) only = only

first-behind : (o : Option BindRefusal) (os : List (Option BindRefusal)) → first_of (o ∷ os) ≡ first_of (o ∷ first_of os ∷ [])
first-behind (Some e) os = refl
first-behind None os = alone (first_of os)
  where
    alone : (r : Option BindRefusal) → r ≡ first_of (r ∷ [])
    alone None = refl
    alone (Some e) = refl

undefined-among : (objects : List Placed) (owns : List ℕ) → OnlyUndefined (first_of (map (undefined_in objects) owns))
unfolding undefined_in
undefined-among objects [] = tt
undefined-among objects (own ∷ owns) =
    subst OnlyUndefined (sym (first-behind (undefined_in objects own) (map (undefined_in objects) owns)))
    (undefined-here objects own (first_undefined objects own) (first_of (map (undefined_in objects) owns)) (undefined-among objects owns))

only-undefined : (objects : List Placed) → OnlyUndefined (undefined_refusal objects)
unfolding undefined_refusal
only-undefined objects = undefined-among objects _

-- if no symbol is undefined, the report of the bindings has the number 0; otherwise it has that of B5
-- (Undefined)
pub whole-number : (o : Option BindRefusal) → true ≡ is_none o → 0 ≡ bound_number o
whole-number None h = refl
whole-number (Some e) h = cc

pub undefined-number : (objects : List Placed) → false ≡ is_none (undefined_refusal objects) → 105 ≡ bound_number (undefined_refusal objects)
undefined-number objects h = by (undefined_refusal objects) (only-undefined objects) h
  where
    by : (o : Option BindRefusal) → OnlyUndefined o → false ≡ is_none o → 105 ≡ bound_number o
    by None only h = cc
    by (Some (bind.Undefined object symbol)) only h = refl
    by (Some (bind.Program r)) only h = absurd only
    by (Some bind.BadBase) only h = absurd only
    by (Some (bind.Missing needer name)) only h = absurd only
    by (Some bind.NoRoom) only h = absurd only
    by (Some bind.OutOfMemory) only h = absurd only

pub symbols-number : (objects : List Placed) (bound : Bool) → bound ≡ is_none (undefined_refusal objects) → (if bound then 0 else 105) ≡ bound_number (undefined_refusal objects)
symbols-number objects true h = whole-number (undefined_refusal objects) h
symbols-number objects false h = undefined-number objects h

-- a report of the bindings of placed objects is the text that `IsPlacedText` defines, and a refusal is
-- one for which `IsUnplaced` holds
pub placed-told : (objects others : List Placed) (r : Result Told Refusal) → others ≡ objects → lacks_room objects ≡ false
    → IfOk r (λ told. told.number ≡ bound_number (undefined_refusal others)) → IfOk r (λ told. told.text.items ≡ bindings_text others)
    → IfOk r (λ told. IsPlacedText objects told.number told.text.items)
placed-told objects others (Ok told) same room number text =
    record { room = room; text = text ∙ ap bindings_text same; number_is = number ∙ ap (λ os. bound_number (undefined_refusal os)) same }
placed-told objects others (Err why) same room number text = tt

pub placed-untold : (objects : List Placed) (r : Result Told Refusal) → IfErr r (λ why. why ≡ refusal.OutOfMemory) → IfErr r (IsUnplaced objects)
placed-untold objects (Ok told) h = tt
placed-untold objects (Err why) h = inr h

-- if objects can't be placed, the refusal is one for which `IsUnplaced` holds
pub unplaced-as : (objects : List Placed) (e : BindRefusal) (why : Refusal) → IsPlaceAnswer objects e → why ≡ of_bind e → IsUnplaced objects why
unplaced-as objects e why (inl (full, lacks)) is = inl (is ∙ ap of_bind full, lacks)
unplaced-as objects e why (inr (memory, wants)) is = inr (is ∙ ap of_bind memory)

-- an option that isn't `Some` is `None`, so no name is missing
pub lacks-none : (o : Option Need) → is_some o ≡ false → o ≡ None
lacks-none None none = refl
lacks-none (Some need) none = absurd (let no : true ≡ false = none in cc)

pub lacks-some : (o : Option Need) → is_some o ≡ true → o ≢ None
lacks-some None some = absurd (let no : false ≡ true = some in cc)
lacks-some (Some need) some = λ none. cc

-- A report about a program is made with the libraries that were found.
module _ (program : List ℕ) (base : ℕ) (found : Found) (libraries : List Named) (r : Result Told Refusal) (same : libraries ≡ map object_of found.libraries) where
  pub whole-found : found.missing ≡ None → IfOk r (λ told. IsPlacedText (place base (available program libraries)) told.number told.text.items)
      → IfOk r (λ told. IsFoundText program base found told.number told.text.items)
  whole-found none h = by r h
    where
      by : (r : Result Told Refusal) → IfOk r (λ told. IsPlacedText (place base (available program libraries)) told.number told.text.items)
          → IfOk r (λ told. IsFoundText program base found told.number told.text.items)
      by (Ok told) h = inl (none, subst (λ ls. IsPlacedText (place base (available program ls)) told.number told.text.items) same h)
      by (Err why) h = tt

  pub whole-unfound : found.missing ≡ None → IfErr r (IsUnplaced (place base (available program libraries))) → IfErr r (IsUnfoundText program base found)
  whole-unfound none h = by r h
    where
      by : (r : Result Told Refusal) → IfErr r (IsUnplaced (place base (available program libraries))) → IfErr r (IsUnfoundText program base found)
      by (Ok told) h = tt
      by (Err why) h = inl (none, subst (λ ls. IsUnplaced (place base (available program ls)) why) same h)

  pub lacking-found : found.missing ≢ None → IfOk r (λ told. told.number ≡ 103) → IfOk r (λ told. told.text.items ≡ dependencies_text (names_of libraries) (available program libraries))
      → IfOk r (λ told. IsFoundText program base found told.number told.text.items)
  lacking-found some number text = by r number text
    where
      by : (r : Result Told Refusal) → IfOk r (λ told. told.number ≡ 103) → IfOk r (λ told. told.text.items ≡ dependencies_text (names_of libraries) (available program libraries))
          → IfOk r (λ told. IsFoundText program base found told.number told.text.items)
      by (Ok told) number text = inr (some, number, subst (λ ls. told.text.items ≡ dependencies_text (names_of ls) (available program ls)) same text)
      by (Err why) number text = tt

pub lacking-unfound : (program : List ℕ) (base : ℕ) (found : Found) (r : Result Told Refusal) → IfErr r (λ why. why ≡ refusal.OutOfMemory) → IfErr r (IsUnfoundText program base found)
lacking-unfound program base found (Ok told) h = tt
lacking-unfound program base found (Err why) h = inr h

-- a program that is refused by itself isn't refused for a missing library or an undefined symbol
own-refusal : (program : List ℕ) (base : ℕ) (e : BindRefusal) → program_refusal program base ≡ Some e → ((a b : List ℕ) → e ≡ bind.Missing a b → ⊥) × ((a b : List ℕ) → e ≡ bind.Undefined a b → ⊥)
unfolding program_refusal
own-refusal program base e h = by (first_file_refusal program) (is_good_base program base) h
  where
    by : (o : Option FileRefusal) (good : Bool) → first_of (option_map bind.Program o ∷ (bind.BadBase when not good) ∷ []) ≡ Some e
        → ((a b : List ℕ) → e ≡ bind.Missing a b → ⊥) × ((a b : List ℕ) → e ≡ bind.Undefined a b → ⊥)
    by (Some r) good h = ((λ a b is. cc), (λ a b is. cc))
    by None false h = ((λ a b is. cc), (λ a b is. cc))
    by None true h = cc

module _ (s : State) (program : List ℕ) (base : ℕ) where
  -- if a bind isn't refused, or a symbol is undefined, the text states what the symbols are bound to
  told-of-symbols : (r : Option BindRefusal) → OnlyUndefined r → told_text s program base r ≡ Some (bindings_text (bound_objects s program base))
  told-of-symbols None only = refl
  told-of-symbols (Some (bind.Undefined object symbol)) only = refl
  told-of-symbols (Some (bind.Program r)) only = absurd only
  told-of-symbols (Some bind.BadBase) only = absurd only
  told-of-symbols (Some (bind.Missing needer name)) only = absurd only
  told-of-symbols (Some bind.NoRoom) only = absurd only
  told-of-symbols (Some bind.OutOfMemory) only = absurd only

  -- The program isn't refused by itself, and these libraries were found for it.
  module _ (found : Found) (taken : program_refusal program base ≡ None) (is : IsFoundFor s program found) where
    is-placed : found.missing ≡ None → binding_refusal s program base ≡ placed_refusal (bound_objects s program base)
    is-placed none = placed-is program base (objects s) (preload_numbers s) (program-taken program base taken) (program-based program base taken) (is.lacks ∙ none)

    placed-objects : place base (found_objects program found) ≡ bound_objects s program base
    placed-objects = ap (place base) (sym is.order)

    whole-said : found.missing ≡ None → (number : ℕ) (said : List ℕ) → IsPlacedText (bound_objects s program base) number said → IsText s program base number said
    whole-said none number said placed =
        let os = bound_objects s program base in
        let refused : binding_refusal s program base ≡ undefined_refusal os = is-placed none ∙ placed-left os placed.room in
        record {
          libraries = is.are;
          text = ap (told_text s program base) refused ∙ told-of-symbols (undefined_refusal os) (only-undefined os) ∙ ap (λ t. Some t) (sym placed.text);
          number_is = placed.number_is ∙ ap bound_number (sym refused);
        }

    lacking-said : (need : Need) → found.missing ≡ Some need → (number : ℕ) (said : List ℕ) → number ≡ 103 → said ≡ found_text program found → IsText s program base number said
    lacking-said need some number said numbered text =
        let refused : binding_refusal s program base ≡ Some (bind.Missing need.needer need.name) =
        order-answer program base (objects s) (preload_numbers s) (order.Missing need.needer need.name) (program-taken program base taken) (program-based program base taken) (is.lacks ∙ some) in
        let here = load_order program (objects s) (preload_numbers s) in
        let same : found_text program found ≡ dependencies_text (names_of (objects s)) here =
        ap (dependencies_text (names_of (map object_of found.libraries))) (sym is.order)
        ∙ sym (texts-same (names_of (objects s)) (names_of (map object_of found.libraries)) here is.known) in
        record {
          libraries = is.are;
          text = ap (told_text s program base) refused ∙ ap (λ t. Some t) (sym (text ∙ same));
          number_is = numbered ∙ ap bound_number (sym refused);
        }

    -- a report about the libraries that were found, or its refusal, is one about the installed libraries
    pub found-said : (number : ℕ) (said : List ℕ) → IsFoundText program base found number said → IsText s program base number said
    found-said number said (inl (none, placed)) = whole-said none number said (subst (λ os. IsPlacedText os number said) placed-objects placed)
    found-said number said (inr (some, numbered, text)) = by found.missing refl
      where
        by : (m : Option Need) → found.missing ≡ m → IsText s program base number said
        by None h = absurd (some h)
        by (Some need) h = lacking-said need h number said numbered text

    unplaced : found.missing ≡ None → (why : Refusal) → IsUnplaced (bound_objects s program base) why → IsUntold s program base why
    unplaced none why (inl (full, lacks)) =
        subst (IsUntold s program base) (sym full) (is-placed none ∙ placed-room (bound_objects s program base) lacks, refl)
    unplaced none why (inr memory) = subst (IsUntold s program base) (sym memory) tt

    pub found-untold : (why : Refusal) → IsUnfoundText program base found why → IsUntold s program base why
    found-untold why (inl (none, h)) = unplaced none why (subst (λ os. IsUnplaced os why) placed-objects h)
    found-untold why (inr memory) = subst (IsUntold s program base) (sym memory) tt

  -- there is no text about a program that is refused by itself
  pub program-untold : (e : BindRefusal) → IsProgramAnswer program base e → IsUntold s program base (of_bind e)
  program-untold (bind.Program r) h = (program-answer program base (objects s) (preload_numbers s) (bind.Program r) h, refl)
  program-untold bind.BadBase h = (program-answer program base (objects s) (preload_numbers s) bind.BadBase h, refl)
  program-untold (bind.Missing needer name) h = absurd ((own-refusal program base (bind.Missing needer name) h).0 needer name refl)
  program-untold bind.NoRoom h = (program-answer program base (objects s) (preload_numbers s) bind.NoRoom h, refl)
  program-untold (bind.Undefined object symbol) h = absurd ((own-refusal program base (bind.Undefined object symbol) h).1 object symbol refl)
  program-untold bind.OutOfMemory h = tt

  -- if nothing was found, the reason isn't S1 (Device), because no call of a disk of bytes fails
  pub unfound : (old new : Opened ReadOnlyDisk) (why : Refusal) → program_refusal program base ≡ None → IsAt read_only_facts old s → IsRead read_only_facts old new
      → IsFindRefusal read_only_facts old new why → (why ≡ refusal.Damaged → ReadsLibraries s program → ⊥) → IsUntold s program base why
  unfound old new refusal.Device taken at read h damaged = absurd (omega (arith, h, no_failure old.disk new.disk (record { either = inl (read.unchanged refl).log })))
  unfound old new refusal.Reopen taken at read h damaged = absurd (usable old.failed at.usable h)
    where
      usable : (b : Bool) → b ≡ false → b ≡ true → ⊥
      usable b usual failed = cc
  unfound old new refusal.Damaged taken at read h damaged = (taken, damaged refl)
  unfound old new refusal.OutOfMemory taken at read h damaged = tt
  unfound old new other taken at read h damaged = absurd h

-- ---- The statuses with which there is a text

-- if there is a text, its status is 0, 103 or 105
pub text-number : (s : State) (program : List ℕ) (base number : ℕ) (said : List ℕ) → IsText s program base number said → TellsText number
text-number s program base number said is = subst TellsText (sym is.number_is) (by (binding_refusal s program base) is.text)
  where
    by : (r : Option BindRefusal) → told_text s program base r ≡ Some said → TellsText (bound_number r)
    by None h = inl refl
    by (Some (bind.Undefined object symbol)) h = inr (inr refl)
    by (Some (bind.Missing needer name)) h = inr (inl refl)
    by (Some (bind.Program r)) h = cc
    by (Some bind.BadBase) h = cc
    by (Some bind.NoRoom) h = cc
    by (Some bind.OutOfMemory) h = cc

-- a status other than 0, 103 and 105 isn't the number of a text
pub another : (number status : ℕ) → TellsText number → status ≢ 0 → status ≢ 103 → status ≢ 105 → status ≢ number
another number status (inl h) done missing undefined = λ e. done (e ∙ h)
another number status (inr (inl h)) done missing undefined = λ e. missing (e ∙ h)
another number status (inr (inr h)) done missing undefined = λ e. undefined (e ∙ h)

-- with a number other than 0, 103 and 105 there is no text
no-text : (n : ℕ) → n ≢ 0 → n ≢ 103 → n ≢ 105 → TellsText n → ⊥
no-text n done missing undefined (inl h) = done h
no-text n done missing undefined (inr (inl h)) = missing h
no-text n done missing undefined (inr (inr h)) = undefined h

memory-no-text : TellsText out_of_memory → ⊥
memory-no-text tells = no-text out_of_memory (λ e. omega (arith, e)) (λ e. omega (arith, e)) (λ e. omega (arith, e)) tells

store-not-done : (why : StoreRefusal) → store_number why ≢ 0
store-not-done store.Device e = omega (arith, e)
store-not-done why e = omega (arith, e)

store-not-missing : (why : StoreRefusal) → store_number why ≢ 103
store-not-missing store.Device e = omega (arith, e)
store-not-missing why e = omega (arith, e)

store-not-undefined : (why : StoreRefusal) → store_number why ≢ 105
store-not-undefined store.Device e = omega (arith, e)
store-not-undefined why e = omega (arith, e)

module _ (disk program : List ℕ) (base : ℕ) (bytes text : List ℕ) (answer : Answer) (status : ℕ) (tells : TellsText status) where
  -- a refusal without a text has a number other than 0, 103 and 105
  untold-number : (s : State) (why : Refusal) → IsUntold s program base why → TellsText (refusal_number why) → ⊥
  untold-number s (refusal.Bind (bind.Program r)) untold t = no-text 101 (λ e. omega (arith, e)) (λ e. omega (arith, e)) (λ e. omega (arith, e)) t
  untold-number s (refusal.Bind bind.BadBase) untold t = no-text 102 (λ e. omega (arith, e)) (λ e. omega (arith, e)) (λ e. omega (arith, e)) t
  untold-number s (refusal.Bind (bind.Missing needer name)) (refused, none) t = cc
  untold-number s (refusal.Bind bind.NoRoom) untold t = no-text 104 (λ e. omega (arith, e)) (λ e. omega (arith, e)) (λ e. omega (arith, e)) t
  untold-number s (refusal.Bind (bind.Undefined object symbol)) (refused, none) t = cc
  untold-number s (refusal.Bind bind.OutOfMemory) untold t = memory-no-text t
  untold-number s refusal.Damaged untold t = no-text 305 (λ e. omega (arith, e)) (λ e. omega (arith, e)) (λ e. omega (arith, e)) t
  untold-number s refusal.OutOfMemory untold t = memory-no-text t
  untold-number s other untold t = absurd untold

  untold-text : (s : State) (why : Refusal) → IsUntold s program base why → IsToldAlone (Refused why) text answer status → ⊥
  untold-text s why untold (inl said, uncounted) = untold-number s why untold (subst TellsText said.status tells)
  untold-text s why untold (inr wants, uncounted) = memory-no-text (subst TellsText wants.status tells)

  turned-text : (why : StoreRefusal) → IsTurnedAway why text answer status → ⊥
  turned-text why (inl turned, uncounted) = no-text (store_number why) (store-not-done why) (store-not-missing why) (store-not-undefined why) (subst TellsText turned.status tells)
  turned-text why (inr wants, uncounted) = memory-no-text (subst TellsText wants.status tells)

  text-put : (s : State) (number : ℕ) (said : List ℕ) → HoldStore disk s → HoldNoOther disk s → IsText s program base number said → IsGiven number 0 said bytes answer status
      → IsBindingsOf disk program base bytes answer status
  text-put s number said holds only is (inl put, size, count, unlisted, unbound, silent) =
      record { state = s; holds = holds; only = only; said = said; text = subst (λ n. IsText s program base n said) (sym put.0) is; size = size; given = put.1 }
  text-put s number said holds only is (inr small, size, count, unlisted, unbound, silent) =
      absurd (no-text no_room (λ e. omega (arith, e)) (λ e. omega (arith, e)) (λ e. omega (arith, e)) (subst TellsText small.0 tells))

  text-told : (s : State) → HoldStore disk s → HoldNoOther disk s → IsBindingsTold s program base bytes text answer status → IsBindingsOf disk program base bytes answer status
  text-told s holds only (inl (number, said, is, given)) = text-put s number said holds only is given
  text-told s holds only (inr (why, untold, told)) = absurd (untold-text s why untold told)

  pub bindings_given : IsBindingsAnswered disk program base bytes text answer status → IsBindingsOf disk program base bytes answer status
  bindings_given (inl (s, holds, only, told)) = text-told s holds only told
  bindings_given (inr refused) = absurd (turned-text refused.0 refused.2)
