-- The answers of binding a program follow from the answers of its steps.
use Rattle.std.proofs.Common.{◌≡◌, ℕ, Bool, true, false, List, [], ◌∷◌, Option, Some, None, refl, ap, ◌∙◌, inl, inr}
use Rattle.std.specs.Prelude.{not}
use Rattle.std.specs.Option.{option_map}
use Rattle.elf_file.specs.FirstOf.{◌when◌, first_of}
use Rattle.hash_check.specs.FileRefusal.{first_file_refusal}
use Rattle.hash_check.specs.declared.file_refusal.FileRefusal.{FileRefusal}
use Rattle.hash_check.proofs.Reading.{taken_with_memory}
use Rattle.scope.specs.Levels.{levels, joined_levels}
use Rattle.scope.specs.LoadOrder.{Need, missing, load_order, load_places}
use Rattle.scope.specs.Objects.{Named, file_at}
use Rattle.scope.specs.Refusal.{IsRefusal}
use Rattle.scope.specs.declared.refusal.OrderRefusal.{OrderRefusal}
use Rattle.scope.specs.declared.refusal.OrderRefusal.TheVariants as order
use Rattle.image.specs.Placement.{objects_of, is_good_base}
use Rattle.image.specs.Refusal.{placed_refusal, missing_by, of_order, program_refusal, bind_refusal, WantsMemory, IsProgramAnswer, IsAnswer, IsPlacedAnswer, IsFirstOrWantsMemory}
use Rattle.image.specs.declared.refusal.BindRefusal.{BindRefusal}
use Rattle.image.specs.declared.refusal.BindRefusal.TheVariants.{Program, BadBase, Missing, NoRoom, Undefined, OutOfMemory}

behind-by : (refusal : Option FileRefusal) (good : Bool) (rest : List (Option BindRefusal)) → refusal ≡ None → good ≡ true
    → first_of (option_map Program refusal ∷ (BadBase when not good) ∷ rest) ≡ first_of rest
behind-by (Some r) good rest taken at = cc
behind-by None false rest taken at = cc
behind-by None true rest taken at = refl

-- if the file is accepted and the base is good, only the tests B3 to B5 decide
pub behind : (file : List ℕ) (base : ℕ) (libraries : List Named) (preloads : List ℕ) → first_file_refusal file ≡ None → is_good_base file base ≡ true
    → bind_refusal file base libraries preloads
    ≡ first_of (option_map missing_by (missing file libraries preloads) ∷ placed_refusal (objects_of file base libraries preloads) ∷ [])
unfolding bind_refusal
behind file base libraries preloads taken good =
    behind-by (first_file_refusal file) (is_good_base file base)
    (option_map missing_by (missing file libraries preloads) ∷ placed_refusal (objects_of file base libraries preloads) ∷ []) taken good

alone-by : (o : Option BindRefusal) → first_of (o ∷ []) ≡ o
alone-by None = refl
alone-by (Some e) = refl

-- if `program_refusal` refuses nothing, the program's file is accepted and the base is good
pub program-taken : (file : List ℕ) (base : ℕ) → program_refusal file base ≡ None → first_file_refusal file ≡ None
unfolding program_refusal
program-taken file base h = by (first_file_refusal file) (is_good_base file base) h
  where
    by : (o : Option FileRefusal) (good : Bool) → first_of (option_map Program o ∷ (BadBase when not good) ∷ []) ≡ None → o ≡ None
    by None good h = refl
    by (Some r) good h = cc

pub program-based : (file : List ℕ) (base : ℕ) → program_refusal file base ≡ None → is_good_base file base ≡ true
unfolding program_refusal
program-based file base h = by (first_file_refusal file) (is_good_base file base) h
  where
    by : (o : Option FileRefusal) (good : Bool) → first_of (option_map Program o ∷ (BadBase when not good) ∷ []) ≡ None → good ≡ true
    by o true h = refl
    by None false h = cc
    by (Some r) false h = cc

own-first : (file : List ℕ) (base : ℕ) (libraries : List Named) (preloads : List ℕ) (e : BindRefusal) → program_refusal file base ≡ Some e
    → bind_refusal file base libraries preloads ≡ Some e
unfolding program_refusal bind_refusal
own-first file base libraries preloads e h =
    by (first_file_refusal file) (is_good_base file base) (option_map missing_by (missing file libraries preloads) ∷ placed_refusal (objects_of file base libraries preloads) ∷ []) h
  where
    by : (o : Option FileRefusal) (good : Bool) (rest : List (Option BindRefusal)) → first_of (option_map Program o ∷ (BadBase when not good) ∷ []) ≡ Some e
        → first_of (option_map Program o ∷ (BadBase when not good) ∷ rest) ≡ Some e
    by (Some r) good rest h = h
    by None false rest h = h
    by None true rest h = cc

-- an answer of `admit_program` is also an answer of the whole bind
pub program-answer : (file : List ℕ) (base : ℕ) (libraries : List Named) (preloads : List ℕ) (e : BindRefusal) → IsProgramAnswer file base e
    → IsAnswer file base libraries preloads e
program-answer file base libraries preloads (Program r) h = own-first file base libraries preloads (Program r) h
program-answer file base libraries preloads BadBase h = own-first file base libraries preloads BadBase h
program-answer file base libraries preloads (Missing needer name) h = own-first file base libraries preloads (Missing needer name) h
program-answer file base libraries preloads NoRoom h = own-first file base libraries preloads NoRoom h
program-answer file base libraries preloads (Undefined object symbol) h = own-first file base libraries preloads (Undefined object symbol) h
program-answer file base libraries preloads OutOfMemory h = h

-- if a library is missing, the bind's refusal names it
missing-is : (file : List ℕ) (base : ℕ) (libraries : List Named) (preloads : List ℕ) (need : Need) → first_file_refusal file ≡ None → is_good_base file base ≡ true
    → missing file libraries preloads ≡ Some need → bind_refusal file base libraries preloads ≡ Some (missing_by need)
missing-is file base libraries preloads need taken good h =
    behind file base libraries preloads taken good
    ∙ ap (λ m. first_of (option_map missing_by m ∷ placed_refusal (objects_of file base libraries preloads) ∷ [])) h

-- if no library is missing, the bind's refusal is that of the placed objects
pub placed-is : (file : List ℕ) (base : ℕ) (libraries : List Named) (preloads : List ℕ) → first_file_refusal file ≡ None → is_good_base file base ≡ true
    → missing file libraries preloads ≡ None → bind_refusal file base libraries preloads ≡ placed_refusal (objects_of file base libraries preloads)
placed-is file base libraries preloads taken good h =
    behind file base libraries preloads taken good
    ∙ ap (λ m. first_of (option_map missing_by m ∷ placed_refusal (objects_of file base libraries preloads) ∷ [])) h
    ∙ alone-by (placed_refusal (objects_of file base libraries preloads))

-- if there is no load order, the bind answers with the load order's refusal
pub order-answer : (file : List ℕ) (base : ℕ) (libraries : List Named) (preloads : List ℕ) (e : OrderRefusal) → first_file_refusal file ≡ None
    → is_good_base file base ≡ true → IsRefusal (missing file libraries preloads) e → IsAnswer file base libraries preloads (of_order e)
order-answer file base libraries preloads (order.Missing needer name) taken good h =
    missing-is file base libraries preloads (record { needer = needer; name = name }) taken good h
order-answer file base libraries preloads order.OutOfMemory taken good h = taken_with_memory file taken

answer-by : (file : List ℕ) (base : ℕ) (libraries : List Named) (preloads : List ℕ) (e : BindRefusal) → WantsMemory file
    → bind_refusal file base libraries preloads ≡ Some e → IsAnswer file base libraries preloads e
answer-by file base libraries preloads (Program r) w h = h
answer-by file base libraries preloads BadBase w h = h
answer-by file base libraries preloads (Missing needer name) w h = h
answer-by file base libraries preloads NoRoom w h = h
answer-by file base libraries preloads (Undefined object symbol) w h = h
answer-by file base libraries preloads OutOfMemory w h = w

memory-by : (file : List ℕ) (base : ℕ) (libraries : List Named) (preloads : List ℕ) (e : BindRefusal) → WantsMemory file
    → e ≡ OutOfMemory → IsAnswer file base libraries preloads e
memory-by file base libraries preloads (Program r) w h = cc
memory-by file base libraries preloads BadBase w h = cc
memory-by file base libraries preloads (Missing needer name) w h = cc
memory-by file base libraries preloads NoRoom w h = cc
memory-by file base libraries preloads (Undefined object symbol) w h = cc
memory-by file base libraries preloads OutOfMemory w h = w

-- an answer of binding the placed objects is also an answer of the whole bind
pub placed-answer : (file : List ℕ) (base : ℕ) (libraries : List Named) (preloads : List ℕ) (e : BindRefusal) → first_file_refusal file ≡ None
    → bind_refusal file base libraries preloads ≡ placed_refusal (objects_of file base libraries preloads)
    → IsPlacedAnswer (objects_of file base libraries preloads) e → IsAnswer file base libraries preloads e
placed-answer file base libraries preloads e taken is (inl h) = answer-by file base libraries preloads e (taken_with_memory file taken) (is ∙ h)
placed-answer file base libraries preloads e taken is (inr h) = memory-by file base libraries preloads e (taken_with_memory file taken) h.0

-- an answer of the tests B3 to B5 is also an answer of the whole bind, if B1 and B2 don't apply
pub later-answer : (file : List ℕ) (base : ℕ) (libraries : List Named) (preloads : List ℕ) (e : BindRefusal) → first_file_refusal file ≡ None → is_good_base file base ≡ true
    → IsFirstOrWantsMemory (first_of (option_map missing_by (missing file libraries preloads) ∷ placed_refusal (objects_of file base libraries preloads) ∷ [])) e
    → IsAnswer file base libraries preloads e
later-answer file base libraries preloads e taken good (inl h) =
    answer-by file base libraries preloads e (taken_with_memory file taken) (behind file base libraries preloads taken good ∙ h)
later-answer file base libraries preloads e taken good (inr h) = memory-by file base libraries preloads e (taken_with_memory file taken) h

-- the first object of a load order is the program
pub program-first : (file : List ℕ) (libraries : List Named) (preloads : List ℕ) → file_at (load_order file libraries preloads) 0 ≡ file
unfolding load_order load_places joined_levels levels
program-first file libraries preloads = refl
