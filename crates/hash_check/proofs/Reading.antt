-- The refusal of a file follows from that of its object and that of admission.
use Rattle.std.proofs.Common.{◌≡◌, ℕ, Bool, true, false, List, [], ◌∷◌, Option, Some, None, refl, ap, ◌∙◌, inr}
use Rattle.std.specs.Prelude.{◌&&◌, not}
use Rattle.std.specs.Option.{option_map}
use Rattle.elf_file.specs.FirstOf.{◌when◌, first_of}
use Rattle.elf_file.specs.declared.refusal.ObjectRefusal.{ObjectRefusal}
use Rattle.elf_file.proofs.FirstOf.{none_at, when_none}
use Rattle.elf_dynamic.specs.Refusal.{first_refusal}
use Rattle.hash_check.specs.Definition.{has_duplicate_definition}
use Rattle.hash_check.specs.Admission.{has_bad_hash_table, has_good_words, has_ending_walks, meets_exports, admission_refusal}
use Rattle.hash_check.specs.FileRefusal.{file_tests, first_file_refusal, ReadNeedsMemory}
use Rattle.hash_check.specs.declared.refusal.AdmitRefusal.TheVariants as admit
use Rattle.hash_check.specs.declared.file_refusal.FileRefusal.{FileRefusal}
use Rattle.hash_check.specs.declared.file_refusal.FileRefusal.TheVariants.{Object, DuplicateDefinition, BadHashTable}

-- the two tests of admission: `d` and `b` are whether they apply
abbrev later : Bool → Bool → List (Option FileRefusal)
later d b = (DuplicateDefinition when d) ∷ (BadHashTable when b) ∷ []

taken-by : (d b : Bool) → first_of ((admit.DuplicateDefinition when d) ∷ (admit.BadHashTable when b) ∷ []) ≡ None → first_of (later d b) ≡ None
taken-by true b h = cc
taken-by false true h = cc
taken-by false false h = refl

names-by : (d b : Bool) → first_of ((admit.DuplicateDefinition when d) ∷ (admit.BadHashTable when b) ∷ []) ≡ Some admit.DuplicateDefinition
    → first_of (later d b) ≡ Some DuplicateDefinition
names-by true b h = refl
names-by false true h = cc
names-by false false h = cc

table-by : (d b : Bool) → first_of ((admit.DuplicateDefinition when d) ∷ (admit.BadHashTable when b) ∷ []) ≡ Some admit.BadHashTable
    → first_of (later d b) ≡ Some BadHashTable
table-by true b h = cc
table-by false true h = refl
table-by false false h = cc

-- if no test of the object applies, only the tests of admission decide
behind : (o : Option ObjectRefusal) (rest : List (Option FileRefusal)) → o ≡ None → first_of (option_map Object o ∷ rest) ≡ first_of rest
behind o rest h = ap (λ o. first_of (option_map Object o ∷ rest)) h

-- a file is accepted if its object is accepted and admitted
pub taken : (file : List ℕ) → first_refusal file ≡ None → admission_refusal file ≡ None → first_file_refusal file ≡ None
unfolding first_file_refusal admission_refusal
taken file read admitted =
    behind (first_refusal file) (later (has_duplicate_definition file) (has_bad_hash_table file)) read
    ∙ taken-by (has_duplicate_definition file) (has_bad_hash_table file) admitted

-- if a test of the object applies, the file is refused with the object's refusal
pub of_object : (file : List ℕ) (refusal : ObjectRefusal) → first_refusal file ≡ Some refusal → first_file_refusal file ≡ Some (Object refusal)
unfolding first_file_refusal
of_object file refusal h = ap (λ o. first_of (option_map Object o ∷ later (has_duplicate_definition file) (has_bad_hash_table file))) h

-- if admission refuses two exports of one name, the file is refused for this
pub of_names : (file : List ℕ) → first_refusal file ≡ None → admission_refusal file ≡ Some admit.DuplicateDefinition → first_file_refusal file ≡ Some DuplicateDefinition
unfolding first_file_refusal admission_refusal
of_names file read refused =
    behind (first_refusal file) (later (has_duplicate_definition file) (has_bad_hash_table file)) read
    ∙ names-by (has_duplicate_definition file) (has_bad_hash_table file) refused

-- if admission refuses the hash table, the file is refused for this
pub of_table : (file : List ℕ) → first_refusal file ≡ None → admission_refusal file ≡ Some admit.BadHashTable → first_file_refusal file ≡ Some BadHashTable
unfolding first_file_refusal admission_refusal
of_table file read refused =
    behind (first_refusal file) (later (has_duplicate_definition file) (has_bad_hash_table file)) read
    ∙ table-by (has_duplicate_definition file) (has_bad_hash_table file) refused

unrefused : (o : Option ObjectRefusal) → option_map Object o ≡ None → o ≡ None
unrefused None h = refl
unrefused (Some refusal) h = cc

good : (words rest : Bool) → not (words && rest) ≡ false → words ≡ true
good true rest h = refl
good false rest h = cc

good-words : (file : List ℕ) → has_bad_hash_table file ≡ false → has_good_words file ≡ true
unfolding has_bad_hash_table
good-words file h = good (has_good_words file) (has_ending_walks file && meets_exports file) h

-- the tests of its object don't refuse an accepted file
pub object_taken : (file : List ℕ) → first_file_refusal file ≡ None → first_refusal file ≡ None
unfolding first_file_refusal
object_taken file h = unrefused (first_refusal file) (none_at (file_tests file) 0 h)

table-good : (file : List ℕ) → first_file_refusal file ≡ None → has_bad_hash_table file ≡ false
unfolding first_file_refusal
table-good file h = when_none BadHashTable (has_bad_hash_table file) (none_at (file_tests file) 2 h)

admitted-by : (d b : Bool) → d ≡ false → b ≡ false → first_of ((admit.DuplicateDefinition when d) ∷ (admit.BadHashTable when b) ∷ []) ≡ None
admitted-by false false one two = refl
admitted-by true b one two = cc
admitted-by false true one two = cc

-- the tests of admission don't refuse an accepted file
pub admission_taken : (file : List ℕ) → first_file_refusal file ≡ None → admission_refusal file ≡ None
unfolding first_file_refusal admission_refusal
admission_taken file h =
    let unique = when_none DuplicateDefinition (has_duplicate_definition file) (none_at (file_tests file) 1 h) in
    admitted-by (has_duplicate_definition file) (has_bad_hash_table file) unique (table-good file h)

pub ruleset accepted_tests = (object_taken, admission_taken)

-- reading an accepted file needs memory
pub taken_with_memory : (file : List ℕ) → first_file_refusal file ≡ None → ReadNeedsMemory file
taken_with_memory file h = (object_taken file h, inr (good-words file (table-good file h)))

-- the rules about the answers of `read`
pub ruleset first_refusals = (taken, of_object, of_names, of_table)
