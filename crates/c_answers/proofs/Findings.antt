-- Lemmas about the findings of libraries, to which one finding is appended.
use Rattle.std.proofs.Common.{◌≡◌, ◌≢◌, inl, inr, ℕ, ◌+◌, ◌<◌, ◌≤◌, List, [], ◌∷◌, ◌++◌, length, get_or, set, take}
use Rattle.std.proofs.Common.{sym, ◌∙◌, ap, subst, arith, below_more, get_or-set_other, get_or-set_same}
use Rattle.std.proofs.lemmas.List.{length-append}
use Rattle.states.specs.State.{Library, State}
use Rattle.store.specs.Stands.{no_library}
use Rattle.byte_registry.specs.Bytes.{HoldStore}
use Rattle.c_answers.specs.Check.{IsFoundAt, AreFound, IsCheckAnswered, IsCheckOf, IsCheckTold, library_names, name_start}
use Rattle.c_answers.specs.declared.answer.Answer.{Answer}
use Rattle.c_answers.specs.declared.finding.FindingPlace.{FindingPlace}
use Rattle.c_answers.proofs.Given.{turned_not_done}
use Rattle.c_answers.proofs.Rows.{rows_le, rows_more, size_more, rows_all}

-- the bytes of a library's name in the row
abbrev pub row : Library → List ℕ
row l = l.name ++ 0 ∷ []

-- The buffer has the places of the first `count` libraries, and the next name goes to the offset `end`.
pub record TellFirst (libraries : List Library) (count : ℕ) (findings : List FindingPlace) (bytes : List ℕ) (end : ℕ) : Type 0 where
  pub each : (k : ℕ) → k < count → (d : FindingPlace)
      → IsFoundAt (name_start libraries k) (get_or libraries k no_library) (get_or findings k d)
  pub at : end ≡ name_start libraries count
  pub names : take end bytes ≡ library_names (take count libraries)

-- The name and the finding of library number `i` are put into the buffers.
module _ (libraries : List Library) (i : ℕ) where
  abbrev l : Library
  l = get_or libraries i no_library

  pub names_more : i < length libraries → name_start libraries (i + 1) ≡ name_start libraries i + length (get_or libraries i no_library).name + 1
  names_more lt = omega (arith, size_more row libraries i no_library lt, length-append l.name (0 ∷ []))

  -- if the names of all libraries have room, so does this name
  pub names_fit : i < length libraries → name_start libraries i + length (get_or libraries i no_library).name + 1 ≤ length (library_names libraries)
  names_fit lt = omega (arith, names_more lt, rows_le row libraries (i + 1))

  -- putting this library's place doesn't change the places before
  before : (findings : List FindingPlace) (place : FindingPlace) (k : ℕ) → k < i
      → ((d : FindingPlace) → IsFoundAt (name_start libraries k) (get_or libraries k no_library) (get_or findings k d))
      → (d : FindingPlace) → IsFoundAt (name_start libraries k) (get_or libraries k no_library) (get_or (set findings i place) k d)
  before findings place k lt told d =
      let ne : k ≢ i = omega (arith, lt) in
      subst (IsFoundAt (name_start libraries k) (get_or libraries k no_library)) (sym (get_or-set_other findings i k place d ne)) (told d)

  pub tell_one : (findings : List FindingPlace) (names names' : List ℕ) (at at' : ℕ) (place : FindingPlace) → i < length libraries → i < length findings
      → TellFirst libraries i findings names at → IsFoundAt at (get_or libraries i no_library) place
      → at' ≡ at + length (get_or libraries i no_library).name + 1 → take at' names' ≡ take at names ++ row (get_or libraries i no_library)
      → TellFirst libraries (i + 1) (set findings i place) names' at'
  tell_one findings names names' at at' place lt room told found end put = record {
    each = below_more
        (λ k. (d : FindingPlace) → IsFoundAt (name_start libraries k) (get_or libraries k no_library) (get_or (set findings i place) k d))
        i
        (λ k h. before findings place k h (told.each k h))
        (λ d. subst (IsFoundAt (name_start libraries i) l) (sym (get_or-set_same findings i place d room)) (subst (λ n. IsFoundAt n l place) told.at found));
    at = omega (arith, end, told.at, names_more lt);
    names = put ∙ ap (λ r. r ++ row l) told.names ∙ sym (rows_more row libraries i no_library lt);
  }

-- if the places of all libraries are in the buffer, it has the findings of all libraries
pub tell_all : (libraries : List Library) (count : ℕ) (findings : List FindingPlace) (names : List ℕ) (at : ℕ)
    → length libraries ≤ count → TellFirst libraries count findings names at → AreFound libraries findings names at
tell_all libraries count findings names at le told = record {
  each = λ i lt. told.each i (omega (arith, lt, le));
  size = told.at ∙ ap length (rows_all row libraries count le);
  names = told.names ∙ rows_all row libraries count le;
}

-- If the status of a check is 0, the buffers have the findings.
module _ (disk : List ℕ) (findings : List FindingPlace) (names text : List ℕ) (answer : Answer) (status : ℕ) (zero : status ≡ 0) where
  told : (s : State) → HoldStore disk s
      → IsCheckTold s.libraries findings names text answer status
      → IsCheckOf disk findings names answer
  told s holds (inl (inl given, count, unlisted, unbound, silent)) = record { state = s; holds = holds; count = count; found = given.1 }
  told s holds (inl (inr lacks, count, unlisted, unbound, silent)) = absurd (omega (arith, zero, lacks.0))
  told s holds (inr (wants, uncounted)) = absurd (omega (arith, zero, wants.status))

  pub check_given : IsCheckAnswered disk findings names text answer status → IsCheckOf disk findings names answer
  check_given (inl asked) = told asked.0 asked.1 asked.2
  check_given (inr refused) = absurd (turned_not_done refused.0 text answer status zero refused.2)
