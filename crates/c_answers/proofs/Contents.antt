-- If the status of a call about a disk's contents is 0, the call returned what was asked for.
use Rattle.std.proofs.Common.{◌≡◌, ◌≢◌, ◌⊎◌, ◌↔◌, ◌<◌, ℕ, List, All, inl, inr, length, take, ap, refl, arith}
use Rattle.std.specs.Prelude.{Result, Err}
use Rattle.states.specs.State.{State}
use Rattle.byte_registry.specs.Bytes.{HoldStore}
use Rattle.contents.specs.File.{HasFile}
use Rattle.contents.specs.declared.unread.Unread.{Unread}
use Rattle.contents.specs.declared.unread.Unread.TheVariants as unread
use Rattle.c_answers.specs.Contents.{refusal_of, IsDigestAnswered, IsDigestOf, IsDigestTold, IsFileAnswered, IsFileOf, IsFileTold, IsInfoAnswered, IsInfoOf, IsUnread}
use Rattle.c_answers.specs.Numbers.{done, no_room}
use Rattle.c_answers.specs.declared.answer.Answer.{Answer}
use Rattle.c_answers.specs.declared.information.Information.{Information}
use Rattle.c_answers.proofs.Given.{refused_not_done, turned_not_done}

pub info_given : (disk : List ℕ) (information : Information) (text : List ℕ) (answer : Answer) (status : ℕ) → status ≡ 0
    → IsInfoAnswered disk information text answer status → IsInfoOf disk information
info_given disk information text answer status zero (inl told) = told.1
info_given disk information text answer status zero (inr refused) = absurd (turned_not_done refused.0 text answer status zero refused.2)

file_put : (disk name bytes text : List ℕ) (s : State) (file : List ℕ) (answer : Answer) (status : ℕ) → status ≡ 0 → HoldStore disk s
    → HasFile s name file → answer.bytes ≡ length file → ((status ≡ done) × (take answer.bytes bytes ≡ file))
    ⊎ ((status ≡ no_room) × (length bytes < length file)) → IsFileOf disk name bytes answer
file_put disk name bytes text s file answer status zero holds has size (inl put) = record { state = s; holds = holds; file = file; has = has; size = size; given = put.1 }
file_put disk name bytes text s file answer status zero holds has size (inr small) = absurd (omega (arith, zero, small.0))

file_told : (disk name bytes text : List ℕ) (s : State) (answer : Answer) (status : ℕ) → status ≡ 0 → HoldStore disk s → IsFileTold s name bytes text answer status → IsFileOf disk name bytes answer
file_told disk name bytes text s answer status zero holds (inl given) = file_put disk name bytes text s given.0 answer status zero holds given.1 given.2.1 given.2.0
file_told disk name bytes text s answer status zero holds (inr told) = absurd (refused_not_done (refusal_of told.0) text answer status zero told.2.0)

pub file_given : (disk name bytes text : List ℕ) (answer : Answer) (status : ℕ) → status ≡ 0 → IsFileAnswered disk name bytes text answer status → IsFileOf disk name bytes answer
file_given disk name bytes text answer status zero (inl asked) = file_told disk name bytes text asked.0 answer status zero asked.1 asked.2
file_given disk name bytes text answer status zero (inr refused) = absurd (turned_not_done refused.0 text answer status zero refused.2)

digest_told : (disk name digest text : List ℕ) (s : State) (answer : Answer) (status : ℕ) → status ≡ 0 → HoldStore disk s → IsDigestTold s name digest text answer status
    → IsDigestOf disk name digest
digest_told disk name digest text s answer status zero holds (inl given) = record { state = s; holds = holds; file = given.0; has = given.1; is = given.2 }
digest_told disk name digest text s answer status zero holds (inr told) = absurd (refused_not_done (refusal_of told.0) text answer status zero told.2.0)

pub digest_given : (disk name digest text : List ℕ) (answer : Answer) (status : ℕ) → status ≡ 0 → IsDigestAnswered disk name digest text answer status → IsDigestOf disk name digest
digest_given disk name digest text answer status zero (inl asked) = digest_told disk name digest text asked.0 answer status zero asked.1 asked.2
digest_given disk name digest text answer status zero (inr refused) = absurd (turned_not_done refused.0 text answer status zero refused.2)

-- an answer without bytes is C3 (NotInstalled) exactly if no library has the name, and never S1
-- (Device)
pub unread_is : (s : State) (name : List ℕ) (why : Unread) → (why ≡ unread.NotInstalled) ↔ All (λ library. library.name ≢ name) s.libraries → why ≢ unread.Unreadable → IsUnread s name why
unread_is s name unread.NotInstalled is read = is.0 refl
unread_is s name unread.Unreadable is read = absurd (read refl)
unread_is s name unread.OutOfMemory is read = λ none. wants (is.1 none)
  where
    wants : unread.OutOfMemory ≡ unread.NotInstalled → ⊥
    wants e = cc

-- the same fact, if the answer is the error of a result
pub unread_of : {X : Type 0} (s : State) (name : List ℕ) (why : Unread)
    → (◌≡◌ {A = Result X Unread} (Err why) (Err unread.NotInstalled)) ↔ All (λ library. library.name ≢ name) s.libraries → why ≢ unread.Unreadable
    → IsUnread s name why
unread_of {X = X} s name why is read = unread_is s name why ((λ e. is.0 (ap (λ (u : Unread). let r : Result X Unread = Err u in r) e)), (λ none. same (is.1 none))) read
  where
    same : (◌≡◌ {A = Result X Unread} (Err why) (Err unread.NotInstalled)) → why ≡ unread.NotInstalled
    same e = cc
