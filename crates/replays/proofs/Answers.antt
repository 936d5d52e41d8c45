-- The answers to the requests of a dump, and the states after the requests.
use Rattle.std.proofs.Common.{◌≡◌, ℕ, ◌+◌, List, [], ◌∷◌, ◌++◌, length, length-append, map, Option, None, Some, refl, sym, subst, ◌∙◌, arith, inl, inr}
use Rattle.std.specs.Prelude.{◌⊎◌, All, fold}
use Rattle.std.proofs.Math.Seq.{get_or-append_seam}
use Rattle.std.proofs.lemmas.List.Elements.{All-append, All-cons, All-nil}
use Rattle.states.specs.State.{Library, State, empty_state}
use Rattle.requests.specs.Phase.{Phase}
use Rattle.requests.specs.Request.{Request, install, replace, remove, set_preloads, bind, list}
use Rattle.requests.specs.State.{IsState}
use Rattle.requests.specs.Step.{Step, accepted, refusal_at}
use Rattle.requests.specs.declared.refusal.Refusal.{Refusal}
use Rattle.requests.specs.declared.refusal.Refusal.TheVariants as refusal
use Rattle.requests.specs.declared.refusal.Refusal.TheVariants.{Full, Fragmented}
use Rattle.requests.specs.declared.reply.Reply.{Reply}
use Rattle.requests.specs.declared.reply.Reply.TheVariants.{Done, Refused}
use Rattle.requests.specs.declared.reply.Reply.TheVariants as reply
use Rattle.replays.specs.Replay.{HasRoomFor, IsFault, LacksRoomAtMost, preload_requests, requests_for}
use Rattle.replays.proofs.States.{install_of, lacks_room}

-- ---- the requests are changes

abbrev pub IsChange : Request → Type 0
IsChange (install bytes) = Unit {0}
IsChange (set_preloads names) = Unit {0}
IsChange request = ⊥

installs_change : (libraries : List Library) → All IsChange (map install_of libraries)
installs_change [] = All-nil IsChange
installs_change (l ∷ libraries) = All-cons IsChange (install_of l) (map install_of libraries) tt (installs_change libraries)

preloads_change : (names : List (List ℕ)) → All IsChange (preload_requests names)
preloads_change [] = All-nil IsChange
preloads_change (name ∷ names) = All-cons IsChange (set_preloads (name ∷ names)) [] tt (All-nil IsChange)

pub all_change : (s : State) → All IsChange (requests_for s)
all_change s = All-append IsChange (map install_of s.libraries) (preload_requests s.preloads) (installs_change s.libraries) (preloads_change s.preloads)

pub each_changes : (s : State) (front rest : List Request) (request : Request) → requests_for s ≡ front ++ request ∷ rest → IsChange request
each_changes s front rest request is =
    subst IsChange (get_or-append_seam front request rest request) (subst (All IsChange) is (all_change s) (length front) request (omega (arith, length-append front (request ∷ rest))))

-- ---- if there is room

pub room_taken : (s : State) (p : Phase) (request : Request) → LacksRoomAtMost s p request → HasRoomFor s p request → refusal_at p request ≡ None
room_taken s p request lacks room = by (refusal_at p request) lacks.only refl
  where
    by : (o : Option Refusal) → (o ≡ None) ⊎ (o ≡ Some Full) ⊎ (o ≡ Some Fragmented) → refusal_at p request ≡ o → o ≡ None
    by o (inl none) is = none
    by o (inr (inl full)) is = absurd (omega (arith, lacks.full (is ∙ full), room.sectors))
    by o (inr (inr fragmented)) is = absurd (room.runs (lacks.fragmented (is ∙ fragmented)))

-- a change that no test refuses is answered Done, unless the disk fails or memory is refused
pub done_or_fault : (p p' : Phase) (request : Request) (answer : Reply) → IsChange request → refusal_at p request ≡ None → Step p request answer p' → (answer ≡ Done) ⊎ IsFault answer
done_or_fault p p' request Done change none h = inl refl
done_or_fault p p' request (Refused refusal.Device) change none h = inr tt
done_or_fault p p' request (Refused refusal.Reopen) change none h = inr tt
done_or_fault p p' request (Refused refusal.OutOfMemory) change none h = inr tt
done_or_fault p p' request (Refused r) change none h = absurd (let no = sym none ∙ h.1 in cc)
done_or_fault p p' (install bytes) (reply.Listing l) change none h = absurd (let no : reply.Listing l ≡ Done = h.2 in cc)
done_or_fault p p' (set_preloads names) (reply.Listing l) change none h = absurd (let no : reply.Listing l ≡ Done = h.2 in cc)
done_or_fault p p' (install bytes) (reply.Bound i) change none h = absurd (let no : reply.Bound i ≡ Done = h.2 in cc)
done_or_fault p p' (set_preloads names) (reply.Bound i) change none h = absurd (let no : reply.Bound i ≡ Done = h.2 in cc)
done_or_fault p p' (replace bytes) answer change none h = absurd change
done_or_fault p p' (remove name) answer change none h = absurd change
done_or_fault p p' (bind program base) answer change none h = absurd change
done_or_fault p p' list answer change none h = absurd change

module _ (s : State) (h : IsState s) where
  pub answered : (front rest : List Request) (request : Request) (p p' : Phase) (answer : Reply) → requests_for s ≡ front ++ request ∷ rest
      → p.state ≡ fold accepted empty_state front → HasRoomFor s p request → Step p request answer p' → (answer ≡ Done) ⊎ IsFault answer
  answered front rest request p p' answer is now room step =
      done_or_fault p p' request answer (each_changes s front rest request is) (room_taken s p request (lacks_room s h p front rest request is now) room) step
