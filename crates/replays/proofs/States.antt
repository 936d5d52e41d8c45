-- The states between the requests of a dump.
use Rattle.std.proofs.Common.{◌≡◌, ◌<◌, ℕ, ◌+◌, List, [], ◌∷◌, ◌++◌, length, length-append, append-nil, map, refl, sym, ap, subst, ◌∙◌, arith, Some}
use Rattle.std.specs.Prelude.{All, fold}
use Rattle.std.proofs.lemmas.List.{append_assoc, get_or_append_left, length-map}
use Rattle.std.proofs.lemmas.List.Elements.{All-head, All-tail}
use Rattle.std.proofs.lemmas.List.Sums.{fold-append}
use Rattle.states.specs.State.{Library, State, empty_state}
use Rattle.requests.specs.Library.{IsLibrary, name_of}
use Rattle.requests.specs.Phase.{Phase}
use Rattle.requests.specs.Request.{Request, install, set_preloads}
use Rattle.requests.specs.State.{IsState}
use Rattle.requests.specs.Step.{accepted, refusal_at}
use Rattle.requests.specs.declared.refusal.Refusal.TheVariants.{Full}
use Rattle.requests.proofs.Sonames.{name_is}
use Rattle.replays.specs.Replay.{LacksRoomAtMost, copy_of, preload_requests, requests_for, sectors_for}
use Rattle.replays.proofs.Readings.{no_more, same_head, same_tail}
use Rattle.replays.proofs.Refusals.{at_state, install_lacks, last_refused, of_libraries, preloads_lack}

-- the request that installs a library
abbrev pub install_of : Library → Request
install_of l = install l.bytes

-- if one more library is installed, the state is the one after this library, too
install_next : (done : List Library) (l : Library) → name_of l.bytes ≡ l.name → accepted (of_libraries done) (install l.bytes) ≡ of_libraries (done ++ l ∷ [])
install_next done l named =
    let more : length done + 1 ≡ length (done ++ l ∷ []) = omega (arith, length-append done (l ∷ [])) in
    ap (λ (n : List ℕ). let made : State = record { generation = length done + 1; libraries = done ++ record { name = n; bytes = l.bytes } ∷ []; preloads = [] } in made) named
    ∙ ap (λ (g : ℕ). let made : State = record { generation = g; libraries = done ++ l ∷ []; preloads = [] } in made) more

named : (l : Library) → IsLibrary l → name_of l.bytes ≡ l.name
named l is = sym (name_is l.bytes l.name is.named)

pub installed : (done rest : List Library) → All IsLibrary rest → fold accepted (of_libraries done) (map install_of rest) ≡ of_libraries (done ++ rest)
installed done [] h = ap of_libraries (sym (append-nil done))
installed done (l ∷ rest) h =
    ap (λ s. fold accepted s (map install_of rest)) (install_next done l (named l (All-head IsLibrary l rest h)))
    ∙ installed (done ++ l ∷ []) rest (All-tail IsLibrary l rest h)
    ∙ ap of_libraries (append_assoc done (l ∷ []) rest)

-- the state after all requests is the copy
pub leads : (s : State) → All IsLibrary s.libraries → fold accepted empty_state (requests_for s) ≡ copy_of s
leads s h =
    fold-append accepted empty_state (map install_of s.libraries) (preload_requests s.preloads)
    ∙ ap (λ t. fold accepted t (preload_requests s.preloads)) (installed [] s.libraries h)
    ∙ by s.preloads
    ∙ ap (λ (g : ℕ). let made : State = record { generation = g; libraries = s.libraries; preloads = s.preloads } in made) (sym counted)
  where
    counted : length (requests_for s) ≡ length s.libraries + length (preload_requests s.preloads)
    counted = length-append (map install_of s.libraries) (preload_requests s.preloads) ∙ ap (λ n. n + length (preload_requests s.preloads)) (length-map s.libraries install_of)

    by : (ps : List (List ℕ)) → fold accepted (of_libraries s.libraries) (preload_requests ps)
        ≡ record { generation = length s.libraries + length (preload_requests ps); libraries = s.libraries; preloads = ps }
    by [] =
        let none : length s.libraries ≡ length s.libraries + 0 = omega arith in
        ap (λ (g : ℕ). let made : State = record { generation = g; libraries = s.libraries; preloads = [] } in made) none
    by (p ∷ ps) = refl

module _ (s : State) (h : IsState s) (p : Phase) where
  -- after some installs, each later request can be refused only for lack of room
  walk : (done rest : List Library) (front back : List Request) (request : Request) (ps : List (List ℕ)) → done ++ rest ≡ s.libraries → ps ≡ s.preloads
      → map install_of rest ++ preload_requests ps ≡ front ++ request ∷ back → All IsLibrary rest
      → LacksRoomAtMost s (at_state p (fold accepted (of_libraries done) front)) request
  walk done [] [] back request [] all pre is libs = absurd (no_more [] back request is)
  walk done [] [] back request (n ∷ ns) all pre is libs =
      let last = sym (append-nil done) ∙ all in
      subst (LacksRoomAtMost s (at_state p (of_libraries done))) (same_head (set_preloads (n ∷ ns)) request [] back is)
      (subst (λ ls. LacksRoomAtMost s (at_state p (of_libraries ls)) (set_preloads (n ∷ ns))) (sym last) (preloads_lack s h p n ns pre))
  walk done [] (f ∷ front) back request [] all pre is libs = absurd (no_more (f ∷ front) back request is)
  walk done [] (f ∷ front) back request (n ∷ ns) all pre is libs = absurd (no_more front back request (same_tail (set_preloads (n ∷ ns)) f [] (front ++ request ∷ back) is))
  walk done (l ∷ rest) [] back request ps all pre is libs =
      subst (LacksRoomAtMost s (at_state p (of_libraries done))) (same_head (install l.bytes) request (map install_of rest ++ preload_requests ps) back is)
      (install_lacks s h p done rest l all)
  walk done (l ∷ rest) (f ∷ front) back request ps all pre is libs =
      let first : install l.bytes ≡ f = same_head (install l.bytes) f (map install_of rest ++ preload_requests ps) (front ++ request ∷ back) is in
      let next : accepted (of_libraries done) f ≡ of_libraries (done ++ l ∷ []) = ap (accepted (of_libraries done)) (sym first) ∙ install_next done l (named l (All-head IsLibrary l rest libs)) in
      subst (λ t. LacksRoomAtMost s (at_state p (fold accepted t front)) request) (sym next)
      (walk (done ++ l ∷ []) rest front back request ps (append_assoc done (l ∷ []) rest ∙ all) pre
      (same_tail (install l.bytes) f (map install_of rest ++ preload_requests ps) (front ++ request ∷ back) is) (All-tail IsLibrary l rest libs))

  -- after the requests before it were accepted, a request can be refused only for lack of room
  pub lacks_room : (front back : List Request) (request : Request) → requests_for s ≡ front ++ request ∷ back → p.state ≡ fold accepted empty_state front
      → LacksRoomAtMost s p request
  lacks_room front back request is now =
      subst (λ t. LacksRoomAtMost s (at_state p t) request) (sym now) (walk [] s.libraries front back request s.preloads refl refl is h.libraries)

  -- if the disk has fewer sectors than the state needs, the last install is refused with S7
  pub last_lacks_room : (libraries : List Library) (last : Library) → s.libraries ≡ libraries ++ last ∷ [] → p.state ≡ fold accepted empty_state (map install_of libraries)
      → p.sectors < sectors_for s + p.lone → refusal_at p (install last.bytes) ≡ Some Full
  last_lacks_room libraries last all now small =
      subst (λ t. refusal_at (at_state p t) (install last.bytes) ≡ Some Full) (sym (now ∙ installed [] libraries front)) (last_refused s h p libraries last (sym all) small)
    where
      front : All IsLibrary libraries
      front k d lt =
          subst IsLibrary (get_or_append_left libraries (last ∷ []) d k lt)
          (subst (All IsLibrary) all h.libraries k d (omega (arith, lt, length-append libraries (last ∷ []))))
