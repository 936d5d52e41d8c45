-- Lemmas about an update with the lines of a dump, on the disk of a new registry.
use Rattle.std.proofs.Common.{◌≡◌, ℕ, ◌+◌, ◌-◌, ◌*◌, List, [], ◌∷◌, ◌++◌, append_assoc, length, map, Option, None, Some, Result, Ok, Err, IsTrue, refl, sym, ap, subst, ◌∙◌, arith, inl, inr, ⊎_elim, append-nil, take, codes}
use Rattle.std.specs.Prelude.{◌≢◌, ◌⊎◌, All, IfErr, OnOk}
use Rattle.std.specs.List.{cons_option, flat_map}
use Rattle.std.proofs.lemmas.List.{nil_from_length}
use Rattle.std.proofs.lemmas.List.Elements.{All-nil}
use Rattle.sector_disk.specs.Disk.{DiskFacts, HoldsNow, LeavesOnly, Mixture, Sector, sector}
use Rattle.sector_disk.proofs.Moments.{weaken}
use Rattle.roots.specs.declared.root.Root.{Root}
use Rattle.states.specs.Cost.{catalogues_for}
use Rattle.states.specs.State.{Library, State, empty_state}
use Rattle.store.specs.declared.placed_entry.PlacedEntry.{PlacedEntry}
use Rattle.store.specs.declared.holds.HeldRow.{HeldRow}
use Rattle.store.specs.Draft.{Drafted, apart_from, begun, beside}
use Rattle.store.specs.Holds.{lone_sectors}
use Rattle.store.specs.Opened as store
use Rattle.store.specs.Stands as sectors
use Rattle.store.specs.Stands.{catalogues_of, entries_cost, entry_sectors}
use Rattle.store.proofs.Listings.{listed_2}
use Rattle.store.proofs.Preloads.{enough_in}
use Rattle.store.proofs.UsedAlone.{current_fits}
use Rattle.requests.specs.Library.{IsLibrary}
use Rattle.requests.specs.Request.{Request}
use Rattle.requests.specs.Runs.{Steps, last_of}
use Rattle.requests.specs.Step.{answer_of}
use Rattle.requests.specs.declared.refusal.Refusal.{Refusal}
use Rattle.requests.specs.declared.refusal.Refusal.TheVariants.{Device, Reopen}
use Rattle.requests.specs.declared.reply.Reply.{Reply}
use Rattle.requests.specs.declared.reply.Reply.TheVariants as reply
use Rattle.registry.specs.Drafting.{draft_phase}
use Rattle.registry.specs.Stands.{Stands}
use Rattle.registry.specs.Updating.{drafted_by, updated}
use Rattle.registry.proofs.States.{count_is, mixture_stands}
use Rattle.program_parts.specs.Reply.{reply_text}
use Rattle.program_parts.specs.Status.{reply_status}
use Rattle.program_parts.specs.Streams.{Streams}
use Rattle.program_parts.specs.declared.status.Status.{Status}
use Rattle.program_parts.specs.declared.status.Status.TheVariants as status
use Rattle.scripts.specs.Asked.{request_meaning}
use Rattle.scripts.specs.Line.{IsLine, ended}
use Rattle.scripts.specs.declared.fault.ScriptFault.{ScriptFault}
use Rattle.scripts.specs.declared.fault.ScriptFault.TheVariants.{Read, Write, OutOfMemory}
use Rattle.tool_commands.specs.Dump.{cut_text, script_text}
use Rattle.tool_commands.specs.declared.form.Purpose.TheVariants.{Update}
use Rattle.tool_commands.proofs.Within.{no_newline}
use Rattle.updates.specs.Answer.{plan_texts, update_refusal_text}
use Rattle.updates.specs.Ends.{EndsBroken, EndsInCommit, EndsRefused, IsBegun, LeavesStanding, UpdateEnds}
use Rattle.updates.specs.Lines.{AreJust, BeginsWith, IsRefusedAt, LineStep, commit_line}
use Rattle.updates.specs.Status.{update_status}
use Rattle.program_parts.specs.Streams.{Streams}
use Rattle.updates.specs.Streams.{BreaksOff, TellsOnly}
use Rattle.updates.specs.Update.{requests_of}
use Rattle.updates.specs.declared.answer.UpdateRefusal.{UpdateRefusal}
use Rattle.updates.specs.declared.answer.UpdateRefusal.TheVariants.{BadLine, CutLine, NoCommit, Refused}
use Rattle.replays.specs.Replay.{IsStateOfBytes, requests_for}
use Rattle.replays.specs.Update.{IsHindered, IsHindrance, LeavesAllOrNothing, renewed}
use Rattle.replays.proofs.Answers.{each_changes}
use Rattle.replays.proofs.Drafts.{each_planned, front_changes, hindered, lacks_room, renews}
use Rattle.replays.proofs.Readings.{front_lines, last_or_before, line_behind, no_more, one_reading, same_head, same_tail}
use Rattle.replays.proofs.Scripts.{each_install, each_update_line, line_of, lines_ask, lines_of, some_request, update_lines, whole_installs, whole_update_lines}
use Rattle.replays.proofs.Statuses.{not_done, not_read, not_updated}

-- ---- lines that ask for requests

-- if a line asks for a request, it is the first request of the line and the lines after it
asks_more : (line : List ℕ) (lines : List (List ℕ)) (request : Request) → request_meaning line ≡ Some request → requests_of (line ∷ lines) ≡ request ∷ requests_of lines
asks_more line lines request is = ap (λ (o : Option Request). cons_option o (requests_of lines)) is

-- if each line asks for its request, the requests of the lines are these requests
all_requested : (lines : List (List ℕ)) (requests : List Request) → map request_meaning lines ≡ map some_request requests → requests_of lines ≡ requests
all_requested [] [] h = refl
all_requested [] (r ∷ requests) h = absurd (cc h)
all_requested (line ∷ lines) [] h = absurd (cc h)
all_requested (line ∷ lines) (r ∷ requests) h =
    asks_more line lines r (same_head (request_meaning line) (some_request r) (map request_meaning lines) (map some_request requests) h)
    ∙ ap (λ rs. r ∷ rs) (all_requested lines requests (same_tail (request_meaning line) (some_request r) (map request_meaning lines) (map some_request requests) h))

-- if each line asks for its request, a line among them asks for the request after those of the lines
-- before it
one_asked : (lines more : List (List ℕ)) (line : List ℕ) (requests : List Request) → map request_meaning (lines ++ line ∷ more) ≡ map some_request requests
    → (request : Request) × (rest : List Request) × (request_meaning line ≡ Some request) × (requests ≡ requests_of lines ++ request ∷ rest)
one_asked [] more line [] h = absurd (cc h)
one_asked (a ∷ lines) more line [] h = absurd (cc h)
one_asked [] more line (r ∷ requests) h = (r, requests, same_head (request_meaning line) (some_request r) (map request_meaning more) (map some_request requests) h, refl)
one_asked (a ∷ lines) more line (r ∷ requests) h =
    let first = same_head (request_meaning a) (some_request r) (map request_meaning (lines ++ line ∷ more)) (map some_request requests) h in
    let so = one_asked lines more line requests (same_tail (request_meaning a) (some_request r) (map request_meaning (lines ++ line ∷ more)) (map some_request requests) h) in
    (so.0, so.1, so.2, ap (λ rs. r ∷ rs) so.3 ∙ sym (ap (λ rs. rs ++ so.0 ∷ so.1) (asks_more a lines r first)))

-- the line `commit` asks for no request
commit_asks_none : (request : Request) → request_meaning commit_line ≡ Some request → ⊥
commit_asks_none request h = let none : None ≡ Some request = h in cc

module _ {D : Type 0} (facts : D → DiskFacts) where
  -- `commit` isn't among lines that were answered with a request
  no_commit : (old : Drafted D) (front back : List (List ℕ)) (answers : List Reply) (drafts : List (Drafted D)) → Steps (LineStep facts) old (front ++ commit_line ∷ back) answers drafts → ⊥
  no_commit old [] back [] drafts steps = steps
  no_commit old [] back (answer ∷ answers) [] steps = steps
  no_commit old [] back (answer ∷ answers) (u ∷ drafts) steps = commit_asks_none steps.0.0 steps.0.1
  no_commit old (line ∷ front) back [] drafts steps = steps
  no_commit old (line ∷ front) back (answer ∷ answers) [] steps = steps
  no_commit old (line ∷ front) back (answer ∷ answers) (u ∷ drafts) steps = no_commit u front back answers drafts steps.1

  -- ---- the current state while there is a draft of a new registry

  -- the draft's root, entries, held byte strings and number of sectors are unchanged
  abbrev KeepsStore : Drafted D → Drafted D → Type 0
  KeepsStore old new = (new.store.root ≡ old.store.root) × (new.store.entries ≡ old.store.entries) × (new.store.held ≡ old.store.held)
      × ((facts new.store.disk).sectors ≡ (facts old.store.disk).sectors)

  keeps_store : (old : Drafted D) (lines : List (List ℕ)) (answers : List Reply) (drafts : List (Drafted D)) → Steps (LineStep facts) old lines answers drafts → KeepsStore old (last_of old drafts)
  keeps_store old [] [] [] steps = (refl, refl, refl, refl)
  keeps_store old (line ∷ lines) (answer ∷ answers) (u ∷ drafts) steps =
      let did = steps.0.2.on_any_disk in
      let rest = keeps_store u lines answers drafts steps.1 in
      (rest.0 ∙ did.beside.root, rest.1 ∙ did.beside.entries, rest.2 ∙ did.beside.table, rest.3 ∙ did.calls.sectors)
  keeps_store old [] [] (u ∷ drafts) steps = absurd steps
  keeps_store old [] (answer ∷ answers) drafts steps = absurd steps
  keeps_store old (line ∷ lines) [] drafts steps = absurd steps
  keeps_store old (line ∷ lines) (answer ∷ answers) [] steps = absurd steps

  nothing_beside : (entries standing : List PlacedEntry) (held : List HeldRow) (root : Root) → standing ≡ [] → held ≡ [] → length (catalogues_of root) ≡ 0
      → entries_cost (apart_from entries standing) + length (lone_sectors held) + 2 * (length (catalogues_of root) - catalogues_for (length entries)) ≡ 0
  nothing_beside entries standing held root none unheld alone =
      let costs : entries_cost (apart_from entries standing) ≡ 0 = ap (λ (es : List PlacedEntry). entries_cost (apart_from entries es)) none in
      let lone : length (lone_sectors held) ≡ 0 = ap (λ (rows : List HeldRow). length (lone_sectors rows)) unheld in
      omega (arith, costs, lone, alone)

  module _ (old : store.Opened D) (at : store.IsAt facts old empty_state) (holds : IsTrue (facts old.disk).honest → HoldsNow (facts old.disk)) where
    no_entries : old.entries ≡ []
    no_entries = nil_from_length old.entries (count_is facts old empty_state at holds)

    no_catalogues : length (catalogues_of old.root) ≡ 0
    no_catalogues =
        let now = (facts old.disk).now in
        let stands = at.stands now (holds at.honest) in
        let fits = current_fits (sector now 0) (sector now 1) old.root stands.intact.current in
        let counted = ((listed_2 now old.root.library_count old.root.list (entry_sectors old.entries) stands.of_version).0 stands.intact.listed.sectors).0 in
        let none : old.root.library_count ≡ 0 = sym counted ∙ ap (λ (es : List PlacedEntry). length (entry_sectors es)) no_entries in
        enough_in old.root.library_count old.root.sectors old.root.list stands.of_version fits.list ∙ ap catalogues_for none

    pub stands_alone : (u : Drafted D) → old.held ≡ [] → KeepsStore (begun old) u → beside u ≡ 0
    stands_alone u unheld kept =
        nothing_beside u.entries u.store.entries u.store.held u.store.root (kept.1 ∙ no_entries) (kept.2 ∙ unheld)
        (ap (λ (r : Root). length (catalogues_of r)) kept.0 ∙ no_catalogues)

-- ---- the text

module _ (s : State) (h : IsStateOfBytes s) (lines : List (List ℕ)) (whole : All IsLine lines) where
  -- if the text begins with these lines and then `line`, this line is `commit` after all lines, or the
  -- next line of the text
  line_is : (line : List ℕ) → IsLine line → BeginsWith (Some (script_text Update s)) lines (ended line)
      → ((lines_of s ≡ lines) × (commit_line ≡ line)) ⊎ ((rest : List (List ℕ)) × (lines_of s ≡ lines ++ line ∷ rest))
  line_is line is_line read =
      let so = line_behind (update_lines s) [] (each_update_line s h.state) (All-nil (λ b. b ≢ 10)) lines line read.0 whole is_line (whole_update_lines s ∙ read.1) in
      last_or_before (lines_of s) commit_line lines line so.0 so.1

  -- if `line` is the next line of the text, it asks for the next request
  within : (line : List ℕ) (rest : List (List ℕ)) → lines_of s ≡ lines ++ line ∷ rest
      → (request : Request) × (others : List Request) × (request_meaning line ≡ Some request) × (requests_for s ≡ requests_of lines ++ request ∷ others)
  within line rest is = one_asked lines rest line (requests_for s) (sym (ap (map request_meaning) is) ∙ lines_ask s h)

  -- if `commit` comes after these lines, their requests are all requests of the text
  pub all_asked : BeginsWith (Some (script_text Update s)) lines (ended commit_line) → requests_of lines ≡ requests_for s
  all_asked read = ⊎_elim
      (λ (last : (lines_of s ≡ lines) × (commit_line ≡ commit_line)). ap requests_of (sym last.0) ∙ all_requested (lines_of s) (requests_for s) (lines_ask s h))
      (λ (before : (rest : List (List ℕ)) × (lines_of s ≡ lines ++ commit_line ∷ rest)).
      absurd (let so = within commit_line before.0 before.1 in commit_asks_none so.0 so.2))
      (line_is commit_line (no_newline commit_line refl) read)

  -- a line after these lines that isn't `commit` asks for a request
  pub none_bad : (line : List ℕ) → IsLine line → line ≢ commit_line → request_meaning line ≡ None → BeginsWith (Some (script_text Update s)) lines (ended line) → ⊥
  none_bad line is_line other none read = ⊎_elim
      (λ (last : (lines_of s ≡ lines) × (commit_line ≡ line)). other (sym last.1))
      (λ (before : (rest : List (List ℕ)) × (lines_of s ≡ lines ++ line ∷ rest)).
      let so = within line before.0 before.1 in
      let no : None ≡ Some so.0 = sym none ∙ so.2 in cc)
      (line_is line is_line read)

  -- if the line after these lines asks for a request, this request is the next one of the text
  pub asked_next : (line : List ℕ) (request : Request) → IsLine line → request_meaning line ≡ Some request → BeginsWith (Some (script_text Update s)) lines (ended line)
      → (rest : List Request) × (requests_for s ≡ requests_of lines ++ request ∷ rest)
  asked_next line request is_line asks read = ⊎_elim
      (λ (last : (lines_of s ≡ lines) × (commit_line ≡ line)). absurd (commit_asks_none request (ap request_meaning last.1 ∙ asks)))
      (λ (before : (rest : List (List ℕ)) × (lines_of s ≡ lines ++ line ∷ rest)).
      let so = within line before.0 before.1 in
      let same : so.0 ≡ request = let some : Some so.0 ≡ Some request = sym so.2 ∙ asks in cc in
      (so.1, so.3 ∙ ap (λ (r : Request). requests_of lines ++ r ∷ so.1) same))
      (line_is line is_line read)

  -- if the text begins with these lines, and none of them is `commit`, they ask for the first requests
  -- of the text
  pub asked_first : (part : List ℕ) → ((front back : List (List ℕ)) → lines ≡ front ++ commit_line ∷ back → ⊥) → BeginsWith (Some (script_text Update s)) lines part
      → (rest : List Request) × (requests_for s ≡ requests_of lines ++ rest)
  asked_first part none read =
      let so = front_lines (update_lines s) [] (each_update_line s h.state) (All-nil (λ b. b ≢ 10)) lines (part ++ read.0) whole
      (whole_update_lines s ∙ read.1 ∙ append_assoc (flat_map ended lines) part read.0) in
      by so.0 so.1
    where
      by : (more : List (List ℕ)) → update_lines s ≡ lines ++ more → (rest : List Request) × (requests_for s ≡ requests_of lines ++ rest)
      by [] is = absurd (none (lines_of s) [] (sym (append-nil lines) ∙ sym is))
      by (line ∷ more) is = ⊎_elim
          (λ (last : (lines_of s ≡ lines) × (commit_line ≡ line)).
          let all = ap requests_of (sym last.0) ∙ all_requested (lines_of s) (requests_for s) (lines_ask s h) in
          ([], sym all ∙ sym (append-nil (requests_of lines))))
          (λ (before : (rest : List (List ℕ)) × (lines_of s ≡ lines ++ line ∷ rest)).
          let next = within line before.0 before.1 in
          (next.0 ∷ next.1, next.3))
          (last_or_before (lines_of s) commit_line lines line more is)

  -- the text has no line that is cut
  pub none_cut : (cut : List ℕ) → IsLine cut → AreJust (Some (script_text Update s)) lines cut → (lines ≡ update_lines s) × (cut ≡ [])
  none_cut cut is_line just =
      one_reading (update_lines s) [] (each_update_line s h.state) (All-nil (λ b. b ≢ 10)) lines cut whole is_line (whole_update_lines s ∙ just)

-- ---- an update on a disk

module _ {D O : Type 0} (facts : D → DiskFacts) (contents : O → Option (List ℕ)) (holds : (d : D) → IsTrue (facts d).honest → HoldsNow (facts d)) (s : State) (h : IsStateOfBytes s)
    (disk left : D) (io : Streams) (ends : Status) (honest : IsTrue (facts disk).honest) (empty : sectors.Stands (facts disk).now empty_state)
    (unread : io.unread ≡ Some (script_text Update s)) where
  -- the update ended with status 0, and the disk holds the state
  abbrev IsMade : Type 0
  IsMade = (ends ≡ status.Done) × Stands (facts left).now (renewed s)

  abbrev Hindered : Type 0
  Hindered = IsHindered s (facts disk).sectors io ends

  module _ (lines : List (List ℕ)) (answers : List Reply) (u : Drafted D) (is : IsBegun facts disk lines answers u) where
    read_in : (part : List ℕ) → BeginsWith io.unread lines part → BeginsWith (Some (script_text Update s)) lines part
    read_in part read = subst (λ (o : Option (List ℕ)). BeginsWith o lines part) unread read

    just_in : (rest : List ℕ) → AreJust io.unread lines rest → AreJust (Some (script_text Update s)) lines rest
    just_in rest just = subst (λ (o : Option (List ℕ)). AreJust o lines rest) unread just

    asked : BeginsWith io.unread lines (ended commit_line) → requests_of lines ≡ requests_for s
    asked read = all_asked s h lines is.planned.whole (read_in (ended commit_line) read)

    made : BeginsWith io.unread lines (ended commit_line) → updated empty_state (requests_of lines) ≡ renewed s
    made read = ap (updated empty_state) (asked read) ∙ renews s h.state.libraries

    -- each of the lines was answered Done
    all_planned : (back : List Request) → requests_for s ≡ requests_of lines ++ back → All (λ answer. answer ≡ reply.Done) answers
    all_planned back all =
        let run = (is.update honest empty_state empty).run in
        each_planned (draft_phase facts (begun is.old) empty_state) (requests_of lines) answers run.0 run.1 (front_changes s (requests_of lines) back all) is.planned.accepted

    -- none of the lines is `commit`
    uncommitted : (front back : List (List ℕ)) → lines ≡ front ++ commit_line ∷ back → ⊥
    uncommitted front back all =
        no_commit facts (begun is.old) front back answers is.planned.run.0
        (subst (λ (l : List (List ℕ)). Steps (LineStep facts) (begun is.old) l answers is.planned.run.0) all is.planned.run.1)

    -- ---- a commit

    faulty : (why : Refusal) → (why ≡ Device) ⊎ (why ≡ Reopen) → IsHindrance s (facts disk).sectors why
    faulty why (inl is) = subst (IsHindrance s (facts disk).sectors) (sym is) tt
    faulty why (inr is) = subst (IsHindrance s (facts disk).sectors) (sym is) tt

    by_answer : All (λ answer. answer ≡ reply.Done) answers → (answer : Result (Unit {0}) Refusal) (new : store.Opened D) → IfErr answer (λ e. (e ≡ Device) ⊎ (e ≡ Reopen)) → OnOk answer (store.IsAt facts new (renewed s)) → left ≡ new.disk
        → TellsOnly (reply_status (answer_of answer)) (plan_texts answers ++ reply_text (answer_of answer)) io ends → IsMade ⊎ Hindered
    by_answer all answer new refusals at back (inr cannot) = inr (inl cannot)
    by_answer all (Ok done) new refusals at back (inl told) = inl (
      told.0,
      subst (λ (d : D). Stands (facts d).now (renewed s)) (sym back)
          (mixture_stands facts new (renewed s) (record { stored = at; libraries = h.state.libraries }) (facts new.disk).now (holds new.disk at.honest)),
    )
    by_answer all (Err why) new refusals at back (inl told) = inr (inr (inl (answers, all, why, faulty why refusals, told.0, told.1)))

    pub committed : EndsInCommit facts disk contents io lines answers is.old u ends left → IsMade ⊎ Hindered
    committed it =
        by_answer (all_planned [] (sym (asked it.read) ∙ sym (append-nil (requests_of lines)))) it.answer it.new it.commit.on_any_disk.refusals
        (subst (λ (t : State). OnOk it.answer (store.IsAt facts it.new t)) (made it.read) (it.ok honest empty_state empty)) it.back it.told

    -- ---- a refusal

    abbrev draft : State
    draft = drafted_by empty_state (requests_of lines)

    alone : beside u ≡ 0
    alone =
        stands_alone facts is.old (is.opened.opened.stands honest empty_state empty) (holds is.old.disk) u is.opened.on_any_disk.ends.unheld
        (subst (KeepsStore facts (begun is.old)) (sym is.planned.run.2) (keeps_store facts (begun is.old) lines answers is.planned.run.0 is.planned.run.1))

    same_sectors : (facts u.store.disk).sectors ≡ (facts disk).sectors
    same_sectors =
        (subst (KeepsStore facts (begun is.old)) (sym is.planned.run.2) (keeps_store facts (begun is.old) lines answers is.planned.run.0 is.planned.run.1)).3
        ∙ is.opened.on_any_disk.ends.calls.sectors

    refused_line : (why : Refusal) (last : Drafted D) (line : List ℕ) → IsLine line → LineStep facts u line (reply.Refused why) last → BeginsWith io.unread lines (ended line)
        → All (λ answer. answer ≡ reply.Done) answers × IsHindrance s (facts disk).sectors why
    refused_line why last line is_line step read =
        let next = asked_next s h lines is.planned.whole line step.0 is_line step.1 (read_in (ended line) read) in
        let at = (is.update honest empty_state empty).at in
        let to = step.2.applied empty_state draft at in
        let p = draft_phase facts u draft in (
          all_planned (step.0 ∷ next.0) next.1,
          subst (λ (n : ℕ). IsHindrance s n why) same_sectors
              (hindered s p (draft_phase facts last to.0) step.0 (lacks_room s h.state p (requests_of lines) next.0 step.0 next.1 refl) alone why
              (each_changes s (requests_of lines) next.0 step.0 next.1) to.1.step),
        )

    told_refusal : (why : Refusal) → All (λ answer. answer ≡ reply.Done) answers × IsHindrance s (facts disk).sectors why
        → TellsOnly (update_status (Refused why)) (plan_texts answers ++ update_refusal_text (Refused why)) io ends → Hindered
    told_refusal why so (inl told) = inr (inl (answers, so.0, why, so.1, told.0, told.1))
    told_refusal why so (inr cannot) = inl cannot

    -- a refusal of the update is one for lack of room, or a fault
    by_refusal : (why : UpdateRefusal) (last : Drafted D) → IsRefusedAt facts io.unread lines u last why → TellsOnly (update_status why) (plan_texts answers ++ update_refusal_text why) io ends → Hindered
    by_refusal BadLine last refused told = absurd (none_bad s h lines is.planned.whole refused.1 refused.2 refused.3 refused.4 (read_in (ended refused.1) refused.5))
    by_refusal CutLine last refused told =
        let cut = none_cut s h lines is.planned.whole refused.1 refused.2 (just_in refused.1 refused.4) in
        absurd (omega (arith, refused.3, ap length cut.1))
    by_refusal NoCommit last refused told =
        let so = none_cut s h lines is.planned.whole [] (All-nil (λ b. b ≢ 10)) (just_in [] refused.1) in
        absurd (uncommitted (lines_of s) [] so.0)
    by_refusal (Refused why) last refused told = told_refusal why (refused_line why last refused.0 refused.1 refused.2 refused.3) told

    pub refused : EndsRefused facts disk io lines answers is.old u ends left → Hindered
    refused it = by_refusal it.refusal it.last it.refused it.told

    -- ---- a fault

    by_fault : All (λ answer. answer ≡ reply.Done) answers → (fault : ScriptFault) → BreaksOff fault (plan_texts answers) io ends → Hindered
    by_fault all Write told = inl told
    by_fault all Read (inl told) = inr (inr (inl (answers, all, Read, told.0, told.1, told.2)))
    by_fault all Read (inr cannot) = inl cannot
    by_fault all OutOfMemory (inl told) = inr (inr (inl (answers, all, OutOfMemory, told.0, told.1, told.2)))
    by_fault all OutOfMemory (inr cannot) = inl cannot

    pub broken : EndsBroken facts disk io lines answers is.old u ends left → Hindered
    broken it =
        let first = asked_first s h lines is.planned.whole it.part uncommitted (read_in it.part it.read) in
        by_fault (all_planned first.0 first.1) it.fault it.told

  pub program_renews : UpdateEnds facts disk contents io ends left → IsMade ⊎ Hindered
  program_renews (inl (lines, answers, u, is, inl it)) = committed lines answers u is it
  program_renews (inl (lines, answers, u, is, inr (inl it))) = inr (refused lines answers u is it)
  program_renews (inl (lines, answers, u, is, inr (inr it))) = inr (broken lines answers u is it)
  program_renews (inr (why, opens, said)) = inr (inr (inr (inr (why, opens.opened.stands honest empty_state empty, said))))

  -- ---- all of it or nothing

  listed : (t : State) (m : List Sector) → All IsLibrary t.libraries → sectors.Stands m t → Stands m t
  listed t m libraries stands = record { stored = stands; libraries = libraries }

  abbrev MayBeLeft : List Sector → Type 0
  MayBeLeft m = Mixture (facts disk) m ⊎ (Stands m empty_state ⊎ Stands m (renewed s))

  nothing_new : (m : List Sector) → Mixture (facts disk) m ⊎ sectors.Stands m empty_state → MayBeLeft m
  nothing_new m (inl mixture) = inl mixture
  nothing_new m (inr stands) = inr (inl (listed empty_state m (All-nil IsLibrary) stands))

  all_or_nothing : (m : List Sector) → Mixture (facts disk) m ⊎ (sectors.Stands m empty_state ⊎ sectors.Stands m (renewed s)) → MayBeLeft m
  all_or_nothing m (inl mixture) = inl mixture
  all_or_nothing m (inr (inl stands)) = inr (inl (listed empty_state m (All-nil IsLibrary) stands))
  all_or_nothing m (inr (inr stands)) = inr (inr (listed (renewed s) m h.state.libraries stands))

  pub program_leaves : UpdateEnds facts disk contents io ends left → LeavesAllOrNothing facts s disk left
  program_leaves (inl (lines, answers, u, is, inl it)) =
      weaken _ MayBeLeft all_or_nothing
      (subst (λ (t : State). LeavesOnly (facts disk) (facts left) (λ m. Mixture (facts disk) m ⊎ (sectors.Stands m empty_state ⊎ sectors.Stands m t))) (made lines answers u is it.read)
      (it.any_moment honest empty_state empty))
  program_leaves (inl (lines, answers, u, is, inr (inl it))) = weaken _ MayBeLeft nothing_new (it.any_moment.0 honest empty_state empty)
  program_leaves (inl (lines, answers, u, is, inr (inr it))) = weaken _ MayBeLeft nothing_new (it.any_moment.0 honest empty_state empty)
  program_leaves (inr (why, opens, said)) = weaken _ MayBeLeft (λ m mixture. inl mixture) (opens.opened.any_moment honest)

-- ---- a dump that was cut off

-- no line that installs a library is `commit`
no_install : (libraries : List Library) (front back : List (List ℕ)) → map line_of libraries ≡ front ++ commit_line ∷ back → ⊥
no_install [] front back h = no_more front back commit_line h
no_install (l ∷ libraries) [] back h =
    let first = same_head (line_of l) commit_line (map line_of libraries) back h in
    cc first
no_install (l ∷ libraries) (a ∷ front) back h = no_install libraries front back (same_tail (line_of l) a (map line_of libraries) (front ++ commit_line ∷ back) h)

not_told : (wanted ends : Status) (text : List ℕ) (io : Streams) → (status.Done ≡ wanted → ⊥) → TellsOnly wanted text io ends → ends ≢ status.Done
not_told wanted ends text io isnt (inl told) is = isnt (sym is ∙ told.0)
not_told wanted ends text io isnt (inr cannot) is = let no : status.Failed ≡ status.Done = sym cannot.0 ∙ is in cc

not_broken : (fault : ScriptFault) (ends : Status) (text : List ℕ) (io : Streams) → BreaksOff fault text io ends → ends ≢ status.Done
not_broken Write ends text io cannot is = let no : status.Failed ≡ status.Done = sym cannot.0 ∙ is in cc
not_broken Read ends text io (inl told) is = not_read Read (sym is ∙ told.0)
not_broken Read ends text io (inr cannot) is = let no : status.Failed ≡ status.Done = sym cannot.0 ∙ is in cc
not_broken OutOfMemory ends text io (inl told) is = not_read OutOfMemory (sym is ∙ told.0)
not_broken OutOfMemory ends text io (inr cannot) is = let no : status.Failed ≡ status.Done = sym cannot.0 ∙ is in cc

module _ {D O : Type 0} (facts : D → DiskFacts) (contents : O → Option (List ℕ)) (s : State) (k : ℕ) (disk left : D) (io : Streams) (ends : Status)
    (unread : io.unread ≡ Some (cut_text s k)) where
  cut_uncommitted : (lines : List (List ℕ)) → All IsLine lines → BeginsWith io.unread lines (ended commit_line) → ⊥
  cut_uncommitted lines whole read =
      let installs = take k s.libraries in
      let read_in = subst (λ (o : Option (List ℕ)). BeginsWith o lines (ended commit_line)) unread read in
      let so = line_behind (map line_of installs) (codes "cut") (each_install installs) (no_newline (codes "cut") refl) lines commit_line read_in.0 whole (no_newline commit_line refl)
      (ap (λ front. front ++ codes "cut") (sym (whole_installs installs)) ∙ read_in.1) in
      no_install installs lines so.0 so.1

  pub cut_changes_nothing : UpdateEnds facts disk contents io ends left → (ends ≢ status.Done) × LeavesStanding facts disk left
  cut_changes_nothing (inl (lines, answers, u, is, inl it)) = absurd (cut_uncommitted lines is.planned.whole it.read)
  cut_changes_nothing (inl (lines, answers, u, is, inr (inl it))) = (not_told (update_status it.refusal) ends _ io (not_updated it.refusal) it.told, it.any_moment)
  cut_changes_nothing (inl (lines, answers, u, is, inr (inr it))) = (not_broken it.fault ends _ io it.told, it.any_moment)
  cut_changes_nothing (inr (why, opens, said)) = (
    λ is. not_done why (sym is ∙ said.0),
    (
      λ honest t stands. weaken _ (λ m. Mixture (facts disk) m ⊎ sectors.Stands m t) (λ m mixture. inl mixture) (opens.opened.any_moment honest),
      λ honest t stands. weaken _ (λ m. Mixture (facts disk) m ⊎ Stands m t) (λ m mixture. inl mixture) (opens.opened.any_moment honest),
    ),
  )
