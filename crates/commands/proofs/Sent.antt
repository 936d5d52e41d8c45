-- Lemmas about what a writer held while some answers weren't sent yet.
use Rattle.std.proofs.Common.{◌≡◌, ◌≢◌, ℕ, zero, suc, ◌-◌, List, [], ◌∷◌, ◌++◌, length, take, length-append, append-nil, append_assoc, Option, Some, None, refl, sym, ap, subst, ◌∙◌, arith, ⊎_elim}
use Rattle.std.specs.Prelude.{◌⊎◌, IfSome, IfOk, IfErr, Result, Ok, Err}
use Rattle.std.specs.List.{flat_map, AllZip}
use Rattle.std.specs.Io.KnownBytes.{Appends, Consumes, append_known}
use Rattle.std.proofs.KnownBytes.{Appends-nil, Consumes-nil}
use Rattle.std.proofs.Math.Seq.{take-append_seam}
use Rattle.std.proofs.lemmas.List.Elements.{All-nil}
use Rattle.std.proofs.lemmas.Slice.Zip.{AllZip-long, all_zipped_more}
use Rattle.program_parts.proofs.Sent.{all_sent, nothing_waits}
use Rattle.requests.specs.Runs.{Steps, Run}
use Rattle.binders.specs.Events.{Happening}
use Rattle.binders.specs.declared.event.EventReply.{EventReply}
use Rattle.commands.specs.Answer.{LineStep, MayWait, output}
use Rattle.scripts.specs.Line.{IsLine, ended}
use Rattle.commands.specs.Script.{Streams, Ends, Breaks, IsHeldBack, StopsWriting}
use Rattle.scripts.specs.Reading.{Unread}
use Rattle.commands.specs.inside.Progress.{Place, Answered, Misses, Told}
use Rattle.commands.specs.declared.answer.Answer.{Answer}
use Rattle.scripts.specs.declared.fault.ScriptFault.{ScriptFault}
use Rattle.scripts.specs.declared.fault.ScriptFault.TheVariants.{Read, Write, OutOfMemory}
use Rattle.commands.specs.declared.summary.Summary.{Summary}
use Rattle.scripts.proofs.Lines.{stops_line}
use Rattle.commands.proofs.Scripts.{streams, breaks_reading, breaks_cut, breaks_unapplied, breaks_applied}

-- there are as many answers as lines
steps_length : {S Q R : Type 0} (Step : S → Q → R → S → Type 0) (s : S) (qs : List Q) (rs : List R) (ts : List S) → Steps Step s qs rs ts → length qs ≡ length rs
steps_length Step s [] [] [] h = refl
steps_length Step s (q ∷ qs) (r ∷ rs) (t ∷ ts) h = omega (arith, steps_length Step t qs rs ts h.1)
steps_length Step s [] [] (t ∷ ts) h = absurd h
steps_length Step s [] (r ∷ rs) ts h = absurd h
steps_length Step s (q ∷ qs) [] ts h = absurd h
steps_length Step s (q ∷ qs) (r ∷ rs) [] h = absurd h

-- if a text is appended to the waiting text, and all of it is sent, the writer holds the text
pub sent_behind : (held mid now : Option (List ℕ)) (before waiting after text : List ℕ) → Appends (append_known held before) (append_known mid waiting) text → Appends mid now waiting → after ≡ []
    → Appends (append_known held before) (append_known now after) text
sent_behind held mid now before waiting after text put sent none =
    subst (λ k. Appends (append_known held before) k text) (sym (ap (append_known now) none ∙ nothing_waits now)) (all_sent (append_known held before) mid now waiting text put sent)

-- if no line was answered yet, the writer holds no answer
pub told_none : (before : Option (List ℕ)) → Told before before [] []
told_none before = record { told = []; untold = []; sent = []; missing = []; lines = refl; answered = refl; same = refl; written = Appends-nil before; quiet = tt }

-- if one more line is answered, and its answer may be sent later, the missing answers may still be sent
-- later
told_quiet : (before held : Option (List ℕ)) (whole : List (List ℕ)) (answers : List Answer) (line : List ℕ) (answer : Answer) → Told before held whole answers → MayWait line answer
    → Told before held (whole ++ line ∷ []) (answers ++ answer ∷ [])
told_quiet before held whole answers line answer t quiet = record {
  told = t.told;
  untold = t.untold ++ line ∷ [];
  sent = t.sent;
  missing = t.missing ++ answer ∷ [];
  lines = ap (λ l. l ++ line ∷ []) t.lines ∙ append_assoc t.told t.untold (line ∷ []);
  answered = ap (λ l. l ++ answer ∷ []) t.answered ∙ append_assoc t.sent t.missing (answer ∷ []);
  same = t.same;
  written = t.written;
  quiet = all_zipped_more MayWait t.untold t.missing line answer t.quiet quiet;
}

-- if all answers were sent, none is missing
told_all : {S : Type 0} (step : S → Happening → EventReply → S → Type 0) (before held : Option (List ℕ)) (s t : S) (whole : List (List ℕ))
    (answers : List Answer) → Run (LineStep step) s whole answers t
    → Appends before held (output answers) → Told before held whole answers
told_all step before held s t whole answers run written = record {
  told = whole;
  untold = [];
  sent = answers;
  missing = [];
  lines = sym (append-nil whole);
  answered = sym (append-nil answers);
  same = steps_length (LineStep step) s whole answers run.0 run.1;
  written = written;
  quiet = tt;
}

-- if two lists are related item by item, so are their first n items
front_zipped : {A B : Type 0} (R : A → B → Type 0) (n : ℕ) (xs : List A) (ys : List B) → AllZip R xs ys → AllZip R (take n xs) (take n ys)
front_zipped R zero xs ys h = tt
front_zipped R (suc n) [] [] h = tt
front_zipped R (suc n) (x ∷ xs) (y ∷ ys) h = (h.0, front_zipped R n xs ys h.1)
front_zipped R (suc n) [] (y ∷ ys) h = absurd h
front_zipped R (suc n) (x ∷ xs) [] h = absurd h

-- if two lists are related item by item, and one item is appended to each, the items before the appended
-- ones are still related
seam_zipped : {A B : Type 0} (R : A → B → Type 0) (xs : List A) (ys : List B) (x : A) (y : B) → AllZip R xs ys
    → AllZip R (take (length (ys ++ y ∷ []) - 1) (xs ++ x ∷ [])) (take (length (ys ++ y ∷ []) - 1) (ys ++ y ∷ []))
seam_zipped R xs ys x y h =
    let less : length (ys ++ y ∷ []) - 1 ≡ length ys = omega (arith, length-append ys (y ∷ [])) in
    let long = AllZip-long R xs ys h in
    subst (λ n. AllZip R (take n (xs ++ x ∷ [])) (take n (ys ++ y ∷ []))) (sym less)
    (subst (λ l. AllZip R l (take (length ys) (ys ++ y ∷ []))) (sym (ap (λ n. take n (xs ++ x ∷ [])) long ∙ take-append_seam xs (x ∷ [])))
    (subst (AllZip R xs) (sym (take-append_seam ys (y ∷ []))) h))

module _ (before held : Option (List ℕ)) (whole : List (List ℕ)) (answers : List Answer) (t : Told before held whole answers) where
  -- if each missing answer may be sent later, so may each missing one except the last
  pub held_told : IsHeldBack before held whole answers
  held_told = record {
    told = t.told;
    untold = t.untold;
    sent = t.sent;
    missing = t.missing;
    lines = t.lines;
    answered = t.answered;
    same = t.same;
    written = t.written;
    little = front_zipped MayWait (length t.missing - 1) t.untold t.missing t.quiet;
  }

  -- if one more line is answered, and its answer isn't sent, each missing answer except the last may be
  -- sent later
  held_more : (line : List ℕ) (answer : Answer) → IsHeldBack before held (whole ++ line ∷ []) (answers ++ answer ∷ [])
  held_more line answer = record {
    told = t.told;
    untold = t.untold ++ line ∷ [];
    sent = t.sent;
    missing = t.missing ++ answer ∷ [];
    lines = ap (λ l. l ++ line ∷ []) t.lines ∙ append_assoc t.told t.untold (line ∷ []);
    answered = ap (λ l. l ++ answer ∷ []) t.answered ∙ append_assoc t.sent t.missing (answer ∷ []);
    same = t.same;
    written = t.written;
    little = seam_zipped MayWait t.untold t.missing line answer t.quiet;
  }

module _ {S W : Type 0} (contents : W → Option (List ℕ)) (step : S → Happening → EventReply → S → Type 0) (p q : Place) (s t : S) (m : Summary) (w : W) (whole : List (List ℕ)) (answers : List Answer)
    (so_far : Answered step p q s t m whole answers) (told : Told p.written (contents w) whole answers) where
  -- the script ended early at the place `r`, and its writer held the answers to the earlier lines
  abbrev pub BreaksOff : Place → S → ScriptFault → Type 0
  BreaksOff r u fault = (held : W) × (lines : List (List ℕ)) × (part : List ℕ) × (given : List Answer)
      × Breaks step (streams p r) s u fault lines part given × IsHeldBack p.written (contents held) lines given

  -- if a read failed, the script ended early
  pub off_reading : (r : Place) (line : List ℕ) (fault : ScriptFault) → Unread q.unread r.unread q.written r.written line fault → BreaksOff r t fault
  off_reading r line Write h = (
    w,
    whole,
    [],
    answers,
    breaks_cut step p q s t m whole answers so_far r Write [] refl
        (subst (λ u. Consumes q.unread u []) (sym h) (Consumes-nil q.unread)) (All-nil (λ b. b ≢ 10)),
    held_told p.written
        (contents w) whole answers told,
  )
  off_reading r line Read h = (w, whole, line, answers, breaks_reading step p q s t m whole answers so_far r Read line h.0 h.1 h.2, held_told p.written (contents w) whole answers told)
  off_reading r line OutOfMemory h = (w, whole, line, answers, breaks_reading step p q s t m whole answers so_far r OutOfMemory line h.0 h.1 h.2, held_told p.written (contents w) whole answers told)

  -- if a whole line couldn't be answered, or its answer couldn't be sent, the script ended early
  pub off_line : (q' r : Place) (u : S) (line : List ℕ) (fault : ScriptFault) → Consumes q.unread r.unread (ended line) → IsLine line
      → Appends q.written q'.written [] → Misses step t u q'.written r.written line fault → BreaksOff r u fault
  off_line q' r u line Read read is_line kept h = (
    w,
    whole,
    ended line,
    answers,
    breaks_unapplied step p q s t m whole answers so_far r u line Read read is_line h.0
        (λ _. subst (λ k. Appends q.written k []) (sym h.1) kept),
    held_told p.written (contents w) whole answers told,
  )
  off_line q' r u line OutOfMemory read is_line kept h = (
    w,
    whole,
    ended line,
    answers,
    breaks_unapplied step p q s t m whole answers so_far r u line OutOfMemory read is_line h.0
        (λ _. subst (λ k. Appends q.written k []) (sym h.1) kept),
    held_told p.written (contents w) whole answers told,
  )
  off_line q' r u line Write read is_line kept h =
      (w, whole ++ line ∷ [], [], answers ++ h.0 ∷ [], breaks_applied step p q s t m whole answers so_far r u line h.0 read is_line h.1, held_more p.written (contents w) whole answers told line h.0)

module _ {S W : Type 0} (contents : W → Option (List ℕ)) (step : S → Happening → EventReply → S → Type 0) (p : Place) (s u : S) where
  -- if the answer to one more line was sent, or may be sent later, the lines so far count as answered
  pub tells_on : (unread : Option (List ℕ)) (n : Summary) (held now : W) (waiting : List ℕ) (whole : List (List ℕ)) (answers : List Answer) (line : List ℕ) (answer : Answer)
      → Told p.written (contents held) whole answers → Answered step p (record { unread = unread; written = append_known (contents now) waiting }) s u n (whole ++ line ∷ []) (answers ++ answer ∷ [])
      → (waiting ≡ []) ⊎ MayWait line answer
      → (w : W) × (lines : List (List ℕ)) × (given : List Answer)
      × Answered step p (record { unread = unread; written = append_known (contents now) waiting }) s u n lines given
      × Told p.written (contents w) lines given
  tells_on unread n held now waiting whole answers line answer told more either =
      ⊎_elim
      (λ none. (
        now,
        whole ++ line ∷ [],
        answers ++ answer ∷ [],
        more,
        told_all step p.written (contents now) s u (whole ++ line ∷ []) (answers ++ answer ∷ []) more.run
            (subst (λ k. Appends p.written k (output (answers ++ answer ∷ []))) (ap (append_known (contents now)) none ∙ nothing_waits (contents now)) more.written),
      ))
      (λ quiet. (held, whole ++ line ∷ [], answers ++ answer ∷ [], more, told_quiet p.written (contents held) whole answers line answer told quiet))
      either

module _ {S : Type 0} (step : S → Happening → EventReply → S → Type 0) (io : Streams) (s s' : S) where
  -- the same streams, except that the writer holds `after` at the end
  abbrev pub holding : Option (List ℕ) → Streams
  holding after = record { unread = io.unread; before = io.before; after = after }

  module _ (whole : List (List ℕ)) (part : List ℕ) (answers : List Answer) where
    -- a script that was read to its end has ended once all waiting answers are sent
    pub ends_sent : (summary : Summary) (now : Option (List ℕ)) → ((text : List ℕ) → Appends io.before io.after text → Appends io.before now text)
        → Ends step io s s' summary whole part answers → Ends step (holding now) s s' summary whole part answers
    ends_sent summary now send e = record {
      read = e.read;
      lines = e.lines;
      rest = e.rest;
      run = e.run;
      written = send _ e.written;
      counts = e.counts;
    }

    -- a script that ended early has ended once all waiting answers are sent
    pub breaks_sent : (fault : ScriptFault) (now : Option (List ℕ))
        → ((text : List ℕ) → Appends io.before io.after text → Appends io.before now text) → Breaks step io s s' fault whole part answers
        → Breaks step (holding now) s s' fault whole part answers
    breaks_sent fault now send e = record {
      read = e.read;
      lines = e.lines;
      one_at_most = e.one_at_most;
      run = e.run;
      written = λ h. send _ (e.written h);
    }

    -- a script has also ended early if the writer failed
    pub breaks_writing : (fault : ScriptFault) (now : Option (List ℕ)) → Breaks step io s s' fault whole part answers → Breaks step (holding now) s s' Write whole part answers
    breaks_writing fault now e = record {
      read = e.read;
      lines = e.lines;
      one_at_most = e.one_at_most;
      run = e.run;
      written = λ h. absurd (h refl);
    }

    pub ends_writing : (summary : Summary) (now : Option (List ℕ)) → Ends step io s s' summary whole part answers → Breaks step (holding now) s s' Write whole part answers
    ends_writing summary now e = record {
      read = all_read io.unread (flat_map ended whole ++ part) e.read;
      lines = e.lines;
      one_at_most = stops_line part e.rest;
      run = e.run;
      written = λ h. absurd (h refl);
    }
      where
        all_read : (known : Option (List ℕ)) (bytes : List ℕ) → IfSome known (λ text. text ≡ bytes) → IfSome known (λ text. (others : List ℕ) × (text ≡ bytes ++ others))
        all_read None bytes h = tt
        all_read (Some text) bytes h = ([], h ∙ sym (append-nil bytes))

module _ {S W : Type 0} (contents : W → Option (List ℕ)) (step : S → Happening → EventReply → S → Type 0) (io : Streams) (s s' : S) where
  -- the lines were read to the end, or ended early, and some of their answers may not be sent yet
  abbrev pub LinesEnd : Summary → Type 0
  LinesEnd summary = (held : W) × (whole : List (List ℕ)) × (cut : List ℕ) × (answers : List Answer) × Ends step io s s' summary whole cut answers × Told io.before (contents held) whole answers

  abbrev pub LinesBreak : ScriptFault → Type 0
  LinesBreak fault = (held : W) × (whole : List (List ℕ)) × (part : List ℕ) × (answers : List Answer) × Breaks step io s s' fault whole part answers
      × IsHeldBack io.before (contents held) whole answers

  -- if the writer failed when the waiting answers were sent at the end, the script ended with a failed
  -- write
  pub unsent : (r : Result Summary ScriptFault) (now : Option (List ℕ)) → IfOk r LinesEnd → IfErr r LinesBreak → (held : W) × StopsWriting step (holding step io s s' now) s s' (contents held)
  unsent (Ok summary) now h k = (h.0, (h.1, h.2, h.3, ends_writing step io s s' h.1 h.2 h.3 summary now h.4, held_told io.before (contents h.0) h.1 h.3 h.5))
  unsent (Err fault) now h k = (k.0, (k.1, k.2, k.3, breaks_writing step io s s' k.1 k.2 k.3 fault now k.4, k.5))
