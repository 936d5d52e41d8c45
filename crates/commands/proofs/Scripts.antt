-- Lemmas about scripts that go on, line by line.
use Rattle.std.proofs.Common.{◌≡◌, ◌≢◌, ℕ, ◌+◌, ◌<◌, Bool, true, if◌then◌else◌, List, [], ◌∷◌, ◌++◌, length, append-nil, Option, refl, sym, subst, ◌∙◌, arith}
use Rattle.std.specs.List.{flat_map}
use Rattle.std.specs.Io.{StopsAt}
use Rattle.std.specs.Io.Iter.{u64_saturate}
use Rattle.std.specs.Io.KnownBytes.{Appends, Consumes}
use Rattle.std.proofs.KnownBytes.{Consumes-trans, Appends-trans, Consumes-nil, Appends-nil}
use Rattle.std.proofs.lemmas.List.Elements.{All-push, All-nil}
use Rattle.binders.specs.Events.{Happening}
use Rattle.binders.specs.declared.event.EventReply.{EventReply}
use Rattle.requests.proofs.Runs.{run_more}
use Rattle.commands.specs.Answer.{LineStep, answer_text, output, is_refused}
use Rattle.scripts.specs.Line.{IsLine, ended}
use Rattle.commands.specs.Script.{Counts, Streams, Ends, Breaks, Stops}
use Rattle.scripts.specs.Reading.{IsAll}
use Rattle.commands.specs.inside.Progress.{Place, Answered}
use Rattle.commands.specs.declared.answer.Answer.{Answer}
use Rattle.commands.specs.declared.answer.Answer.TheVariants.{CutLine}
use Rattle.scripts.specs.declared.fault.ScriptFault.{ScriptFault}
use Rattle.scripts.specs.declared.fault.ScriptFault.TheVariants.{Write}
use Rattle.commands.specs.declared.summary.Summary.{Summary}
use Rattle.scripts.proofs.Lines.{rest_known, front_known, stops_ended}
use Rattle.commands.proofs.Lines.{flat_more, counts_more}

-- the streams of a script from one place to another
abbrev pub streams : Place → Place → Streams
streams p q = record { unread = p.unread; before = p.written; after = q.written }

module _ {S : Type 0} (step : S → Happening → EventReply → S → Type 0) where
  -- if no line was read yet, no line was answered
  pub answered_none : (p : Place) (s : S) (m : Summary) → m.lines ≡ 0 → m.refused ≡ 0 → Answered step p p s s m [] []
  answered_none p s m lines refused = record {
    read = Consumes-nil p.unread;
    lines = All-nil IsLine;
    run = ([], tt, refl);
    written = Appends-nil p.written;
    counts = record { lines = lines; refused = refused };
  }

  module _ (p q : Place) (s t : S) (m : Summary) (whole : List (List ℕ)) (answers : List Answer) (so_far : Answered step p q s t m whole answers) where
    -- if some lines were answered, and then one more whole line, all of them were answered
    pub answered_more : (r : Place) (u : S) (n : Summary) (line : List ℕ) (answer : Answer) (refused : Bool) → Consumes q.unread r.unread (ended line) → IsLine line → LineStep step t line answer u
        → Appends q.written r.written (answer_text answer) → refused ≡ is_refused answer → n.lines ≡ u64_saturate (m.lines + 1) → n.refused ≡ u64_saturate (m.refused + (if refused then 1 else 0))
        → Answered step p r s u n (whole ++ line ∷ []) (answers ++ answer ∷ [])
    answered_more r u n line answer refused read is_line made written is counted refusals = record {
      read = subst (Consumes p.unread r.unread) (sym (flat_more ended whole line)) (Consumes-trans p.unread q.unread r.unread (flat_map ended whole) (ended line) so_far.read read);
      lines = All-push IsLine whole line so_far.lines is_line;
      run = run_more (LineStep step) s t u line answer whole answers so_far.run made;
      written = subst (Appends p.written r.written) (sym (flat_more answer_text answers answer))
          (Appends-trans p.written q.written r.written (output answers) (answer_text answer) so_far.written written);
      counts = counts_more m n answers answer refused is so_far.counts counted refusals;
    }

    -- if nothing is left to read, the script was read to its end
    pub ends_here : IsAll q.unread [] → Ends step (streams p q) s t m whole [] answers
    ends_here all = record {
      read = rest_known p.unread q.unread (flat_map ended whole) [] so_far.read all;
      lines = so_far.lines;
      rest = All-nil (λ b. b ≢ 10);
      run = so_far.run;
      written = subst (λ l. Appends p.written q.written (output l)) (sym (append-nil answers)) so_far.written;
      counts = subst (Counts m) (sym (append-nil answers)) so_far.counts;
    }

    -- if only a line without a newline is left, and its answer is written, the script was read to its
    -- end
    pub ends_cut : (now : Option (List ℕ)) (n : Summary) (cut : List ℕ) → IsAll q.unread cut → IsLine cut → 0 < length cut → Appends q.written now (answer_text CutLine)
        → n.lines ≡ u64_saturate (m.lines + 1) → n.refused ≡ u64_saturate (m.refused + 1) → Ends step (record { unread = p.unread; before = p.written; after = now }) s t n whole cut answers
    ends_cut now n (b ∷ cut) all is_line some written counted refusals = record {
      read = rest_known p.unread q.unread (flat_map ended whole) (b ∷ cut) so_far.read all;
      lines = so_far.lines;
      rest = is_line;
      run = so_far.run;
      written = subst (Appends p.written now) (sym (flat_more answer_text answers CutLine)) (Appends-trans p.written q.written now (output answers) (answer_text CutLine) so_far.written written);
      counts = counts_more m n answers CutLine true refl so_far.counts counted refusals;
    }
    ends_cut now n [] all is_line some written counted refusals = absurd (omega arith)

    -- if only a part of a line was read, and nothing was answered, the script ended early
    pub breaks_reading : (r : Place) (fault : ScriptFault) (part : List ℕ) → Consumes q.unread r.unread part → StopsAt part 10
        → Appends q.written r.written [] → Breaks step (streams p r) s t fault whole part answers
    breaks_reading r fault part read stops written = record {
      read = front_known p.unread r.unread (flat_map ended whole) part (Consumes-trans p.unread q.unread r.unread (flat_map ended whole) part so_far.read read);
      lines = so_far.lines;
      one_at_most = stops;
      run = so_far.run;
      written = λ _. subst (Appends p.written r.written) (append-nil (output answers)) (Appends-trans p.written q.written r.written (output answers) [] so_far.written written);
    }

    -- if the answer to the cut last line couldn't be written, the script ended early
    pub breaks_cut : (r : Place) (fault : ScriptFault) (part : List ℕ) → fault ≡ Write → Consumes q.unread r.unread part → StopsAt part 10 → Breaks step (streams p r) s t fault whole part answers
    breaks_cut r fault part is read stops = record {
      read = front_known p.unread r.unread (flat_map ended whole) part (Consumes-trans p.unread q.unread r.unread (flat_map ended whole) part so_far.read read);
      lines = so_far.lines;
      one_at_most = stops;
      run = so_far.run;
      written = λ h. absurd (h is);
    }

    -- if a whole line was read and not applied, or applied and its answer not written, the script ended
    -- early
    pub breaks_unapplied : (r : Place) (u : S) (line : List ℕ) (fault : ScriptFault) → Consumes q.unread r.unread (ended line) → IsLine line → u ≡ t
        → (fault ≢ Write → Appends q.written r.written []) → Breaks step (streams p r) s u fault whole (ended line) answers
    breaks_unapplied r u line fault read is_line same written =
        subst (λ v. Breaks step (streams p r) s v fault whole (ended line) answers) (sym same) (record {
          read = front_known p.unread r.unread (flat_map ended whole) (ended line) (Consumes-trans p.unread q.unread r.unread (flat_map ended whole) (ended line) so_far.read read);
          lines = so_far.lines;
          one_at_most = stops_ended line is_line;
          run = so_far.run;
          written = λ h. subst (Appends p.written r.written) (append-nil (output answers)) (Appends-trans p.written q.written r.written (output answers) [] so_far.written (written h));
        })

    pub breaks_applied : (r : Place) (u : S) (line : List ℕ) (answer : Answer) → Consumes q.unread r.unread (ended line) → IsLine line
        → LineStep step t line answer u → Breaks step (streams p r) s u Write (whole ++ line ∷ []) [] (answers ++ answer ∷ [])
    breaks_applied r u line answer read is_line made = record {
      read = front_known p.unread r.unread (flat_map ended (whole ++ line ∷ [])) []
          (subst (Consumes p.unread r.unread) (sym (flat_more ended whole line) ∙ sym (append-nil (flat_map ended (whole ++ line ∷ []))))
          (Consumes-trans p.unread q.unread r.unread (flat_map ended whole) (ended line) so_far.read read));
      lines = All-push IsLine whole line so_far.lines is_line;
      one_at_most = All-nil (λ b. b ≢ 10);
      run = run_more (LineStep step) s t u line answer whole answers so_far.run made;
      written = λ h. absurd (h refl);
    }

    -- if nothing more was read, the script ended early
    pub breaks_here : (fault : ScriptFault) → Breaks step (streams p q) s t fault whole [] answers
    breaks_here fault = breaks_reading q fault [] (Consumes-nil q.unread) (All-nil (λ b. b ≢ 10)) (Appends-nil q.written)

  -- if nothing at all was read, the script ended early
  pub breaks_none : (p : Place) (s : S) (fault : ScriptFault) → Stops step (streams p p) s s fault
  breaks_none p s fault =
      ([], [], [], breaks_here p p s s (record { lines = 0; refused = 0 }) [] [] (answered_none p s (record { lines = 0; refused = 0 }) refl refl) fault)
