-- Lemmas about lines of an update, to which one line is added.
use Rattle.std.proofs.Common.{◌≡◌, ℕ, List, [], ◌∷◌, ◌++◌, append-nil, append_assoc, Option, Some, None, false, sym, ap, subst, ◌∙◌, refl}
use Rattle.std.specs.List.{flat_map}
use Rattle.std.specs.Io.KnownBytes.{Consumes}
use Rattle.std.proofs.KnownBytes.{Consumes-trans}
use Rattle.std.proofs.lemmas.List.Elements.{All-push, All-nil}
use Rattle.sector_disk.specs.Disk.{DiskFacts}
use Rattle.store.specs.Draft.{Drafted}
use Rattle.requests.specs.declared.reply.Reply.{Reply}
use Rattle.requests.proofs.Runs.{run_more}
use Rattle.scripts.specs.Line.{IsLine, ended}
use Rattle.scripts.specs.Reading.{IsAll}
use Rattle.scripts.proofs.Lines.{rest_known, front_known}
use Rattle.registry.specs.Updating.{is_refusal}
use Rattle.updates.specs.Lines.{ArePlanned, AreJust, BeginsWith, LineStep}
use Rattle.updates.proofs.Texts.{flat_more}

module _ {D : Type 0} (facts : D → DiskFacts) where
  -- an empty list of lines counts as planned, and leaves the draft unchanged
  pub planned_none : (u : Drafted D) → ArePlanned facts u u [] []
  planned_none u = record { whole = All-nil IsLine; run = ([], tt, refl); accepted = All-nil (λ (answer : Reply). is_refusal answer ≡ false) }

  -- if lines were planned, and then one more line, all of them were planned
  pub planned_more : (old mid new : Drafted D) (lines : List (List ℕ)) (answers : List Reply) (line : List ℕ) (answer : Reply) → ArePlanned facts old mid lines answers
      → IsLine line → LineStep facts mid line answer new → is_refusal answer ≡ false → ArePlanned facts old new (lines ++ line ∷ []) (answers ++ answer ∷ [])
  planned_more old mid new lines answers line answer so_far is_line step accepted = record {
    whole = All-push IsLine lines line so_far.whole is_line;
    run = run_more (LineStep facts) old mid new line answer lines answers so_far.run step;
    accepted = All-push (λ (answer : Reply). is_refusal answer ≡ false) answers answer so_far.accepted accepted;
  }

module _ (known mid : Option (List ℕ)) (lines : List (List ℕ)) (read : Consumes known mid (flat_map ended lines)) where
  -- if lines were read, and then one more line, all of them were read
  pub read_more : (now : Option (List ℕ)) (line : List ℕ) → Consumes mid now (ended line) → Consumes known now (flat_map ended (lines ++ line ∷ []))
  read_more now line more = subst (Consumes known now) (sym (flat_more ended lines line)) (Consumes-trans known mid now (flat_map ended lines) (ended line) read more)

  -- if the bytes `part` were read after the lines, the input begins with the lines and `part`
  pub begins : (now : Option (List ℕ)) (part : List ℕ) → Consumes mid now part → BeginsWith known lines part
  begins now part more = front_known known now (flat_map ended lines) part (Consumes-trans known mid now (flat_map ended lines) part read more)

  -- if `rest` is all that comes after the lines, the input is the lines and `rest`
  pub just : (rest : List ℕ) → IsAll mid rest → AreJust known lines rest
  just rest all = rest_known known mid (flat_map ended lines) rest read all

-- an input that begins with lines and then a part begins with the lines
pub begins_shorter : (known : Option (List ℕ)) (lines : List (List ℕ)) (part : List ℕ) → BeginsWith known lines part → BeginsWith known lines []
begins_shorter None lines part h = tt
begins_shorter (Some text) lines part h =
    let lines_read = flat_map ended lines in
    (part ++ h.0, h.1 ∙ append_assoc lines_read part h.0 ∙ ap (λ (l : List ℕ). l ++ (part ++ h.0)) (sym (append-nil lines_read)))

-- any input begins with an empty list of lines
pub begins_none : (known : Option (List ℕ)) → BeginsWith known [] []
begins_none None = tt
begins_none (Some text) = (text, refl)
