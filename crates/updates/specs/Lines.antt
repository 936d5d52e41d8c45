-- The draft that the lines of an update make, and the ends of the lines (own).
use Rattle.std.specs.Prelude.{◌≡◌, ◌≢◌, ◌<◌, ℕ, List, [], ◌++◌, length, All, codes, Option, Some, None, IfSome, false}
use Rattle.std.specs.List.{flat_map}
use Rattle.sector_disk.specs.Disk.{DiskFacts}
use Rattle.store.specs.Draft.{Drafted}
use Rattle.requests.specs.Request.{Request}
use Rattle.requests.specs.Runs.{Run}
use Rattle.requests.specs.declared.reply.Reply.{Reply}
use Rattle.requests.specs.declared.reply.Reply.TheVariants as reply
use Rattle.scripts.specs.Asked.{request_meaning}
use Rattle.scripts.specs.Line.{IsLine, ended}
use Rattle.registry.specs.Updating.{DraftAnswers, is_refusal}
use Rattle.updates.specs.declared.answer.UpdateRefusal.{UpdateRefusal}
use Rattle.updates.specs.declared.answer.UpdateRefusal.TheVariants.{BadLine, CutLine, NoCommit, Refused}

-- the line that requests the commit
abbrev pub commit_line : List ℕ
commit_line = codes "commit"

-- a line was answered: its request was made to the draft
abbrev pub LineStep : {D : Type 0} → (D → DiskFacts) → Drafted D → List ℕ → Reply → Drafted D → Type 0
LineStep facts old line answer new = (request : Request) × (request_meaning line ≡ Some request) × DraftAnswers facts old request answer new

-- Lines were answered one after the other, no line was refused, and they changed the draft from
-- `old` to `new`.
pub record ArePlanned {D : Type 0} (facts : D → DiskFacts) (old new : Drafted D) (lines : List (List ℕ)) (answers : List Reply) : Type 0 where
  pub whole : All IsLine lines
  pub run : Run (LineStep facts) old lines answers new
  pub accepted : All (λ answer. is_refusal answer ≡ false) answers

-- if the bytes are known, they begin with these lines, each with its newline, followed by `part`
abbrev pub BeginsWith : Option (List ℕ) → List (List ℕ) → List ℕ → Type 0
BeginsWith unread lines part = IfSome unread (λ text. (others : List ℕ) × (text ≡ flat_map ended lines ++ part ++ others))

-- if the bytes are known, they are these lines, each with its newline, followed by `rest`
abbrev pub AreJust : Option (List ℕ) → List (List ℕ) → List ℕ → Type 0
AreJust unread lines rest = IfSome unread (λ text. text ≡ flat_map ended lines ++ rest)

-- After the answered lines came a reason to refuse the update: a line that has none of the forms, a
-- line without a newline, the end of the input, or a line whose command is refused. `new` is the
-- draft after the refusal.
abbrev pub IsRefusedAt : {D : Type 0} → (D → DiskFacts) → Option (List ℕ) → List (List ℕ) → Drafted D → Drafted D → UpdateRefusal → Type 0
IsRefusedAt facts unread lines old new BadLine = (new ≡ old) × (line : List ℕ) × IsLine line × (line ≢ commit_line) × (request_meaning line ≡ None)
    × BeginsWith unread lines (ended line)
IsRefusedAt facts unread lines old new CutLine = (new ≡ old) × (cut : List ℕ) × IsLine cut × (0 < length cut) × AreJust unread lines cut
IsRefusedAt facts unread lines old new NoCommit = (new ≡ old) × AreJust unread lines []
IsRefusedAt facts unread lines old new (Refused refusal) = (line : List ℕ) × IsLine line × LineStep facts old line (reply.Refused refusal) new
    × BeginsWith unread lines (ended line)
