-- Text that is written to a writer through a buffer.
use Rattle.std.specs.Prelude.{ℕ, ◌+◌, ◌≤◌, Bool, List, ◌++◌, length, Option}
use Rattle.std.specs.Io.KnownBytes.{Appends, append_known}

-- a buffer for a writer: the bytes that haven't been written to the writer yet, and whether the
-- writer has failed
pub record Buffered : Type 0 where
  pub waiting : List ℕ
  pub failed : Bool

-- the writer's contents (if they are known) and the waiting bytes after them have grown by `text`
abbrev pub Sends : Option (List ℕ) → Buffered → Option (List ℕ) → Buffered → List ℕ → Type 0
Sends held before holds after text =
    Appends (append_known held before.waiting) (append_known holds after.waiting) text

-- a buffer of `size` bytes has room for a text after the waiting bytes
abbrev pub HasRoom : ℕ → Buffered → List ℕ → Type 0
HasRoom size buffer text = length buffer.waiting + length text ≤ size

-- a buffer after a text was added to its waiting bytes
abbrev pub with_text : Buffered → List ℕ → Buffered
with_text buffer text = record { waiting = buffer.waiting ++ text; failed = buffer.failed }
