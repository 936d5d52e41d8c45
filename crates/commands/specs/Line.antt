-- The event that a line of a script requests (own).
use Rattle.std.specs.Prelude.{ℕ, ◌-◌, Bool, true, false, not, if◌then◌else◌}
use Rattle.std.specs.Prelude.{List, [], ◌∷◌, drop, codes, Option, Some, None}
use Rattle.std.specs.Char.{is_ascii_digit}
use Rattle.std.specs.Option.{option_map}
use Rattle.requests.specs.Request.{Request, bind, list}
use Rattle.binders.specs.Events.{Happening, apply, begin, advance, cancel}
use Rattle.scripts.specs.Asked.{request_meaning}
use Rattle.scripts.specs.Words.{has_front, program_behind}

-- the slot for the word SLOT, which is exactly one decimal digit
abbrev pub slot_of : List ℕ → Option ℕ
slot_of (digit ∷ []) = if is_ascii_digit digit then Some (digit - 48) else None
slot_of word = None

-- the event of a binder that a line requests
abbrev pub binder_meaning : List ℕ → Option Happening
binder_meaning line =
    if has_front (codes "begin ") line then option_map (λ p. begin p.0 p.1) (program_behind (drop 6 line))
    else if has_front (codes "advance ") line then option_map advance (slot_of (drop 8 line))
    else if has_front (codes "cancel ") line then option_map cancel (slot_of (drop 7 line))
    else None

-- the event of a line: the line's command or, if the line has no command, its event of a binder
abbrev pub first_of : Option Request → Option Happening → Option Happening
first_of (Some request) other = Some (apply request)
first_of None other = other

-- the event that a line (without its newline) requests; a line that has none of the forms requests
-- no event
abbrev pub meaning : List ℕ → Option Happening
meaning line = first_of (request_meaning line) (binder_meaning line)

-- an event changes the registry or a binder
abbrev pub is_change : Happening → Bool
is_change (apply list) = false
is_change (apply (bind program base)) = false
is_change happening = true

-- a line requests no change: it requests a listing, a bind, or no event
abbrev pub is_no_change : Option Happening → Bool
is_no_change (Some happening) = not (is_change happening)
is_no_change None = true
