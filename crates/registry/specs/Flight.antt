-- Binders in flight: the answers that the steps of a binder must have (own).
use Rattle.std.specs.Prelude.{◌≡◌, ◌+◌, ◌≤◌, ℕ, zero, suc, List, take, drop, length, sum_by, All, Option, Some, None}
use Rattle.std.specs.Option.{option_map}
use Rattle.scope.specs.LoadOrder.{load_order}
use Rattle.scope.specs.Objects.{Named}
use Rattle.image.specs.Byte.{byte_of}
use Rattle.image.specs.Image.{image_byte}
use Rattle.image.specs.Refusal.{program_refusal}
use Rattle.image.specs.declared.refusal.BindRefusal.{BindRefusal}
use Rattle.states.specs.State.{State}
use Rattle.requests.specs.Binding.{objects, preload_numbers, bound_objects, bound_image, binding_refusal}
use Rattle.requests.specs.declared.refusal.Refusal.TheVariants.{Bind}
use Rattle.requests.specs.declared.reply.Reply.{Reply}
use Rattle.requests.specs.declared.reply.Reply.TheVariants.{Bound, Refused}
use Rattle.registry.specs.Binding.{data_sectors}

-- the flight of a binder: its program, its base, the state in which it began, and the number of its
-- steps that were answered with Going
pub record Flight : Type 0 where
  pub program : List ℕ
  pub base : ℕ
  pub state : State
  pub going : ℕ

-- the flight of a binder that begins now
abbrev pub begun : List ℕ → ℕ → State → Flight
begun program base s = record { program = program; base = base; state = s; going = 0 }

-- the flight after one more step that was answered with Going
abbrev pub further : Flight → Flight
further f = record { program = f.program; base = f.base; state = f.state; going = f.going + 1 }

-- the load order of the flight's program over the libraries of the flight's state
abbrev pub flight_order : Flight → List Named
flight_order f = load_order f.program (objects f.state) (preload_numbers f.state)

-- the length of a load order, or 0 if a test of the program without its libraries refuses it
abbrev pub goings_by : Option BindRefusal → List Named → ℕ
goings_by None order = length order
goings_by (Some refusal) order = 0

-- The number of steps that are answered with Going before the last step. The first of them tests
-- the program, and each later one reads a library of the load order. If a test of the program
-- without its libraries refuses it, the number is 0.
abbrev pub goings : Flight → ℕ
goings f = goings_by (program_refusal f.program f.base) (flight_order f)

-- the number of sectors of the library at place `k` of the load order, or 0 if there is no such
-- place
abbrev pub sectors_at : ℕ → List Named → ℕ
sectors_at zero order = 0
sectors_at (suc k) order = sum_by (λ o. data_sectors o.file) (take 1 (drop (suc k) order))

-- the number of sectors that the next step reads: those of the library at place `going` of the load
-- order, or 0 if there is no such place
abbrev pub step_sectors : Flight → ℕ
step_sectors f = sectors_at f.going (flight_order f)

-- At most as many steps are answered with Going as the state has libraries, plus one. If no library
-- of the state has more than n sectors, no step reads more than n sectors.
pub record IsBounded (f : Flight) : Type 0 where
  pub steps : goings f ≤ length f.state.libraries + 1
  pub sectors : (n : ℕ) → All (λ library. data_sectors library.bytes ≤ n) f.state.libraries → step_sectors f ≤ n

-- The answer of a bind in state s: the image, with the byte that `byte_of` defines at each address,
-- or the first refusal.
abbrev pub IsBindOf : State → List ℕ → ℕ → Reply → Type 0
IsBindOf s program base (Bound image) = (binding_refusal s program base ≡ None) × (image ≡ bound_image s program base)
    × ((a : ℕ) → image_byte image a ≡ byte_of (bound_objects s program base) a)
IsBindOf s program base (Refused refusal) = option_map Bind (binding_refusal s program base) ≡ Some refusal
IsBindOf s program base answer = ⊥
