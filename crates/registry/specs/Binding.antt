-- The sectors that a bind reads, and its reply (own).
use Rattle.std.specs.Prelude.{ℕ, List, length, drop, sum_by, Result, Ok, Err}
use Rattle.std.specs.Int.{div_ceil}
use Rattle.sector_disk.specs.Disk.{sector_bytes}
use Rattle.scope.specs.LoadOrder.{load_order}
use Rattle.requests.specs.Binding.{objects, preload_numbers}
use Rattle.states.specs.State.{State}
use Rattle.requests.specs.declared.refusal.Refusal.{Refusal}
use Rattle.requests.specs.declared.reply.Reply.{Reply}
use Rattle.requests.specs.declared.reply.Reply.TheVariants.{Bound, Refused}
use Rattle.image.specs.Image.{MemoryImage}

-- the number of sectors that hold the bytes of a file
abbrev pub data_sectors : List ℕ → ℕ
data_sectors bytes = div_ceil (length bytes) sector_bytes

-- the number of sectors that hold the libraries in the load order of a program, not counting the
-- program itself
abbrev pub bind_sectors : State → List ℕ → ℕ
bind_sectors s program = sum_by (λ o. data_sectors o.file) (drop 1 (load_order program (objects s) (preload_numbers s)))

-- the reply for the result of a bind
abbrev pub bound_answer : Result MemoryImage Refusal → Reply
bound_answer (Ok image) = Bound image
bound_answer (Err refusal) = Refused refusal

-- P holds if the reply is an image
abbrev pub IfBound : Reply → Type 0 → Type 0
IfBound (Bound image) P = P
IfBound other P = Unit {0}
