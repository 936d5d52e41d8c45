-- The refusals of a store's changes, in the order of their tests.
use Rattle.std.specs.Prelude.{◌≡◌, ℕ, ◌+◌, ◌⊎◌, Bool, nat_lt, List, [], ◌∷◌, ◌++◌}
use Rattle.std.specs.Prelude.{length, Option, Some, None, Result, Ok, Err, if◌then◌else◌}
use Rattle.extents.specs.Extent.{sector_count}
use Rattle.extents.specs.Limits.{root_sectors}
use Rattle.extents.specs.Longest.{longest_runs}
use Rattle.store.specs.declared.refusal.StoreRefusal.{StoreRefusal}
use Rattle.store.specs.declared.refusal.StoreRefusal.TheVariants.{Device, Reopen, Full, Fragmented, TooMany, GenerationEnd, OutOfMemory}
use Rattle.extents.specs.declared.refusal.TakeRefusal.{TakeRefusal}
use Rattle.extents.specs.declared.refusal.TakeRefusal.TheVariants as take
use Rattle.states.specs.State.{State}
use Rattle.states.specs.Cost.{free, taken_by}
use Rattle.states.specs.Room as room
use Rattle.states.specs.Room.{RoomRefusal, Room, change_tests, put_tests, new_tests}
use Rattle.store.specs.Opened.{Opened}
use Rattle.store.specs.Holds.{layout_in_use}

-- the number of sectors of the 32 longest unused runs; 32 is the maximum number of extents of a
-- byte string
abbrev pub longest_unused : {D : Type 0} → Opened D → ℕ
longest_unused store = sector_count (longest_runs (layout_in_use store))

-- the store's refusal for a refusal of the tests of room
abbrev pub refusal_of_room : RoomRefusal → StoreRefusal
refusal_of_room room.TooMany = TooMany
refusal_of_room room.GenerationEnd = GenerationEnd
refusal_of_room room.Full = Full
refusal_of_room room.Fragmented = Fragmented

-- the refusal of the first test of the list that is true, or none
abbrev pub first_refusal : List (Bool × RoomRefusal) → Option StoreRefusal
first_refusal [] = None
first_refusal (test ∷ others) = if test.0 then Some (refusal_of_room test.1) else first_refusal others

-- the numbers of the state `s` that the tests of room need, on a disk of `sectors` sectors whose
-- longest unused runs have `longest` sectors in total
abbrev pub room_at : (sectors longest : ℕ) → State → Room
room_at sectors longest s = record { generation = s.generation; libraries = length s.libraries; free = free sectors s; longest = longest }

-- the first refusal of a put that replaces bytes, or none; such a put needs no more catalogues than
-- before
abbrev pub refusal_of_put : (sectors longest : ℕ) → State → List ℕ → Option StoreRefusal
refusal_of_put sectors longest s bytes = first_refusal (put_tests (room_at sectors longest s) 0 (length bytes))

-- the first refusal of a put under a new name, or none; such a put may need more catalogues
abbrev pub refusal_of_new : (sectors longest : ℕ) → State → List ℕ → Option StoreRefusal
refusal_of_new sectors longest s bytes = first_refusal (new_tests (room_at sectors longest s) (length bytes))

-- the first refusal of a change that takes no more sectors than there are, or none
abbrev pub refusal_of_change : State → Option StoreRefusal
refusal_of_change s = first_refusal (change_tests s.generation)

-- the first refusal of an upgrade of a state of version 1, or none
abbrev pub refusal_of_upgrade : (sectors : ℕ) → State → Option StoreRefusal
refusal_of_upgrade sectors s = first_refusal (change_tests s.generation ++ (nat_lt sectors (root_sectors + taken_by s), room.Full) ∷ [])

-- a put may return this answer if its tests have this first refusal: the answer that follows from
-- the tests; S11 instead of Ok, Full or Fragmented; or S1 instead of Ok
abbrev pub IsAnswer : Option StoreRefusal → Result (Unit {0}) StoreRefusal → Type 0
IsAnswer None (Ok done) = Unit
IsAnswer None (Err refusal) = (refusal ≡ Device) ⊎ (refusal ≡ OutOfMemory)
IsAnswer (Some first) (Ok done) = ⊥
IsAnswer (Some Full) (Err refusal) = (refusal ≡ Full) ⊎ (refusal ≡ OutOfMemory)
IsAnswer (Some Fragmented) (Err refusal) = (refusal ≡ Fragmented) ⊎ (refusal ≡ OutOfMemory)
IsAnswer (Some first) (Err refusal) = refusal ≡ first

-- an upgrade may return this answer if its tests have this first refusal: the answer that follows
-- from the tests, or S1 or S11 instead of any answer, because the upgrade reads the disk before it
-- makes these tests
abbrev pub IsUpgradeAnswer : Option StoreRefusal → Result (Unit {0}) StoreRefusal → Type 0
IsUpgradeAnswer None (Ok done) = Unit
IsUpgradeAnswer None (Err refusal) = (refusal ≡ Device) ⊎ (refusal ≡ OutOfMemory)
IsUpgradeAnswer (Some first) (Ok done) = ⊥
IsUpgradeAnswer (Some first) (Err refusal) = (refusal ≡ first) ⊎ (refusal ≡ Device) ⊎ (refusal ≡ OutOfMemory)

-- a change that allocates nothing may return this answer if its tests have this first refusal: the
-- answer that follows from the tests, or S1 instead of Ok
abbrev pub IsExactAnswer : Option StoreRefusal → Result (Unit {0}) StoreRefusal → Type 0
IsExactAnswer None (Ok done) = Unit
IsExactAnswer None (Err refusal) = refusal ≡ Device
IsExactAnswer (Some first) (Ok done) = ⊥
IsExactAnswer (Some first) (Err refusal) = refusal ≡ first

-- The refusals of a change that allocates nothing and never lacks sectors, on any disk, honest or not.
abbrev pub IsRefusalOfChange : StoreRefusal → Type 0
IsRefusalOfChange Device = Unit
IsRefusalOfChange Reopen = Unit
IsRefusalOfChange GenerationEnd = Unit
IsRefusalOfChange other = ⊥

-- The refusals of a put that replaces bytes, on any disk: those of `IsRefusalOfChange`, Full and Fragmented.
abbrev pub IsRefusalOfPutOver : StoreRefusal → Type 0
IsRefusalOfPutOver Full = Unit
IsRefusalOfPutOver Fragmented = Unit
IsRefusalOfPutOver other = IsRefusalOfChange other

-- The refusals of a put under a new name, on any disk: those of `IsRefusalOfPutOver`, TooMany and OutOfMemory.
abbrev pub IsRefusalOfPutNew : StoreRefusal → Type 0
IsRefusalOfPutNew TooMany = Unit
IsRefusalOfPutNew OutOfMemory = Unit
IsRefusalOfPutNew other = IsRefusalOfPutOver other

-- The refusals of the commit that turns a disk of version 1 into one of version 2, on any disk.
abbrev pub IsRefusalOfCommit : StoreRefusal → Type 0
IsRefusalOfCommit Device = Unit
IsRefusalOfCommit GenerationEnd = Unit
IsRefusalOfCommit Full = Unit
IsRefusalOfCommit other = ⊥

-- the answer of a call, without the store or the disk that the call also returns
abbrev pub answer_of : {D : Type 0} → Result (Opened D) (StoreRefusal × D) → Result (Unit {0}) StoreRefusal
answer_of (Ok store) = Ok tt
answer_of (Err refused) = Err refused.0

-- the store's refusal for a refusal to take sectors
abbrev pub refusal_of_take : TakeRefusal → StoreRefusal
refusal_of_take take.Full = Full
refusal_of_take take.Fragmented = Fragmented
