-- Laws about a disk in memory, which hold at any moment.
use Rattle.std.specs.Prelude.{◌≡◌, ◌<◌, ◌==◌, ℕ, List, [], ◌∷◌, set, take, drop, length, false, filter, All}
use Rattle.std.proofs.Common.{sym, subst, arith}
use Rattle.std.proofs.lemmas.List.{get_or_past, take_all}
use Rattle.std.proofs.lemmas.List.Elements.{All-contains, All-get_or, All-cons, All-tail, All-set, All-take, All-drop, All-filter, All-map}
use Rattle.std.specs.List.{Contains}
use Rattle.sector_disk.specs.declared.moment.Moment.{Moment}
use Rattle.sector_disk.specs.declared.memory.Memory.{Memory}
use Rattle.sector_disk.specs.declared.written.Written.{Written}
use Rattle.sector_disk.specs.Disk.{Sector, sector, IsWhole, HoldsNow, HasWholeSectors}
use Rattle.sector_disk.specs.Moments.{moment_at, facts_of}
use Rattle.sector_disk.specs.Written.{contents, written_to, choices}
use Rattle.sector_disk.specs.inside.WrittenLaws.{length-contents, now_chosen}
use Rattle.sector_disk.specs.Memory.{memory_facts}

-- moment number `length past` is the present moment
pub present : (writes : List Written) (synced : ℕ) (past : List Moment)
    → moment_at writes synced past (length past) ≡ record { writes = length writes; synced = synced; failed = false }
present writes synced past = get_or_past past (length past) _ (omega arith)

-- a stop now may leave each choice of a sector
pub left_now : (start : List Sector) (writes : List Written) (synced : ℕ) (past : List Moment) (k : ℕ) (c : Sector)
    → Contains (choices start writes synced k) c → (facts_of start writes synced past).may_leave (length past) k c
left_now start writes synced past k c left =
    subst (λ moment. Contains (choices start (take moment.writes writes) moment.synced k) c) (sym (present writes synced past))
    (subst (λ ws. Contains (choices start ws synced k) c) (sym (take_all (length writes) writes (omega arith))) left)

pub now_leaves : (start : List Sector) (writes : List Written) (synced : ℕ) (past : List Moment) (k : ℕ) (c : Sector)
    → (facts_of start writes synced past).may_leave (length past) k c → Contains (choices start writes synced k) c
now_leaves start writes synced past k c left =
    subst (λ ws. Contains (choices start ws synced k) c) (take_all (length writes) writes (omega arith))
    (subst (λ moment. Contains (choices start (take moment.writes writes) moment.synced k) c) (present writes synced past) left)

-- The contents that reads of a disk in memory return are one of the mixtures.
pub memory_holds : (m : Memory) → HoldsNow (memory_facts m)
memory_holds m = record {
  size = length-contents m.start.items m.writes.items;
  each = λ k lt. left_now m.start.items m.writes.items m.synced m.past.items k _ (now_chosen m.start.items m.writes.items m.synced k lt);
}

-- whole contents stay whole after writes of whole contents
contents_whole : (start : List Sector) (writes : List Written) → All IsWhole start
    → All (λ (write : Written). IsWhole write.content) writes → All IsWhole (contents start writes)
contents_whole start [] whole whole_writes = whole
contents_whole start (w ∷ writes) whole whole_writes =
    let IsWholeWrite = λ (write : Written). IsWhole write.content in
    contents_whole (set start w.at w.content) writes (All-set IsWhole start w.at w.content (whole_writes 0 w (omega arith)) whole)
    (All-tail IsWholeWrite w writes whole_writes)

-- every choice of a sector of the disk is whole
pub choices_whole : (start : List Sector) (writes : List Written) (synced k : ℕ) → k < length start
    → All IsWhole start → All (λ (write : Written). IsWhole write.content) writes → All IsWhole (choices start writes synced k)
choices_whole start writes synced k lt whole whole_writes =
    let IsWholeWrite = λ (write : Written). IsWhole write.content in
    let front = take synced writes in
    All-cons IsWhole (sector (contents start front) k) (written_to k (drop synced writes))
    (All-get_or IsWhole (contents start front) k [] (omega (arith, lt, length-contents start front))
    (contents_whole start front whole (All-take IsWholeWrite synced writes whole_writes)))
    (All-map IsWhole (λ (write : Written). write.content) (filter (λ (write : Written). write.at == k) (drop synced writes))
    (All-filter (λ (write : Written). write.at == k) IsWholeWrite (drop synced writes) (All-drop IsWholeWrite synced writes whole_writes)))

-- The sectors of a disk in memory are whole.
pub memory_whole : (m : Memory) → HasWholeSectors (memory_facts m)
memory_whole m = record {
  now = λ k lt. All-get_or IsWhole (contents m.start.items m.writes.items) k [] (omega (arith, lt, length-contents m.start.items m.writes.items))
      (contents_whole m.start.items m.writes.items m.whole_start m.whole_writes);
  left = λ u k c le lt left.
      let moment = moment_at m.writes.items m.synced m.past.items u in
      All-contains IsWhole (choices m.start.items (take moment.writes m.writes.items) moment.synced k) c
      (choices_whole m.start.items (take moment.writes m.writes.items) moment.synced k lt m.whole_start
      (All-take (λ (write : Written). IsWhole write.content) moment.writes m.writes.items m.whole_writes))
      left;
}
