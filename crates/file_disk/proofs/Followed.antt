-- A disk follows its file, and continues to do so with each call.
use Rattle.std.proofs.Common.{◌≡◌, ◌<◌, ◌≤◌, ◌+◌, ◌-◌, inr, ⊎_elim, ℕ, List, [], ◌∷◌, ◌++◌, length, get_or, zero, suc, sym, ◌∙◌, ap, subst, arith, IsTrue}
use Rattle.std.proofs.lemmas.Bool.{cases_lt}
use Rattle.std.proofs.lemmas.List.{get_or_past, length_push}
use Rattle.sector_disk.specs.CallCount.{calls_made}
use Rattle.sector_disk.specs.Disk.{Sector, sector, MixtureAt}
use Rattle.sector_disk.specs.declared.past.Past.{Past}
use Rattle.file_disk.specs.declared.buffered.Buffered.{Buffered}
use Rattle.file_disk.specs.declared.disk.FileDisk.{FileDisk}
use Rattle.file_disk.specs.declared.sector_file.SectorFile.{Ghosts}
use Rattle.file_disk.specs.Buffered.{Leaves}
use Rattle.file_disk.specs.FileDisk.{file_facts, facts_below, IsMomentAt, FollowsTheFile, HoldsOfTheMedium}
use Rattle.file_disk.specs.Left.{LeftOf, time_at, IsTimed, IsFollowed}
use Rattle.file_disk.specs.SectorFile.{MediumAt}
use Rattle.file_disk.specs.inside.Transfer.{StaysWithin}
use Rattle.file_disk.proofs.Disks.{before_push}

module _ {F : Type 0} {g : Ghosts F} where
  -- at a disk's start, no earlier moment has a later time
  pub timed_first : (b : Buffered F g) (files : List (Buffered F g)) (now : ℕ) → files ≡ [] → IsTimed files b now
  timed_first b files now none v le = subst (λ l. time_at l b v ≤ (g.facts b.file).time) (sym none) (omega arith)

  pub followed_first : (b : Buffered F g) (files : List (Buffered F g)) (past : List (Past (Buffered F g))) (since : Past (Buffered F g)) (now : ℕ) → files ≡ [] → past ≡ []
      → ((k : ℕ) (c : Sector) → Leaves b k c → LeftOf since.items k c) → IsFollowed files b past since now
  followed_first b files past since now none first covered v u k c le low high has =
      let low' : (g.facts b.file).time ≤ u = subst (λ l. time_at l b v ≤ u) none low in
      let high' : u ≤ (g.facts b.file).time = subst (λ l. u ≤ time_at l b (v + 1)) none high in
      subst (λ l. LeftOf (get_or l v since).items k c) (sym first)
      (covered k c (inr (subst (λ (t : ℕ). (g.facts b.file).may_have t k c) (omega (arith, low', high')) has)))

  -- one more call
  module _ (old : FileDisk F g) (honest : IsTrue g.is_honest) (b : Buffered F g) (files : List (Buffered F g)) (past : List (Past (Buffered F g))) (since : Past (Buffered F g)) (now : ℕ)
      (counted : now ≡ calls_made old.calls + 1) (kept : files ≡ old.files.items ++ old.buffered ∷ []) (marked : past ≡ old.past.items ++ old.since ∷ [])
      (within : StaysWithin (Leaves old.buffered) (g.facts old.buffered.file) (g.facts b.file)) where
    -- the times of the earlier moments stay the same
    time_stays : (v : ℕ) → v ≤ calls_made old.calls → time_at files b v ≡ time_at old.files.items old.buffered v
    time_stays v le =
        ap (λ l. time_at l b v) kept ∙ ap (λ s. (g.facts s.file).time) (before_push old.files.items old.buffered b v (omega (arith, le, old.noted)))

    -- the time of the present moment is the file's time
    time_now : (v : ℕ) → calls_made old.calls < v → time_at files b v ≡ (g.facts b.file).time
    time_now v lt = ap (λ s. (g.facts s.file).time) (get_or_past files v b (omega (arith, lt, old.noted, ap length kept, length_push old.files.items old.buffered)))

    time_before : time_at files b (calls_made old.calls) ≡ (g.facts old.buffered.file).time
    time_before = time_stays (calls_made old.calls) (omega arith) ∙ ap (λ s. (g.facts s.file).time) (get_or_past old.files.items (calls_made old.calls) old.buffered (omega (arith, old.noted)))

    pub timed_on : IsTimed files b now
    timed_on v le = ⊎_elim
        (λ lt. omega (arith, time_now v lt))
        (λ ge. omega (arith, time_stays v ge, old.timed honest v ge, within.later))
        (cases_lt (calls_made old.calls) v)

    moment_before : (v : ℕ) → v ≤ calls_made old.calls → get_or past v since ≡ get_or old.past.items v old.since
    moment_before v le = ap (λ l. get_or l v since) marked ∙ before_push old.past.items old.since since v (omega (arith, le, old.counted))

    pub followed_on : ((k : ℕ) (c : Sector) → Leaves b k c → LeftOf since.items k c) → IsFollowed files b past since now
    followed_on covered v u k c le low high has = ⊎_elim
        (λ at_end. subst (λ s. LeftOf s.items k c) (sym (get_or_past past v since (omega (arith, at_end, old.counted, ap length marked, length_push old.past.items old.since))))
        (covered k c (inr (subst (λ (t : ℕ). (g.facts b.file).may_have t k c)
        (omega (arith, low, high, time_now v at_end, time_now (v + 1) (omega (arith, at_end)))) has))))
        (λ up_to. subst (λ s. LeftOf s.items k c) (sym (moment_before v up_to)) (⊎_elim
        (λ earlier. old.followed honest v u k c up_to (omega (arith, low, time_stays v up_to)) (omega (arith, high, time_stays (v + 1) (omega (arith, earlier))))
        (within.past u k c
        (omega (arith, high, time_stays (v + 1) (omega (arith, earlier)), old.timed honest (v + 1) (omega (arith, earlier)))) has))
        (λ last. let is : v ≡ calls_made old.calls = omega (arith, last, up_to) in
        subst (λ s. LeftOf s.items k c) (sym (ap (λ n. get_or old.past.items n old.since) is ∙ get_or_past old.past.items (calls_made old.calls) old.since (omega (arith, old.counted))))
        (old.covered honest k c (within.each u k c
        (omega (arith, low, ap (λ n. time_at files b n) is, time_before))
        (omega (arith, high, time_now (v + 1) (omega (arith, is)))) has)))
        (cases_lt v (calls_made old.calls))))
        (cases_lt (calls_made old.calls) v)

  -- The law. A moment of the file lies within the call that follows one of the disk's moments.
  module _ (disk : FileDisk F g) (honest : IsTrue g.is_honest) where
    abbrev mark : ℕ → ℕ
    mark = (file_facts disk).marks

    mark_now : (v : ℕ) → calls_made disk.calls ≤ v → mark v ≡ (facts_below disk).time
    mark_now v le = ap (λ s. (g.facts s.file).time) (get_or_past disk.files.items v disk.buffered (omega (arith, le, disk.noted)))

    mixture_of : (v u : ℕ) (m : List Sector) → IsMomentAt (file_facts disk) u v → u ≤ (facts_below disk).time → MediumAt (facts_below disk) u m → MixtureAt (file_facts disk) v m
    mixture_of v u m is high medium =
        let next : u ≤ mark (v + 1) = ⊎_elim
        (λ lt. let past : u < mark (v + 1) = is.last (v + 1) (omega arith) (omega (arith, lt)) in omega (arith, past))
        (λ ge. omega (arith, high, mark_now (v + 1) (omega (arith, ge))))
        (cases_lt v (calls_made disk.calls)) in
        record {
          size = omega (arith, medium.size, disk.buffered.size honest);
          each = λ k lt. disk.followed honest v u k (sector m k) is.up_to is.reached next (medium.each k (omega (arith, lt, disk.buffered.size honest)));
        }

    -- the last moment whose mark isn't past u, at most `more` moments after `since`
    moment_from : (more since u : ℕ) → mark since ≤ u → since + more ≤ calls_made disk.calls
        → ((w : ℕ) → since + more < w → w ≤ calls_made disk.calls → u < mark w) → (v : ℕ) × IsMomentAt (file_facts disk) u v
    moment_from zero since u low le last = (since, record { up_to = omega (arith, le); reached = low; last = λ w lt. last w (omega (arith, lt)) })
    moment_from (suc more) since u low le last = ⊎_elim
        (λ beyond. moment_from more since u low (omega (arith, le)) (λ w lt up_to. ⊎_elim
        (λ later. last w later up_to)
        (λ here. let is : since + suc more ≡ w = omega (arith, lt, here) in subst (λ n. u < mark n) is beyond)
        (cases_lt (since + suc more) w)))
        (λ reached. (since + suc more, record { up_to = le; reached = reached; last = last }))
        (cases_lt u (mark (since + suc more)))

    moment_at : (since u : ℕ) → since ≤ calls_made disk.calls → mark since ≤ u → (v : ℕ) × IsMomentAt (file_facts disk) u v
    moment_at since u le low = moment_from (calls_made disk.calls - since) since u low (omega (arith, le)) (λ w lt up_to. absurd (omega (arith, lt, up_to)))

    pub follows : FollowsTheFile disk
    follows = record {
      now = mark_now (calls_made disk.calls) (omega arith);
      each = λ since u m le low high medium.
          let found = moment_at since u le low in
          (found.0, found.1, mixture_of found.0 u m found.1 high medium);
    }

  -- A property of all that a stop may leave is a property of the medium.
  pub holds_of_the_medium : (disk : FileDisk F g) → IsTrue g.is_honest → (P : List Sector → Type 0) → HoldsOfTheMedium disk P
  holds_of_the_medium disk honest P old leaves u m low high medium =
      let start = (file_facts old).time in
      let mark : (file_facts disk).marks start ≡ (facts_below old).time = leaves.past.marks start (omega arith) ∙ (follows old honest).now in
      let found = (follows disk honest).each start u m leaves.past.later (omega (arith, mark, low)) high medium in
      let later : start ≤ found.0 = ⊎_elim
      (λ before. absurd (omega (arith, found.1.last start before leaves.past.later, mark, low)))
      (λ after. after)
      (cases_lt found.0 start) in
      leaves.each m (found.0, later, found.1.up_to, found.2)
