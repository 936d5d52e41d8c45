-- The effect of a call of a disk in memory, on the past and on the choices of a stop.
use Rattle.std.proofs.Common.{◌≡◌, inl, inr, ⊎_elim, ◌⊎◌, ℕ, ◌+◌, ◌%◌, ◌<◌, ◌≤◌, List, [], ◌∷◌, ◌++◌, length, get_or, set, take, drop, map, eqb, All, false, refl, sym, ◌∙◌, ap, subst, arith}
use Rattle.std.proofs.lemmas.Bool.{cases_lt, cases_eq}
use Rattle.std.proofs.lemmas.List.{length-append, get_or_append_left, get_or_default, get_or_past, get_or_push, get_or-set_same, get_or-set_other}
use Rattle.std.proofs.lemmas.List.{take_all, drop_all, take-append-le, drop-append-le, map-append}
use Rattle.std.proofs.lemmas.List.Elements.{All-get_or, Contains-append_left, Contains-append_cases, Contains-push, filter-append}
use Rattle.std.specs.List.{Contains, filter}
use Rattle.sector_disk.specs.declared.moment.Moment.{Moment}
use Rattle.sector_disk.specs.declared.written.Written.{Written}
use Rattle.sector_disk.specs.Disk.{IsCopy, Sector, sector, DiskFacts, MayLeave, KeepsPast, IsUnchanged, LeavesNoMore, LeavesNowAlone, GrowsBy, StartsWith}
use Rattle.sector_disk.specs.Written.{contents, written_to, choices}
use Rattle.sector_disk.specs.inside.WrittenLaws.{length-contents, written_to_same, written_to_other, now_chosen}
use Rattle.sector_disk.specs.Memory.{IsPicked}
use Rattle.sector_disk.specs.Moments.{moment_at, facts_of}
use Rattle.sector_disk.specs.inside.MemoryLaws.{left_now, now_leaves}

-- two moments are the same, except whether the call that ended them failed
pub record SameMoment (a b : Moment) : Type 0 where
  pub writes : a.writes ≡ b.writes
  pub synced : a.synced ≡ b.synced

module _ (start : List Sector) (writes : List Written) (synced : ℕ) (past : List Moment)
    (no_later : All (λ (moment : Moment). moment.writes ≤ length writes) past) (writes' : List Written) (synced' : ℕ) (moment : Moment)
    (is_moment : SameMoment moment (record { writes = length writes; synced = synced; failed = false }))
    (front : (n : ℕ) → n ≤ length writes → take n writes' ≡ take n writes) where
  abbrev was : ℕ → Moment
  was u = moment_at writes synced past u

  abbrev is : ℕ → Moment
  is u = moment_at writes' synced' (past ++ moment ∷ []) u

  same_moment : (u : ℕ) → u ≤ length past → SameMoment (is u) (was u)
  same_moment u le = ⊎_elim
      (λ lt.
      let same : is u ≡ was u = get_or_append_left past (moment ∷ []) _ u lt ∙ get_or_default past u _ _ lt in
      record { writes = ap (λ (m : Moment). m.writes) same; synced = ap (λ (m : Moment). m.synced) same })
      (λ ge.
      let here : is u ≡ moment = get_or_push past moment _ u (omega arith) in
      let then : was u ≡ record { writes = length writes; synced = synced; failed = false } = get_or_past past u _ ge in
      record {
        writes = ap (λ (m : Moment). m.writes) here ∙ is_moment.writes ∙ ap (λ (m : Moment). m.writes) (sym then);
        synced = ap (λ (m : Moment). m.synced) here ∙ is_moment.synced ∙ ap (λ (m : Moment). m.synced) (sym then);
      })
      (cases_lt u (length past))

  was_low : (u : ℕ) → (was u).writes ≤ length writes
  was_low u = ⊎_elim
      (λ lt. All-get_or (λ (m : Moment). m.writes ≤ length writes) past u _ lt no_later)
      (λ ge. let here : (was u).writes ≡ length writes = ap (λ (m : Moment). m.writes) (get_or_past past u _ ge) in omega (arith, here))
      (cases_lt u (length past))

  same_choices : (u k : ℕ) → u ≤ length past → choices start (take (is u).writes writes') (is u).synced k ≡ choices start (take (was u).writes writes) (was u).synced k
  same_choices u k le =
      ap (λ n. choices start (take n writes') (is u).synced k) (same_moment u le).writes
      ∙ ap (λ n. choices start (take (was u).writes writes') n k) (same_moment u le).synced
      ∙ ap (λ ws. choices start ws (was u).synced k) (front (was u).writes (was_low u))

  -- what a stop might have left at past moments stays the same
  pub keeps_past : KeepsPast (facts_of start writes synced past) (facts_of start writes' synced' (past ++ moment ∷ []))
  keeps_past = record {
    sectors = refl;
    later = omega (arith, length-append past (moment ∷ []));
    marks = λ u le. refl;
    past = λ u k c le. (
      λ left. subst (λ cs. Contains cs c) (same_choices u k le) left,
      λ left. subst (λ cs. Contains cs c) (sym (same_choices u k le)) left,
    );
  }

-- what a stop might have left at past moments stays the same after a call, as the call's contract states it
pub keeps_past_to : (start : List Sector) (writes : List Written) (synced : ℕ) (past : List Moment)
    → All (λ (moment : Moment). moment.writes ≤ length writes) past → (writes' : List Written) (synced' : ℕ) (past' : List Moment) (moment : Moment)
    → SameMoment moment (record { writes = length writes; synced = synced; failed = false })
    → ((n : ℕ) → n ≤ length writes → take n writes' ≡ take n writes) → past' ≡ past ++ moment ∷ []
    → KeepsPast (facts_of start writes synced past) (facts_of start writes' synced' past')
keeps_past_to start writes synced past no_later writes' synced' past' moment is_moment front is_past =
    subst (λ p. KeepsPast (facts_of start writes synced past) (facts_of start writes' synced' p)) (sym is_past) (keeps_past start writes synced past no_later writes' synced' moment is_moment front)

-- one more write to sector k is one more choice
pub written_to-append : (k : ℕ) (writes : List Written) (w : Written) → written_to k (writes ++ w ∷ []) ≡ written_to k writes ++ written_to k (w ∷ [])
written_to-append k writes w =
    let to_k = λ (x : Written). eqb x.at k in
    let content = λ (x : Written). x.content in
    ap (map content) (filter-append to_k writes (w ∷ [])) ∙ map-append content (filter to_k writes) (filter to_k (w ∷ []))

pub choices-append : (start : List Sector) (writes : List Written) (synced k : ℕ) (w : Written) → synced ≤ length writes
    → choices start (writes ++ w ∷ []) synced k ≡ choices start writes synced k ++ written_to k (w ∷ [])
choices-append start writes synced k w le =
    ap (λ ws. sector (contents start ws) k ∷ written_to k (drop synced (writes ++ w ∷ []))) (take-append-le synced writes (w ∷ []) le)
    ∙ ap (λ cs. sector (contents start (take synced writes)) k ∷ cs) (ap (written_to k) (drop-append-le synced writes (w ∷ []) le) ∙ written_to-append k (drop synced writes) w)

-- a member of a list of one element is that element
the_one : (x c : Sector) → Contains (x ∷ []) c → c ≡ x
the_one x c found = let first : found.0 ≡ 0 = omega (arith, found.1) in sym (subst (λ n. get_or (x ∷ []) n c ≡ c) first found.2)

module _ (start : List Sector) (writes : List Written) (synced : ℕ) (past past' : List Moment) where
  abbrev before : ℕ → List Sector
  before k = choices start writes synced k

  module _ (w : Written) (le : synced ≤ length writes) where
    abbrev now : DiskFacts
    now = facts_of start (writes ++ w ∷ []) synced past'

    one_more : (k : ℕ) → choices start (writes ++ w ∷ []) synced k ≡ before k ++ written_to k (w ∷ [])
    one_more k = choices-append start writes synced k w le

    newer_is : (k : ℕ) (c : Sector) → Contains (written_to k (w ∷ [])) c → (k ≡ w.at) × (c ≡ w.content)
    newer_is k c newer = ⊎_elim
        (λ same. (sym same, the_one w.content c (subst (λ cs. Contains cs c) (written_to_same k w [] same) newer)))
        (λ other. let none : length (written_to k (w ∷ [])) ≡ 0 = ap length (written_to_other k w [] other) in absurd (omega (arith, none, newer.1)))
        (cases_eq w.at k)

    there : (k : ℕ) (c : Sector) → MayLeave now k c → MayLeave (facts_of start writes synced past) k c ⊎ (k ≡ w.at) × (c ≡ w.content)
    there k c left = ⊎_elim
        (λ older. inl (left_now start writes synced past k c older))
        (λ newer. inr (newer_is k c newer))
        (Contains-append_cases (before k) (written_to k (w ∷ [])) c (subst (λ cs. Contains cs c) (one_more k) (now_leaves start (writes ++ w ∷ []) synced past' k c left)))

    newest : (k : ℕ) (c : Sector) → k ≡ w.at → c ≡ w.content → Contains (before k ++ written_to k (w ∷ [])) c
    newest k c at is =
        subst (λ cs. Contains (before k ++ cs) c) (sym (written_to_same k w [] (sym at)))
        (subst (λ x. Contains (before k ++ w.content ∷ []) x) (sym is) (Contains-push (before k) w.content))

    back : (k : ℕ) (c : Sector) → (MayLeave (facts_of start writes synced past) k c ⊎ (k ≡ w.at) × (c ≡ w.content)) → MayLeave now k c
    back k c either = left_now start (writes ++ w ∷ []) synced past' k c (subst (λ cs. Contains cs c) (sym (one_more k)) (⊎_elim
        (λ older. Contains-append_left (before k) (written_to k (w ∷ [])) c (now_leaves start writes synced past k c older))
        (λ this. newest k c this.0 this.1)
        either))

    -- the set of the written sector grows by the written content
    pub grows : GrowsBy (facts_of start writes synced past) now w.at w.content
    grows = record { each = λ k c. (there k c, back k c) }

  -- what a stop now may leave doesn't depend on the past
  pub unchanged : IsUnchanged (facts_of start writes synced past) (facts_of start writes synced past')
  unchanged = record {
    now = refl;
    log = refl;
    stop = λ k c. (
      λ left. left_now start writes synced past k c (now_leaves start writes synced past' k c left),
      λ left. left_now start writes synced past' k c (now_leaves start writes synced past k c left),
    );
  }

  -- if everything is synced, the one choice is what reads return
  one_choice : (k : ℕ) → choices start writes (length writes) k ≡ sector (contents start writes) k ∷ []
  one_choice k =
      ap (λ ws. sector (contents start ws) k ∷ written_to k (drop (length writes) writes)) (take_all (length writes) writes (omega arith))
      ∙ ap (λ ws. sector (contents start writes) k ∷ written_to k ws) (drop_all (length writes) writes (omega arith))

  last_choice : (k : ℕ) (c : Sector) → MayLeave (facts_of start writes (length writes) past') k c → c ≡ sector (contents start writes) k
  last_choice k c left = the_one (sector (contents start writes) k) c (subst (λ cs. Contains cs c) (one_choice k) (now_leaves start writes (length writes) past' k c left))

  pub alone : LeavesNowAlone (facts_of start writes (length writes) past')
  alone = record {
    each = λ k c lt. (
      last_choice k c,
      λ same. left_now start writes (length writes) past' k c (subst (λ x. Contains (choices start writes (length writes) k) x) (sym same) (now_chosen start writes (length writes) k lt)),
    );
  }

  -- what reads return is one of the choices before the sync; a sector that the disk doesn't have is empty, before and after
  now_among_choices : (k : ℕ) → Contains (before k) (sector (contents start writes) k)
  now_among_choices k = ⊎_elim
      (λ lt. now_chosen start writes synced k lt)
      (λ ge.
      let front = take synced writes in
      let empty : sector (contents start front) k ≡ [] = get_or_past (contents start front) k [] (omega (arith, ge, length-contents start front)) in
      let still : sector (contents start writes) k ≡ [] = get_or_past (contents start writes) k [] (omega (arith, ge, length-contents start writes)) in
      (0, omega arith, empty ∙ sym still))
      (cases_lt k (length start))

  -- a sync leaves no more
  pub no_more : LeavesNoMore (facts_of start writes synced past) (facts_of start writes (length writes) past')
  no_more = record { each = λ k c left. left_now start writes synced past k c (subst (λ x. Contains (before k) x) (sym (last_choice k c left)) (now_among_choices k)) }

-- the number of writes that go to a sector is at most the number of all writes
pub length-written_to : (k : ℕ) (writes : List Written) → length (written_to k writes) ≤ length writes
length-written_to k [] = omega arith
length-written_to k (w ∷ writes) = ⊎_elim
    (λ same. omega (arith, ap length (written_to_same k w writes same), length-written_to k writes))
    (λ other. omega (arith, ap length (written_to_other k w writes other), length-written_to k writes))
    (cases_eq w.at k)

-- one more write is counted at its sector
pub counted_more : (counts : List ℕ) (writes : List Written) (synced : ℕ) (w : Written) (sectors : ℕ) → synced ≤ length writes
    → length counts ≡ sectors → w.at < sectors → ((k : ℕ) → k < sectors → get_or counts k 0 ≡ length (written_to k (drop synced writes))) → (k : ℕ)
    → k < sectors → get_or (set counts w.at (get_or counts w.at 0 + 1)) k 0 ≡ length (written_to k (drop synced (writes ++ w ∷ [])))
counted_more counts writes synced w sectors le size in_range counted k lt =
    let more : length (written_to k (drop synced (writes ++ w ∷ []))) ≡ length (written_to k (drop synced writes)) + length (written_to k (w ∷ [])) =
    ap length (ap (written_to k) (drop-append-le synced writes (w ∷ []) le) ∙ written_to-append k (drop synced writes) w) ∙ length-append (written_to k (drop synced writes)) (written_to k (w ∷ [])) in
    ⊎_elim
    (λ same. omega (
      arith,
      more,
      counted k lt,
      ap (λ j. get_or counts j 0) same,
      ap
          (λ j. get_or (set counts w.at (get_or counts w.at 0 + 1)) j 0) same,
      get_or-set_same counts w.at (get_or counts w.at 0 + 1) 0 (omega arith),
      ap length (written_to_same k w [] same),
    ))
    (λ other. omega (arith, more, counted k lt, get_or-set_other counts w.at k (get_or counts w.at 0 + 1) 0 (λ e. other (sym e)), ap length (written_to_other k w [] other)))
    (cases_eq w.at k)

-- the picked content is one of the choices
pub among_picked : (IsNamed : ℕ → Type 0) (cs : List Sector) (content : Sector) → 0 < length cs → IsPicked IsNamed cs content → Contains cs content
among_picked IsNamed cs content some picked =
    let place = picked.0 % length cs in
    let in_range : place < length cs = omega arith in
    (place, in_range, get_or_default cs place content [] in_range ∙ sym picked.2)

-- a disk with no writes and no moments is at its start
pub fresh : (start : List Sector) (writes : List Written) (past : List Moment) → writes ≡ [] → past ≡ [] → StartsWith (facts_of start writes 0 past) (contents start writes)
fresh start writes past no_writes no_past =
    subst (λ ws. StartsWith (facts_of start ws 0 past) (contents start ws)) (sym no_writes)
    (subst (λ p. StartsWith (facts_of start [] 0 p) start) (sym no_past)
    (record { honest = refl; sectors = refl; now = refl; alone = alone start [] 0 [] []; time = refl; failures = refl; log = refl }))

-- two disks with the same sectors, writes and past are copies of each other
pub copied : (start start' : List Sector) (writes writes' : List Written) (synced : ℕ) (past past' : List Moment)
    → start' ≡ start → writes' ≡ writes → past' ≡ past → IsCopy (facts_of start writes synced past) (facts_of start' writes' synced past')
copied start start' writes writes' synced past past' starts writes_are pasts =
    let old = facts_of start writes synced past in
    subst (λ l. IsCopy old (facts_of l writes' synced past')) (sym starts)
    (subst (λ l. IsCopy old (facts_of start l synced past')) (sym writes_are)
    (subst (λ l. IsCopy old (facts_of start writes synced l)) (sym pasts)
    (record {
      honest = refl;
      sectors = refl;
      time = refl;
      marks = λ u. refl;
      failures = refl;
      plans = refl;
      log = refl;
      now = refl;
      past = λ u k content. (λ left. left, λ left. left);
    })))
