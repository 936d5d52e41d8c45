-- The effect of a call of a disk over an honest file, on the past and on the contents that a stop may leave.
use Rattle.std.proofs.Common.{◌≡◌, ◌≢◌, ◌<◌, ◌≤◌, ◌+◌, ◌⊎◌, inl, inr, ⊎_elim, ℕ, Bool, List, [], ◌∷◌, ◌++◌, length, map, get_or, set, true, false, refl, sym, ◌∙◌, ap, subst, arith, Option, Some, None, IsSome, IsTrue}
use Rattle.std.proofs.Math.Logic.{∥∥₁_elim, ∥∥₁_prop}
use Rattle.std.proofs.Props.{props}
use Rattle.std.specs.Bool.{Decides}
use Rattle.std.specs.List.{Contains, range_with_len}
use Rattle.std.proofs.lemmas.Bool.{cases_lt, cases_eq, cases_Bool}
use Rattle.std.proofs.lemmas.List.{get_or_append_left, get_or_default, get_or_past, get_or_push, get_or-set_same, get_or-set_other, length-set, length_push}
use Rattle.std.proofs.lemmas.List.Elements.{Contains-append_left, Contains-push, Contains-push_cases}
use Rattle.std.proofs.lemmas.List.FromFn.{fill_by_all, length-map-range_with_len, get_or-map-range_with_len}
use Rattle.std.proofs.lemmas.Option.{none-some}
use Rattle.std.proofs.lemmas.Slice.Eq.{bytes_eq-Decides}
use Rattle.sector_disk.specs.CallCount.{calls_made, calls_failed}
use Rattle.sector_disk.specs.Disk.{Sector, sector, DiskFacts, MayLeave, KeepsPast, IsUnchanged, LeftSince, LeavesNoMore, LeavesNowAlone, GrowsBy}
use Rattle.sector_disk.specs.declared.call_count.CallCount.{CallCount}
use Rattle.sector_disk.specs.declared.past.Past.{Past}
use Rattle.file_disk.specs.declared.buffered.Buffered.{Buffered}
use Rattle.file_disk.specs.declared.disk.FileDisk.{FileDisk}
use Rattle.file_disk.specs.declared.sector_file.SectorFile.{Ghosts}
use Rattle.file_disk.specs.ReadAhead.{read_ahead_at, KeepsOf}
use Rattle.file_disk.specs.Buffered.{or_else, shown_at, Leaves}
use Rattle.file_disk.specs.FileDisk.{file_facts, facts_below}
use Rattle.file_disk.specs.WriteBuffer.{write_buffer_at}
use Rattle.file_disk.specs.Left.{LeftOf, shown_of, time_at}
use Rattle.file_disk.specs.SectorFile.{MayHave, MediumAt, HoldsWhatIsRead}
use Rattle.file_disk.specs.inside.Buffered.{IsStill, IsPut, IsSynced}
use Rattle.file_disk.specs.inside.FileDiskLaws.{read_of, left_now, now_left}
use Rattle.file_disk.specs.inside.Transfer.{StaysWithin}
use Rattle.file_disk.proofs.Buffers.{cases_option, shown_none, shown_some, leaves_before}

-- if a test decides a proposition, the proposition is true or false
cases_decided : {P : Type 0} (test : Bool) → Decides test P → P ⊎ (P → ⊥)
cases_decided true decides = inl (decides.0 refl)
cases_decided false decides = inr (λ holds. absurd (let is : false ≡ true = decides.1 holds in cc))

cases_content : (c d : Sector) → (c ≡ d) ⊎ (c ≡ d → ⊥)
cases_content c d = cases_decided _ (bytes_eq-Decides c d)

-- two contents of one place are equal
same_some : (o : Option Sector) (c d : Sector) → o ≡ Some c → o ≡ Some d → c ≡ d
same_some o c d one other = let both : ◌≡◌ {A = Option Sector} (Some c) (Some d) = sym one ∙ other in cc

-- if `x` is appended to a list, the values up to the old end are those of the old list with the default `x`
pub before_push : {A : Type 0} (xs : List A) (x d : A) (v : ℕ) → v ≤ length xs → get_or (xs ++ x ∷ []) v d ≡ get_or xs v x
before_push xs x d v le = ⊎_elim
    (λ lt. get_or_append_left xs (x ∷ []) d v lt ∙ get_or_default xs v d x lt)
    (λ ge. get_or_push xs x d v (omega (arith, le, ge)) ∙ sym (get_or_past xs v x ge))
    (cases_lt v (length xs))

module _ {F : Type 0} {g : Ghosts F} where
  -- the facts of a disk with these parts
  abbrev pub facts_of : Buffered F g → (files : Past (Buffered F g)) → CallCount → (latest since : Past (Buffered F g)) → Past (Past (Buffered F g)) → DiskFacts
  facts_of b files calls latest since past = record {
    honest = g.is_honest;
    sectors = b.sectors;
    time = calls_made calls;
    marks = time_at files.items b;
    failures = calls_failed calls;
    plans = [];
    log = [];
    now = map (shown_of latest.items) (range_with_len 0 b.sectors);
    may_leave = λ u k c. LeftOf (get_or past.items u since).items k c;
  }

  -- What a disk over an honest file always fulfils about its file, its last moment without a failure, and the moments since its last sync.
  pub record Holds (b : Buffered F g) (latest since : List (Buffered F g)) : Type 0 where
    pub shown : b.failed ≡ false → (k : ℕ) → shown_at b k ≡ shown_of latest k
    pub waits : (k : ℕ) (c : Sector) → write_buffer_at b.write_buffer k ≡ Some c → c ≡ shown_of latest k
    pub kept : (k : ℕ) (c : Sector) → read_ahead_at b.read_ahead k ≡ Some c → c ≡ shown_of latest k
    pub covered : (k : ℕ) (c : Sector) → Leaves b k c → LeftOf since k c
    pub held : (k : ℕ) → k < b.sectors → LeftOf since k (shown_of latest k)

  pub holds_old : (old : FileDisk F g) → IsTrue g.is_honest → Holds old.buffered old.latest.items old.since.items
  holds_old old honest = record {
    shown = old.shown honest;
    waits = old.waits honest;
    kept = old.kept honest;
    covered = old.covered honest;
    held = old.held honest;
  }

  -- what might be left at one of the moments is among what these moments leave
  left_at : (since : List (Buffered F g)) (b : Buffered F g) (k : ℕ) (c : Sector) → Contains since b → Leaves b k c → LeftOf since k c
  left_at since b k c is_among left = ∣ (b, is_among, left) ∣₁

  -- what reads return is in the write buffer, or the medium may have it
  shown_left : (b : Buffered F g) (k : ℕ) → MayHave (g.facts b.file) k (sector (g.facts b.file).now k) → Leaves b k (shown_at b k)
  shown_left b k has = ⊎_elim
      (λ none. subst (Leaves b k) (sym (shown_none b k none)) (inr has))
      (λ some. inl (some.1 ∙ ap Some (sym (shown_some b k some.0 some.1))))
      (cases_option (write_buffer_at b.write_buffer k))

  -- what is in the read-ahead buffer is what reads return
  kept_shown : (b : Buffered F g) → KeepsOf b.read_ahead (g.facts b.file).now → (k : ℕ) (c : Sector) → read_ahead_at b.read_ahead k ≡ Some c → c ≡ shown_at b k
  kept_shown b keeps k c is = ⊎_elim
      (λ none. keeps k c is ∙ sym (shown_none b k none))
      (λ some. absurd (none-some c (sym (b.apart k (subst IsSome (sym some.1) refl)) ∙ is)))
      (cases_option (write_buffer_at b.write_buffer k))

  -- `Holds` is true at a moment without a failure that is among those since the last sync
  pub holds_from : (b : Buffered F g) (latest since : List (Buffered F g)) → IsTrue g.is_honest → b.failed ≡ false → HoldsWhatIsRead (g.facts b.file)
      → latest ≡ b ∷ [] → Contains since b → Holds b latest since
  holds_from b latest since honest well reads is is_among = subst (λ moments. Holds b moments since) (sym is) (record {
    shown = λ fine k. refl;
    waits = λ k c is. sym (shown_some b k c is);
    kept = kept_shown b (b.kept honest well);
    covered = λ k c left. left_at since b k c is_among left;
    held = λ k lt. left_at since b k (shown_at b k) is_among (shown_left b k (reads.each k (omega (arith, lt, b.size honest))));
  })

  -- at a single moment with an empty write buffer, only the medium's contents are left
  left_below : (b : Buffered F g) → ((k : ℕ) → write_buffer_at b.write_buffer k ≡ None) → (k : ℕ) (c : Sector) (P : Sector → Type 0)
      → ((d : Sector) → MayHave (g.facts b.file) k d → P d) → (s : Buffered F g) → Contains (b ∷ []) s → Leaves s k c → P c
  left_below b waits k c P below s is_among left = ⊎_elim
      (λ none. absurd (omega (arith, none.1)))
      (λ is. ⊎_elim (λ waiting. absurd (none-some c (sym (waits k) ∙ waiting))) (λ has. below c has) (subst (λ moment. Leaves moment k c) (sym is) left))
      (Contains-push_cases [] b s is_among)

  -- A disk at its start: reads return what the file has, and a stop may leave what its medium may have.
  module _ (b : Buffered F g) (files : Past (Buffered F g)) (calls : CallCount) (latest since : Past (Buffered F g)) (past : Past (Past (Buffered F g)))
      (waits : (k : ℕ) → write_buffer_at b.write_buffer k ≡ None) (latest_is : latest.items ≡ b ∷ []) (since_is : since.items ≡ b ∷ []) (none : past.items ≡ []) where
    pub starts_now : HoldsWhatIsRead (g.facts b.file) → b.sectors ≡ (g.facts b.file).sectors → (k : ℕ)
        → sector (facts_of b files calls latest since past).now k ≡ sector (g.facts b.file).now k
    starts_now reads size k =
        ap (λ moments. sector (map (shown_of moments) (range_with_len 0 b.sectors)) k) latest_is
        ∙ ⊎_elim
        (λ lt. get_or-map-range_with_len (shown_at b) 0 b.sectors k k [] lt (omega arith) ∙ shown_none b k (waits k))
        (λ ge. get_or_past (map (shown_at b) (range_with_len 0 b.sectors)) k [] (omega (arith, ge, length-map-range_with_len (shown_at b) 0 b.sectors))
        ∙ sym (get_or_past (g.facts b.file).now k [] (omega (arith, ge, size, reads.size))))
        (cases_lt k b.sectors)

    pub starts_left : (k : ℕ) (c : Sector) → MayHave (g.facts b.file) k c → MayLeave (facts_of b files calls latest since past) k c
    starts_left k c has =
        subst (λ moments. LeftOf (get_or moments (calls_made calls) since).items k c) (sym none)
        (subst (λ moments. LeftOf moments k c) (sym since_is) (left_at (b ∷ []) b k c (Contains-push [] b) (inr has)))

    pub left_starts : (k : ℕ) (c : Sector) → MayLeave (facts_of b files calls latest since past) k c → ∥ MayHave (g.facts b.file) k c ∥₁
    left_starts k c left = ∥∥₁_elim
        (subst (λ moments. LeftOf moments k c) since_is (subst (λ moments. LeftOf (get_or moments (calls_made calls) since).items k c) none left))
        ∥∥₁_prop
        (λ found. left_below b waits k c (λ d. ∥ MayHave (g.facts b.file) k d ∥₁) (λ d has. ∣ has ∣₁) found.0 found.1 found.2)

  module _ (old new : Buffered F g) (latest since : List (Buffered F g)) (holds : Holds old latest since)
      (sectors : new.sectors ≡ old.sectors) (write_buffer : new.write_buffer ≡ old.write_buffer) (within : StaysWithin (Leaves old) (g.facts old.file) (g.facts new.file)) where
    waits_on : (k : ℕ) (c : Sector) → write_buffer_at new.write_buffer k ≡ Some c → c ≡ shown_of latest k
    waits_on k c is = holds.waits k c (ap (λ waits. write_buffer_at waits k) (sym write_buffer) ∙ is)

    covered_on : (k : ℕ) (c : Sector) → Leaves new k c → LeftOf since k c
    covered_on k c left = holds.covered k c (leaves_before old new within write_buffer k c left)

    held_on : (k : ℕ) → k < new.sectors → LeftOf since k (shown_of latest k)
    held_on k lt = holds.held k (omega (arith, lt, sectors))

    -- `Holds` stays true if a write or a sync failed
    pub holds_failed : new.failed ≡ true → new.read_ahead ≡ old.read_ahead → Holds new latest since
    holds_failed failed read_ahead = record {
      shown = λ well. absurd (let both : false ≡ true = sym well ∙ failed in cc);
      waits = waits_on;
      kept = λ k c is. holds.kept k c (ap (λ kept. read_ahead_at kept k) (sym read_ahead) ∙ is);
      covered = covered_on;
      held = held_on;
    }

    -- `Holds` stays true if the file was read
    pub holds_read : IsTrue g.is_honest → old.failed ≡ false → new.failed ≡ false → (g.facts new.file).now ≡ (g.facts old.file).now → Holds new latest since
    holds_read honest fine well now =
        let shown : (k : ℕ) → shown_at new k ≡ shown_of latest k =
        λ k. ap (λ waits. or_else (write_buffer_at waits k) (sector (g.facts new.file).now k)) write_buffer
        ∙ ap (λ reads. or_else (write_buffer_at old.write_buffer k) (sector reads k)) now
        ∙ holds.shown fine k in
        record {
          shown = λ still. shown;
          waits = waits_on;
          kept = λ k c is. kept_shown new (new.kept honest well) k c is ∙ shown k;
          covered = covered_on;
          held = held_on;
        }

  -- `Holds` stays true after a read, which asks the file for nothing after a failure
  pub read_on : (old new : Buffered F g) (latest since : List (Buffered F g)) → Holds old latest since → IsTrue g.is_honest → new.sectors ≡ old.sectors → new.write_buffer ≡ old.write_buffer
      → new.failed ≡ old.failed → (old.failed ≡ true → new ≡ old) → IsStill old new → Holds new latest since
  read_on old new latest since holds honest sectors write_buffer failed over still = ⊎_elim
      (λ is. subst (λ b. Holds b latest since) (sym (over is)) holds)
      (λ fine. holds_read old new latest since holds sectors write_buffer still.within honest fine (failed ∙ fine) (still.now fine))
      (cases_Bool old.failed)

  -- one more call of a disk
  module _ (old : FileDisk F g) (b : Buffered F g) (files : Past (Buffered F g)) (calls : CallCount) (latest since : Past (Buffered F g)) (past : Past (Past (Buffered F g)))
      (same : b.sectors ≡ old.buffered.sectors) (counted : calls_made calls ≡ calls_made old.calls + 1) (kept : files.items ≡ old.files.items ++ old.buffered ∷ [])
      (marked : past.items ≡ old.past.items ++ old.since ∷ []) where
    -- a moment up to the old one stays what it was, and so does the file's time at that moment
    moment_stays : (u : ℕ) → u ≤ calls_made old.calls → get_or past.items u since ≡ get_or old.past.items u old.since
    moment_stays u le = ap (λ moments. get_or moments u since) marked ∙ before_push old.past.items old.since since u (omega (arith, le, old.counted))

    time_stays : (u : ℕ) → u ≤ calls_made old.calls → time_at files.items b u ≡ time_at old.files.items old.buffered u
    time_stays u le =
        ap (λ moments. time_at moments b u) kept ∙ ap (λ s. (g.facts s.file).time) (before_push old.files.items old.buffered b u (omega (arith, le, old.noted)))

    -- the entry of the present moment is `since`
    moment_now : get_or past.items (calls_made calls) since ≡ since
    moment_now = get_or_past past.items (calls_made calls) since (omega (arith, counted, old.counted, ap length marked, length_push old.past.items old.since))

    pub keeps_past : KeepsPast (file_facts old) (facts_of b files calls latest since past)
    keeps_past = record {
      sectors = same;
      later = omega (arith, counted);
      marks = time_stays;
      past = λ u k c le. (
        λ left. subst (λ moment. LeftOf moment.items k c) (moment_stays u le) left,
        λ left. subst (λ moment. LeftOf moment.items k c) (sym (moment_stays u le)) left,
      );
    }

    pub left_new : (k : ℕ) (c : Sector) → LeftOf since.items k c → MayLeave (facts_of b files calls latest since past) k c
    left_new k c left = subst (λ moment. LeftOf moment.items k c) (sym moment_now) left

    pub new_left : (k : ℕ) (c : Sector) → MayLeave (facts_of b files calls latest since past) k c → LeftOf since.items k c
    new_left k c left = subst (λ moment. LeftOf moment.items k c) moment_now left

    -- if no more is left at the moments since the last sync, no set grows
    pub no_more : ((k : ℕ) (c : Sector) → LeftOf since.items k c → LeftOf old.since.items k c) → LeavesNoMore (file_facts old) (facts_of b files calls latest since past)
    no_more fewer = record { each = λ k c left. left_now old k c (fewer k c (new_left k c left)) }

    -- if these moments are the same, and so is the last one without a failure, nothing changes
    pub unchanged : since ≡ old.since → latest ≡ old.latest → IsUnchanged (file_facts old) (facts_of b files calls latest since past)
    unchanged since_is latest_is = record {
      now = ap (λ moments. map (shown_of moments.items) (range_with_len 0 b.sectors)) latest_is ∙ ap (λ n. map (shown_of old.latest.items) (range_with_len 0 n)) same;
      log = refl;
      stop = λ k c. (
        λ left. left_now old k c (subst (λ moments. LeftOf moments.items k c) since_is (new_left k c left)),
        λ left. left_new k c (subst (λ moments. LeftOf moments.items k c) (sym since_is) (now_left old k c left)),
      );
    }

    -- a stop of the disk may leave everything that the medium has during the call
    pub covered : IsTrue g.is_honest → StaysWithin (Leaves old.buffered) (facts_below old) (g.facts b.file) → (u : ℕ) (m : List Sector)
        → (facts_below old).time ≤ u → u ≤ (g.facts b.file).time → MediumAt (g.facts b.file) u m → LeftSince (facts_of b files calls latest since past) (file_facts old).time m
    covered honest within u m low high medium = (
      calls_made old.calls,
      omega arith,
      omega (arith, counted),
      record {
        size = medium.size ∙ within.sectors ∙ old.buffered.size honest ∙ sym same;
        each = λ k lt. subst (λ moment. LeftOf moment.items k (sector m k))
            (sym (moment_stays (calls_made old.calls) (omega arith) ∙ get_or_past old.past.items (calls_made old.calls) old.since (omega (arith, old.counted))))
            (old.covered honest k (sector m k) (within.each u k (sector m k) low high (medium.each k (omega (arith, lt, same, old.buffered.size honest, within.sectors)))));
      },
    )

    -- The disk was written: b is its file after the call.
    module _ (honest : IsTrue g.is_honest) (fine : old.buffered.failed ≡ false) (at : ℕ) (content : Sector) (in_old : at < old.buffered.sectors)
        (put : IsPut at old.buffered b) (here : write_buffer_at b.write_buffer at ≡ Some content)
        (others : (k : ℕ) → k ≢ at → (write_buffer_at b.write_buffer k ≡ write_buffer_at old.buffered.write_buffer k) ⊎ (write_buffer_at b.write_buffer k ≡ None))
        (latest_is : latest.items ≡ b ∷ []) (since_is : since.items ≡ old.since.items ++ b ∷ []) where
      -- what a stop after the write may leave, of the file and of the write buffer
      left_of_put : (k : ℕ) (c : Sector) → ((k ≡ at) × (c ≡ content) → ⊥) → Leaves b k c → LeftOf old.since.items k c
      left_of_put k c other left = ⊎_elim
          (λ waits. ⊎_elim
          (λ is. absurd (other (is, same_some (write_buffer_at b.write_buffer at) c content (subst (λ j. write_buffer_at b.write_buffer j ≡ Some c) is waits) here)))
          (λ apart. ⊎_elim
          (λ before. old.covered honest k c (inl (sym before ∙ waits)))
          (λ none. absurd (none-some c (sym none ∙ waits)))
          (others k apart))
          (cases_eq k at))
          (λ has. old.covered honest k c (put.within.each (g.facts b.file).time k c put.within.later (omega arith) has))
          left

      left_of_more : (k : ℕ) (c : Sector) → ((k ≡ at) × (c ≡ content) → ⊥) → LeftOf since.items k c → LeftOf old.since.items k c
      left_of_more k c other left = ∥∥₁_elim left ∥∥₁_prop (λ found. ⊎_elim
          (λ before. left_at old.since.items found.0 k c before found.2)
          (λ is. left_of_put k c other (subst (λ moment. Leaves moment k c) (sym is) found.2))
          (Contains-push_cases old.since.items b found.0 (subst (λ moments. Contains moments found.0) since_is found.1)))

      cases_put : (k : ℕ) (c : Sector) → ((k ≡ at) × (c ≡ content)) ⊎ ((k ≡ at) × (c ≡ content) → ⊥)
      cases_put k c = ⊎_elim
          (λ is. ⊎_elim (λ both. inl (is, both)) (λ other. inr (λ found. other found.1)) (cases_content c content))
          (λ apart. inr (λ found. apart found.0))
          (cases_eq k at)

      pub grows : GrowsBy (file_facts old) (facts_of b files calls latest since past) at content
      grows = record {
        each = λ k c. (
          λ left. ⊎_elim (λ is. inr is) (λ other. inl (left_now old k c (left_of_more k c other (new_left k c left)))) (cases_put k c),
          λ left. left_new k c (subst (λ moments. LeftOf moments k c) (sym since_is) (⊎_elim
              (λ before. ∥∥₁_elim (now_left old k c before) ∥∥₁_prop
              (λ found. left_at (old.since.items ++ b ∷ []) found.0 k c (Contains-append_left old.since.items (b ∷ []) found.0 found.1) found.2))
              (λ is. left_at (old.since.items ++ b ∷ []) b k c (Contains-push old.since.items b)
              (inl (ap (write_buffer_at b.write_buffer) is.0 ∙ here ∙ ap Some (sym is.1))))
              left)),
        );
      }

      pub now_set : (facts_of b files calls latest since past).now ≡ set (file_facts old).now at content
      now_set =
          let reads = (file_facts old).now in
          let size : length reads ≡ old.buffered.sectors = length-map-range_with_len (shown_of old.latest.items) 0 old.buffered.sectors in
          ap (λ moments. map (shown_of moments) (range_with_len 0 b.sectors)) latest_is
          ∙ ap (λ n. map (shown_at b) (range_with_len 0 n)) same
          ∙ sym (fill_by_all (shown_at b) (set reads at content) old.buffered.sectors [] (length-set reads at content ∙ size) (λ k lt. ⊎_elim
          (λ is. ap (λ j. sector (set reads at content) j) is ∙ get_or-set_same reads at content [] (omega (arith, in_old, size))
          ∙ sym (shown_some b at content here) ∙ ap (shown_at b) (sym is))
          (λ apart. get_or-set_other reads at k content [] apart ∙ read_of old k lt ∙ sym (old.shown honest fine k) ∙ sym (put.shown k apart))
          (cases_eq k at)))

    -- The disk was synced: b is its file after the call.
    module _ (honest : IsTrue g.is_honest) (fine : old.buffered.failed ≡ false) (settled : IsSynced old.buffered b) (waits : (k : ℕ) → write_buffer_at b.write_buffer k ≡ None)
        (held : HoldsWhatIsRead (g.facts b.file)) (latest_is : latest.items ≡ b ∷ []) (since_is : since.items ≡ b ∷ []) where
      shown_on : (k : ℕ) → shown_at b k ≡ shown_of old.latest.items k
      shown_on k = shown_none b k (waits k) ∙ settled.shown k ∙ old.shown honest fine k

      pub fewer : (k : ℕ) (c : Sector) → LeftOf since.items k c → LeftOf old.since.items k c
      fewer k c left = ∥∥₁_elim (subst (λ moments. LeftOf moments k c) since_is left) ∥∥₁_prop
          (λ found. left_below b waits k c (LeftOf old.since.items k)
          (λ d has. old.covered honest k d (settled.within.each (g.facts b.file).time k d settled.within.later (omega arith) has))
          found.0 found.1 found.2)

      pub now_stays : (facts_of b files calls latest since past).now ≡ (file_facts old).now
      now_stays =
          let reads = (file_facts old).now in
          ap (λ moments. map (shown_of moments) (range_with_len 0 b.sectors)) latest_is
          ∙ ap (λ n. map (shown_at b) (range_with_len 0 n)) same
          ∙ sym (fill_by_all (shown_at b) reads old.buffered.sectors [] (length-map-range_with_len (shown_of old.latest.items) 0 old.buffered.sectors)
          (λ k lt. read_of old k lt ∙ sym (shown_on k)))

      pub alone : LeavesNowAlone (facts_of b files calls latest since past)
      alone =
          let now = (facts_of b files calls latest since past).now in
          let reads : (k : ℕ) → k < b.sectors → sector now k ≡ shown_at b k =
          λ k lt. ap (λ l. sector l k) now_stays ∙ read_of old k (omega (arith, lt, same)) ∙ sym (shown_on k) in
          record {
            each = λ k c lt. (
              λ left. ∥∥₁_elim (subst (λ moments. LeftOf moments k c) since_is (new_left k c left)) (hlevel props)
                  (λ found. left_below b waits k c (λ d. d ≡ sector now k)
                  (λ d has. settled.alone k d has ∙ sym (settled.shown k) ∙ sym (shown_none b k (waits k)) ∙ sym (reads k lt))
                  found.0 found.1 found.2),
              λ is. left_new k c (subst (λ moments. LeftOf moments k c) (sym since_is)
                  (left_at (b ∷ []) b k c (Contains-push [] b) (subst (Leaves b k) (sym (is ∙ reads k lt))
                  (shown_left b k (held.each k (omega (arith, lt, same, old.buffered.size honest, settled.within.sectors))))))),
            );
          }
