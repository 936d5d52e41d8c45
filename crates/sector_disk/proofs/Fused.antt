-- A call that a fuse passes on: what holds for the inner disk holds for the fuse.
use Rattle.std.proofs.Common.{◌≡◌, ⊎_elim, inl, inr, ◌↔◌, ℕ, ◌+◌, ◌≤◌, List, [], ◌∷◌, ◌++◌, length, drop, true, Result, Err, refl, sym, ◌∙◌, ap, subst, arith}
use Rattle.std.proofs.lemmas.List.{length-append, drop-append-le}
use Rattle.std.proofs.lemmas.List.Elements.{filter-append}
use Rattle.std.proofs.lemmas.Result.{on_ok_weaker}
use Rattle.std.specs.List.{filter}
use Rattle.sector_disk.specs.declared.fuse.Plan.{Plan}
use Rattle.sector_disk.specs.declared.fuse.PastCall.{PastCall}
use Rattle.sector_disk.specs.Disk.{Sector, DiskFacts, MayLeave, KeepsPast, IsUnchanged, GrowsBy, LeavesNowAlone, IsRead, IsWrite, IsSync}
use Rattle.sector_disk.specs.Fuse.{reached, inner_moment, fused}
use Rattle.sector_disk.specs.inside.FuseLaws.{inner_now}

-- a stop of the fuse now may leave exactly what a stop of the inner disk may leave
pub present : (plan : Plan) (inner : DiskFacts) (past : List PastCall) (k : ℕ) (c : Sector) → MayLeave (fused plan inner past) k c ↔ MayLeave inner k c
present plan inner past k c = (
  λ left. subst (λ u. inner.may_leave u k c) (inner_now inner.time past) left,
  λ left. subst (λ u. inner.may_leave u k c) (sym (inner_now inner.time past)) left,
)

module _ (plan : Plan) (inner inner' : DiskFacts) (past past' : List PastCall) (step : PastCall) (is_past : past' ≡ past ++ step ∷ [])
    (is_reached : step.reached ≡ true) (time : inner'.time ≡ inner.time + 1) where
  one_more : (u : ℕ) → u ≤ length past → reached (drop u past') ≡ reached (drop u past) + 1
  one_more u le =
      let is = λ (x : PastCall). x.reached in
      ap (λ p. reached (drop u p)) is_past
      ∙ ap reached (drop-append-le u past (step ∷ []) le)
      ∙ ap length (filter-append is (drop u past) (step ∷ []))
      ∙ length-append (filter is (drop u past)) (filter is (step ∷ []))
      ∙ rw is_reached refl

  same_moment : (u : ℕ) → u ≤ length past → inner_moment inner'.time past' u ≡ inner_moment inner.time past u
  same_moment u le = omega (arith, one_more u le, time)

  pub keeps_past : KeepsPast inner inner' → KeepsPast (fused plan inner past) (fused plan inner' past')
  keeps_past keeps = record {
    sectors = keeps.sectors;
    later = omega (arith, ap length is_past, length-append past (step ∷ []));
    marks = λ u le. ap inner'.marks (same_moment u le) ∙ keeps.marks (inner_moment inner.time past u) (omega arith);
    past = λ u k c le.
        let then : inner_moment inner.time past u ≤ inner.time = omega arith in
        let was = keeps.past (inner_moment inner.time past u) k c then in (
          λ left. was.0 (subst (λ m. inner'.may_leave m k c) (same_moment u le) left),
          λ left. subst (λ m. inner'.may_leave m k c) (sym (same_moment u le)) (was.1 left),
        );
  }

  unchanged_through : IsUnchanged inner inner' → IsUnchanged (fused plan inner past) (fused plan inner' past')
  unchanged_through same = record {
    now = same.now;
    log = same.log;
    stop = λ k c. (
      λ left. (present plan inner past k c).1 ((same.stop k c).0 ((present plan inner' past' k c).0 left)),
      λ left. (present plan inner' past' k c).1 ((same.stop k c).1 ((present plan inner past k c).0 left)),
    );
  }

  pub read_through : {T E : Type 0} → (at : ℕ) (content : Sector) (result : Result T E) → IsRead inner inner' at content result
      → IsRead (fused plan inner past) (fused plan inner' past') at content result
  read_through at content result r = record { past = keeps_past r.past; same = unchanged_through r.same; ok = r.ok }

  -- the read was made on the inner disk, and fails on the fuse
  pub late_read : {S F T E : Type 0} → (at : ℕ) (content : Sector) (result : Result S F) (fault : E) → IsRead inner inner' at content result
      → IsRead {T = T} (fused plan inner past) (fused plan inner' past') at content (Err fault)
  late_read at content result fault r = record { past = keeps_past r.past; same = unchanged_through r.same; ok = tt }

  pub write_through : {T E : Type 0} → (at : ℕ) (content : Sector) (result : Result T E) → IsWrite inner inner' at content result
      → IsWrite (fused plan inner past) (fused plan inner' past') at content result
  write_through at content result w = record {
    past = keeps_past w.past;
    ok = w.ok;
    err = w.err;
    stop = record { each = λ k c left. ⊎_elim (λ older. inl ((present plan inner past k c).1 older)) (λ this. inr this) (w.stop.each k c ((present plan inner' past' k c).0 left)) };
    stop_ok = on_ok_weaker result grows w.stop_ok;
  }
    where
      grows : GrowsBy inner inner' at content → GrowsBy (fused plan inner past) (fused plan inner' past') at content
      grows g = record {
        each = λ k c. (
          λ left. ⊎_elim (λ older. inl ((present plan inner past k c).1 older)) (λ this. inr this) ((g.each k c).0 ((present plan inner' past' k c).0 left)),
          λ either. (present plan inner' past' k c).1 ((g.each k c).1 (⊎_elim (λ older. inl ((present plan inner past k c).0 older)) (λ this. inr this) either)),
        );
      }

  pub sync_through : {T E : Type 0} → (result : Result T E) → IsSync inner inner' result → IsSync (fused plan inner past) (fused plan inner' past') result
  sync_through result s = record {
    past = keeps_past s.past;
    now = s.now;
    log = s.log;
    stop = record { each = λ k c left. (present plan inner past k c).1 (s.stop.each k c ((present plan inner' past' k c).0 left)) };
    stop_ok = on_ok_weaker result alone s.stop_ok;
  }
    where
      alone : LeavesNowAlone inner' → LeavesNowAlone (fused plan inner' past')
      alone a = record {
        each = λ k c lt. (
          λ left. (a.each k c lt).0 ((present plan inner' past' k c).0 left),
          λ same. (present plan inner' past' k c).1 ((a.each k c lt).1 same),
        );
      }

  -- the sync was made on the inner disk, and fails on the fuse
  pub late_sync : {S F T E : Type 0} → (result : Result S F) (fault : E) → IsSync inner inner' result → IsSync {T = T} (fused plan inner past) (fused plan inner' past') (Err fault)
  late_sync result fault s = record {
    past = keeps_past s.past;
    now = s.now;
    log = s.log;
    stop = record { each = λ k c left. (present plan inner past k c).1 (s.stop.each k c ((present plan inner' past' k c).0 left)) };
    stop_ok = tt;
  }
