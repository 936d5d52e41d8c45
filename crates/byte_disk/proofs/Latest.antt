-- What is known of the latest contents after one more step.
use Rattle.std.proofs.Common.{◌≡◌, ⊎_elim, ℕ, ◌<◌, List, [], ◌∷◌, ◌++◌, length, get_or, set, All, false, refl, sym, ◌∙◌, ap, subst, arith}
use Rattle.std.proofs.lemmas.Bool.{cases_eq, ne_eqb}
use Rattle.std.proofs.lemmas.List.{get_or_append_left, get_or_push, get_or-set_same, get_or-set_other}
use Rattle.std.proofs.lemmas.List.Elements.{All-push}
use Rattle.std.specs.Prelude.{Option, Some, None, nat_eq}
use Rattle.sector_disk.specs.Disk.{Sector, sector, sector_bytes, IsWhole}
use Rattle.byte_disk.specs.declared.step.Step.{Step}
use Rattle.byte_disk.specs.declared.step.Step.TheVariants.{Write, Sync}
use Rattle.byte_disk.specs.Plan.{carried_out, writes_in, IsWriteOn}
use Rattle.byte_disk.specs.inside.Latest.{content_of, content_by}
use Rattle.byte_disk.specs.inside.PlanLaws.{length-carried_out}
use Rattle.byte_disk.proofs.Found.{place_in, now_whole}
use Rattle.byte_disk.proofs.Kept.{carried_out-append}

writes_in-append : (steps : List Step) (at : ℕ) (content : Sector) → writes_in (steps ++ Write at content ∷ []) ≡ writes_in steps ++ (at, content) ∷ []
writes_in-append [] at content = refl
writes_in-append (Write a c ∷ steps) at content = ap (λ ws. (a, c) ∷ ws) (writes_in-append steps at content)
writes_in-append (Sync ∷ steps) at content = writes_in-append steps at content

writes_in-sync : (steps : List Step) → writes_in (steps ++ Sync ∷ []) ≡ writes_in steps
writes_in-sync [] = refl
writes_in-sync (Write a c ∷ steps) = ap (λ ws. (a, c) ∷ ws) (writes_in-sync steps)
writes_in-sync (Sync ∷ steps) = writes_in-sync steps

-- a step that is added at the end doesn't change the contents that are found at an earlier place
found_before : (start : List Sector) (steps : List Step) (step : Step) (k : ℕ) (got : Option ℕ)
    → length (content_by start steps k got) ≡ sector_bytes → content_by start (steps ++ step ∷ []) k got ≡ content_by start steps k got
found_before start steps step k None whole = refl
found_before start steps step k (Some place) whole =
    ap content_of (get_or_append_left steps (step ∷ []) Sync place (place_in steps place (content_of (get_or steps place Sync)) whole refl))

module _ (start : List Sector) (steps : List Step) (whole : All IsWhole start) (writes : All (IsWriteOn (length start)) (writes_in steps))
    (latest : ℕ → Option ℕ) (is_latest : (k : ℕ) → k < length start → content_by start steps k (latest k) ≡ sector (carried_out start steps) k) where
  still : (step : Step) (k : ℕ) → k < length start → content_by start (steps ++ step ∷ []) k (latest k) ≡ sector (carried_out start steps) k
  still step k lt =
      found_before start steps step k (latest k) (ap length (is_latest k lt) ∙ now_whole start steps k lt whole writes) ∙ is_latest k lt

  pub latest_sync : (k : ℕ) → k < length start → content_by start (steps ++ Sync ∷ []) k (latest k) ≡ sector (carried_out start (steps ++ Sync ∷ [])) k
  latest_sync k lt = still Sync k lt ∙ ap (λ l. sector l k) (sym (carried_out-append start steps (Sync ∷ [])))

  pub writes_sync : All (IsWriteOn (length start)) (writes_in (steps ++ Sync ∷ []))
  writes_sync = subst (All (IsWriteOn (length start))) (sym (writes_in-sync steps)) writes

  module _ (at : ℕ) (content : Sector) (in_disk : at < length start) where
    pub writes_write : IsWhole content → All (IsWriteOn (length start)) (writes_in (steps ++ Write at content ∷ []))
    writes_write is_whole = subst (All (IsWriteOn (length start))) (sym (writes_in-append steps at content))
        (All-push (IsWriteOn (length start)) (writes_in steps) (at, content) writes (record { inside = in_disk; whole = is_whole }))

    abbrev after : ℕ → Sector
    after k = sector (carried_out start (steps ++ Write at content ∷ [])) k

    after_is : (k : ℕ) → after k ≡ sector (set (carried_out start steps) at content) k
    after_is k = ap (λ l. sector l k) (carried_out-append start steps (Write at content ∷ []))

    pub latest_write : (latest' : ℕ → Option ℕ) → latest' at ≡ Some (length steps) → ((k : ℕ) → nat_eq at k ≡ false → latest' k ≡ latest k) → (k : ℕ)
        → k < length start → content_by start (steps ++ Write at content ∷ []) k (latest' k) ≡ after k
    latest_write latest' here others k lt = ⊎_elim
        (λ same.
        subst (λ j. content_by start (steps ++ Write at content ∷ []) j (latest' j) ≡ after j) same
        (ap (content_by start (steps ++ Write at content ∷ []) at) here
        ∙ ap content_of (get_or_push steps (Write at content) Sync (length steps) refl)
        ∙ sym (after_is at ∙ get_or-set_same (carried_out start steps) at content [] (omega (arith, in_disk, length-carried_out start steps)))))
        (λ other.
        ap (content_by start (steps ++ Write at content ∷ []) k) (others k (ne_eqb at k other))
        ∙ still (Write at content) k lt
        ∙ sym (after_is k ∙ get_or-set_other (carried_out start steps) at k content [] (λ e. other (sym e))))
        (cases_eq at k)
