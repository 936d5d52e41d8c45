-- One step of the loop that makes, for each sector, the write with a given number.
use Rattle.std.proofs.Common.{◌≡◌, ◌≢◌, ⊎_elim, ℕ, zero, suc, ◌-◌, ◌<◌, ◌≤◌, List, [], ◌∷◌, length, get_or, set, refl, sym, ◌∙◌, ap, subst, arith}
use Rattle.std.proofs.lemmas.Bool.{cases_eq}
use Rattle.std.proofs.lemmas.List.{get_or-set_same, get_or-set_other}
use Rattle.sector_disk.specs.declared.written.Written.{Written}
use Rattle.sector_disk.specs.Disk.{Sector, sector}
use Rattle.sector_disk.specs.Written.{written_to}
use Rattle.sector_disk.specs.inside.WrittenLaws.{written_to_same, written_to_other}

-- the content that a sector gets: with number 0 its own content, otherwise that of the write with this number
abbrev pub settled : List Sector → List ℕ → List Written → ℕ → Sector
settled sectors numbers writes k = sector (sector sectors k ∷ written_to k writes) (get_or numbers k 0)

-- if a write isn't the one with this number, the content is found without this write under the number that is less by
-- one
countdown : (c x : Sector) (cs : List Sector) (r : ℕ) → r ≢ 1 → sector (c ∷ cs) (r - 1) ≡ sector (c ∷ x ∷ cs) r
countdown c x cs zero not = refl
countdown c x cs (suc zero) not = absurd (not refl)
countdown c x cs (suc (suc j)) not = let e : suc (suc j) - 1 ≡ suc j = omega arith in rw e refl

module _ (sectors : List Sector) (numbers : List ℕ) (w : Written) (writes : List Written) (in_range : w.at < length sectors) (numbered : length numbers ≡ length sectors) where
  abbrev number : ℕ
  number = get_or numbers w.at 0

  abbrev less : List ℕ
  less = set numbers w.at (number - 1)

  less_here : get_or less w.at 0 ≡ number - 1
  less_here = get_or-set_same numbers w.at (number - 1) 0 (omega (arith, in_range, numbered))

  less_there : (k : ℕ) → w.at ≢ k → get_or less k 0 ≡ get_or numbers k 0
  less_there k other = get_or-set_other numbers w.at k (number - 1) 0 (λ e. other (sym e))

  pub settled_made : number ≡ 1 → (k : ℕ) → settled (set sectors w.at w.content) less writes k ≡ settled sectors numbers (w ∷ writes) k
  settled_made is k = ⊎_elim
      (λ same. subst (λ j. settled (set sectors w.at w.content) less writes j ≡ settled sectors numbers (w ∷ writes) j) same here)
      there
      (cases_eq w.at k)
    where
      none : get_or less w.at 0 ≡ 0
      none = less_here ∙ omega (arith, is)

      here : settled (set sectors w.at w.content) less writes w.at ≡ settled sectors numbers (w ∷ writes) w.at
      here =
          ap (λ r. sector (sector (set sectors w.at w.content) w.at ∷ written_to w.at writes) r) none
          ∙ get_or-set_same sectors w.at w.content [] in_range
          ∙ sym (ap (λ cs. sector (sector sectors w.at ∷ cs) number) (written_to_same w.at w writes refl) ∙ ap (λ r. sector (sector sectors w.at ∷ w.content ∷ written_to w.at writes) r) is)

      there : (w.at ≡ k → ⊥) → settled (set sectors w.at w.content) less writes k ≡ settled sectors numbers (w ∷ writes) k
      there other =
          ap (λ r. sector (sector (set sectors w.at w.content) k ∷ written_to k writes) r) (less_there k other)
          ∙ ap (λ c. sector (c ∷ written_to k writes) (get_or numbers k 0)) (get_or-set_other sectors w.at k w.content [] (λ e. other (sym e)))
          ∙ ap (λ cs. sector (sector sectors k ∷ cs) (get_or numbers k 0)) (sym (written_to_other k w writes other))

  pub settled_passed : number ≢ 1 → (k : ℕ) → settled sectors less writes k ≡ settled sectors numbers (w ∷ writes) k
  settled_passed not k = ⊎_elim
      (λ same. subst (λ j. settled sectors less writes j ≡ settled sectors numbers (w ∷ writes) j) same here)
      there
      (cases_eq w.at k)
    where
      here : settled sectors less writes w.at ≡ settled sectors numbers (w ∷ writes) w.at
      here =
          ap (λ r. sector (sector sectors w.at ∷ written_to w.at writes) r) less_here
          ∙ countdown (sector sectors w.at) w.content (written_to w.at writes) number not
          ∙ ap (λ cs. sector (sector sectors w.at ∷ cs) number) (sym (written_to_same w.at w writes refl))

      there : (w.at ≡ k → ⊥) → settled sectors less writes k ≡ settled sectors numbers (w ∷ writes) k
      there other =
          ap (λ r. sector (sector sectors k ∷ written_to k writes) r) (less_there k other)
          ∙ ap (λ cs. sector (sector sectors k ∷ cs) (get_or numbers k 0)) (sym (written_to_other k w writes other))

  -- no number is greater than the number of writes to its sector
  pub less_made : (k : ℕ) → get_or numbers k 0 ≤ length (written_to k (w ∷ writes)) → get_or less k 0 ≤ length (written_to k writes)
  less_made k le = ⊎_elim
      (λ same. omega (arith, le, less_here, ap (λ j. get_or less j 0) same, ap (λ j. get_or numbers j 0) same, ap length (written_to_same k w writes same)))
      (λ other. omega (arith, le, less_there k other, ap length (written_to_other k w writes other)))
      (cases_eq w.at k)

-- if each number is the number of writes to its sector, the same is true of the writes after the first one, once 1 is
-- subtracted at the first write's sector
pub counted_less : (counts : List ℕ) (w : Written) (writes : List Written) → w.at < length counts → (k : ℕ) → get_or counts k 0 ≡ length (written_to k (w ∷ writes))
    → get_or (set counts w.at (get_or counts w.at 0 - 1)) k 0 ≡ length (written_to k writes)
counted_less counts w writes inside k counted =
    let fewer = get_or counts w.at 0 - 1 in
    ⊎_elim
    (λ same.
    let here = ap (λ j. get_or (set counts w.at fewer) j 0) same in
    omega (arith, counted, get_or-set_same counts w.at fewer 0 inside, here, ap (λ j. get_or counts j 0) same, ap length (written_to_same k w writes same)))
    (λ other. omega (arith, counted, get_or-set_other counts w.at k fewer 0 (λ e. other (sym e)), ap length (written_to_other k w writes other)))
    (cases_eq w.at k)
