-- Consequences of the definitions of the contents and the choices after some writes.
use Rattle.std.proofs.Common.{◌≡◌, ◌≢◌, ⊎_elim, ℕ, zero, suc, ◌<◌, List, [], ◌∷◌}
use Rattle.std.proofs.Common.{length, set, take, drop, refl, sym, ◌∙◌, ap, subst, arith}
use Rattle.std.proofs.lemmas.Bool.{cases_eq, eq-eqb, ne_eqb}
use Rattle.std.proofs.lemmas.List.{length-set, get_or-set_same, get_or-set_other}
use Rattle.std.specs.List.{Contains}
use Rattle.sector_disk.specs.declared.written.Written.{Written}
use Rattle.sector_disk.specs.Disk.{Sector, sector}
use Rattle.sector_disk.specs.Written.{contents, written_to, choices}

pub length-contents : (start : List Sector) (writes : List Written) → length (contents start writes) ≡ length start
length-contents start [] = refl
length-contents start (w ∷ writes) = length-contents (set start w.at w.content) writes ∙ length-set start w.at w.content

-- the contents after all writes are those after the first n writes and then the other writes
pub contents_split : (start : List Sector) (writes : List Written) (n : ℕ)
    → contents start writes ≡ contents (contents start (take n writes)) (drop n writes)
contents_split start writes zero = refl
contents_split start [] (suc n) = refl
contents_split start (w ∷ writes) (suc n) = contents_split (set start w.at w.content) writes n

-- a write at the front of the list adds its content to the contents that were written to its own
-- sector, but not to those of another sector
pub written_to_same : (k : ℕ) (w : Written) (writes : List Written) → w.at ≡ k → written_to k (w ∷ writes) ≡ w.content ∷ written_to k writes
written_to_same k w writes same = rw (eq-eqb w.at k same) refl

pub written_to_other : (k : ℕ) (w : Written) (writes : List Written) → w.at ≢ k → written_to k (w ∷ writes) ≡ written_to k writes
written_to_other k w writes other = rw (ne_eqb w.at k other) refl

Contains-tail : (c : Sector) (cs : List Sector) (x : Sector) → Contains cs x → Contains (c ∷ cs) x
Contains-tail c cs x found = (suc found.0, omega (arith, found.1), found.2)

module _ (k : ℕ) (start : List Sector) (w : Written) (writes : List Written) (now : Sector)
    (so_far : Contains (sector (set start w.at w.content) k ∷ written_to k writes) now) where
  among_same : k < length start → w.at ≡ k → Contains (sector start k ∷ written_to k (w ∷ writes)) now
  among_same lt is =
      let more = set start w.at w.content in
      let here : sector more k ≡ w.content = ap (λ j. sector more j) (sym is)
      ∙ get_or-set_same start w.at w.content [] (subst (λ j. j < length start) (sym is) lt) in
      subst (λ cs. Contains (sector start k ∷ cs) now) (ap (λ c. c ∷ written_to k writes) here ∙ sym (written_to_same k w writes is))
      (Contains-tail (sector start k) (sector more k ∷ written_to k writes) now so_far)

  among_other : w.at ≢ k → Contains (sector start k ∷ written_to k (w ∷ writes)) now
  among_other not =
      let there : sector (set start w.at w.content) k ≡ sector start k = get_or-set_other start w.at k w.content [] (λ e. not (sym e)) in
      subst (λ cs. Contains (sector start k ∷ cs) now) (sym (written_to_other k w writes not))
      (subst (λ c. Contains (c ∷ written_to k writes) now) there so_far)

-- the content that reads return is the content at the start, or one of the contents that were
-- written
now_among : (k : ℕ) (start : List Sector) (writes : List Written) → k < length start
    → Contains (sector start k ∷ written_to k writes) (sector (contents start writes) k)
now_among k start [] lt = (0, omega arith, refl)
now_among k start (w ∷ writes) lt =
    let more = set start w.at w.content in
    let so_far = now_among k more writes (omega (arith, lt, length-set start w.at w.content)) in
    ⊎_elim (among_same k start w writes _ so_far lt) (among_other k start w writes _ so_far) (cases_eq w.at k)

-- the content that reads return is one of the choices
pub now_chosen : (start : List Sector) (writes : List Written) (synced k : ℕ) → k < length start
    → Contains (choices start writes synced k) (sector (contents start writes) k)
now_chosen start writes synced k lt =
    subst (λ c. Contains (choices start writes synced k) c) (sym (ap (λ l. sector l k) (contents_split start writes synced)))
    (now_among k (contents start (take synced writes)) (drop synced writes) (omega (arith, lt, length-contents start (take synced writes))))
