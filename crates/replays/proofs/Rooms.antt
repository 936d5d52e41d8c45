-- The number of sectors that the installs of a state take, one after the other.
use Rattle.std.proofs.Common.{◌≡◌, ◌≤◌, ◌<◌, ℕ, ◌+◌, ◌-◌, ◌*◌, true, List, [], ◌∷◌, ◌++◌, length, length-append, arith, sym, ap, ◌∙◌}
use Rattle.std.specs.Prelude.{sum_by, nat_lt}
use Rattle.std.proofs.lemmas.Bool.Decides.{nat_tests}
use Rattle.std.proofs.lemmas.List.Sums.{sum_by-append, sum_by-cons}
use Rattle.extents.specs.Limits.{root_sectors}
use Rattle.states.specs.Cost.{cost, catalogues_for, catalogue_cost}
use Rattle.states.specs.State.{Library}

-- more libraries need at least as many catalogues
pub more_catalogues : (m n : ℕ) → m ≤ n → catalogues_for m ≤ catalogues_for n
more_catalogues m n le = omega (arith, le)

abbrev pub size : Library → ℕ
size l = cost (length l.bytes)

sums : (d c r t a b k : ℕ) → t ≡ d + (c + r) → a ≤ b → b ≤ k → d + 2 * a + (c + 2 * (b - a)) ≤ t + 2 * k
sums d c r t a b k total ab bk = omega (arith, total, ab, bk)

-- some libraries and one more need at most as many sectors as all libraries
pub install_taken : (done rest : List Library) (l : Library)
    → sum_by size done + 2 * catalogues_for (length done) + (size l + catalogue_cost (length done))
    ≤ sum_by size (done ++ l ∷ rest) + 2 * catalogues_for (length (done ++ l ∷ rest))
install_taken done rest l =
    let behind : length done + 1 ≤ length (done ++ l ∷ rest) = omega (arith, length-append done (l ∷ rest)) in
    sums (sum_by size done) (size l) (sum_by size rest) (sum_by size (done ++ l ∷ rest)) (catalogues_for (length done)) (catalogues_for (length done + 1)) (catalogues_for (length (done ++ l ∷ rest)))
    (sum_by-append size done (l ∷ rest) ∙ ap (λ n. sum_by size done + n) (sum_by-cons size l rest))
    (more_catalogues (length done) (length done + 1) (omega arith)) (more_catalogues (length done + 1) (length (done ++ l ∷ rest)) behind)

-- if too few sectors are free for one more library, the disk is smaller than all libraries need
pub too_small : (sectors lone taken more all : ℕ) → taken + more ≤ all → nat_lt (sectors - lone - root_sectors - taken) more ≡ true → sectors < root_sectors + all + lone
too_small sectors lone taken more all le full =
    let lt : sectors - lone - root_sectors - taken < more = grind (arith, nat_tests, full) in
    omega (arith, le, lt)

-- if the disk is smaller than all libraries need, too few sectors are free for the last library
pub too_little : (sectors lone taken more all : ℕ) → taken + more ≡ all → 0 < more → sectors < root_sectors + all + lone → nat_lt (sectors - lone - root_sectors - taken) more ≡ true
too_little sectors lone taken more all is some small =
    let lt : sectors - lone - root_sectors - taken < more = omega (arith, is, some, small) in
    grind (arith, nat_tests, lt)

exact_sums : (d c t a b : ℕ) → t ≡ d + (c + 0) → a ≤ b → d + 2 * a + (c + 2 * (b - a)) ≡ t + 2 * b
exact_sums d c t a b total ab = omega (arith, total, ab)

-- the sectors of the earlier libraries and those of the last library are the sectors of all libraries
pub last_taken : (done : List Library) (l : Library)
    → sum_by size done + 2 * catalogues_for (length done) + (size l + catalogue_cost (length done))
    ≡ sum_by size (done ++ l ∷ []) + 2 * catalogues_for (length (done ++ l ∷ []))
last_taken done l =
    let one : length (done ++ l ∷ []) ≡ length done + 1 = omega (arith, length-append done (l ∷ [])) in
    exact_sums (sum_by size done) (size l) (sum_by size (done ++ l ∷ [])) (catalogues_for (length done)) (catalogues_for (length done + 1))
    (sum_by-append size done (l ∷ []) ∙ ap (λ n. sum_by size done + n) (sum_by-cons size l [])) (more_catalogues (length done) (length done + 1) (omega arith))
    ∙ ap (λ n. sum_by size (done ++ l ∷ []) + 2 * catalogues_for n) (sym one)
