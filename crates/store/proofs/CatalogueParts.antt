-- The parts of a list that are in its catalogues.
use Rattle.std.proofs.Common.{◌≡◌, ℕ, ◌+◌, ◌*◌, ◌/◌, ◌%◌, ◌<◌, ◌≤◌, List, ◌++◌, length, get_or, take, drop, sym, ap, ◌∙◌, arith}
use Rattle.std.proofs.lemmas.List.{same_lists, get_or-take, get_or-drop, length-take, length-drop, take_all, drop_at, drop-append-le, take-append-le}
use Rattle.states.specs.Cost.{catalogues_for}
use Rattle.store.specs.Stands.{catalogue_part}

-- each whole part of a list has 64 elements
pub length-part : (i : ℕ) (xs : List ℕ) → 64 * (i + 1) ≤ length xs → length (catalogue_part i xs) ≡ 64
length-part i xs le = omega (arith, le, length-take 64 (drop (64 * i) xs), length-drop (64 * i) xs)

-- appending to a list doesn't change its whole parts
pub part-append : (i : ℕ) (xs ys : List ℕ) → 64 * (i + 1) ≤ length xs → catalogue_part i (xs ++ ys) ≡ catalogue_part i xs
part-append i xs ys le =
    ap (take 64) (drop-append-le (64 * i) xs ys (omega (arith, le)))
    ∙ take-append-le 64 (drop (64 * i) xs) ys (omega (arith, le, length-drop (64 * i) xs))

-- if a list has only whole parts, at most 64 elements that are appended to it are its next part
pub part-behind : (i : ℕ) (xs ys : List ℕ) → length xs ≡ 64 * i → length ys ≤ 64 → catalogue_part i (xs ++ ys) ≡ ys
part-behind i xs ys size few = ap (take 64) (drop_at xs ys (64 * i) size) ∙ take_all 64 ys few

-- element `j` of a list is element `j % 64` of part `j / 64`
pub get_or-part : (xs : List ℕ) (j d : ℕ) → get_or (catalogue_part (j / 64) xs) (j % 64) d ≡ get_or xs j d
get_or-part xs j d =
    get_or-take 64 (drop (64 * (j / 64)) xs) (j % 64) d (omega arith)
    ∙ get_or-drop (64 * (j / 64)) xs (j % 64) d
    ∙ ap (λ n. get_or xs n d) (let e : 64 * (j / 64) + j % 64 ≡ j = omega arith in e)

-- Two lists of the same length are the same if their parts are the same.
pub same_parts : (xs ys : List ℕ) → length xs ≡ length ys → ((i : ℕ) → i < catalogues_for (length xs) → catalogue_part i xs ≡ catalogue_part i ys) → xs ≡ ys
same_parts xs ys size each = same_lists xs ys size (λ j d lt.
    let here : j / 64 < catalogues_for (length xs) = omega (arith, lt) in
    sym (get_or-part xs j d) ∙ ap (λ part. get_or part (j % 64) d) (each (j / 64) here) ∙ get_or-part ys j d)
