-- Drafts: which entries a list has, and which sectors it doesn't use.
use Rattle.std.proofs.Common.{◌≡◌, ⊎_elim, ℕ, suc, ◌<◌, nat_eq, true, false, not, if◌then◌else◌, cond, List, [], ◌∷◌, ◌++◌, length, get_or, All, refl, sym, ap, ◌∙◌, arith}
use Rattle.std.specs.List.{flat_map}
use Rattle.std.proofs.Math.ListN.{get_or-map}
use Rattle.std.proofs.lemmas.Bool.{cases_Bool, cases_lt, eq-eqb, false≢true}
use Rattle.std.proofs.lemmas.List.{get_or_default, length-map}
use Rattle.std.proofs.lemmas.List.Folds.{list_any_at}
use Rattle.extents.specs.Extent.{AreDistinct}
use Rattle.store.specs.declared.placed_entry.PlacedEntry.{PlacedEntry}
use Rattle.store.specs.Draft.{apart_from, lists}
use Rattle.store.specs.Stands.{HaveOwnNames, entry_sectors, name_of, sectors_of}
use Rattle.store.specs.inside.Draft.{IsOneOrApart, own_in, own_sectors_in}
use Rattle.store.proofs.GivenUp.{same_place}

-- if the entries have different names, two entries with the same name are the same entry
pub same_name : (entries : List PlacedEntry) → HaveOwnNames entries → (i j : ℕ) (d : PlacedEntry) → i < length entries → j < length entries
    → name_of (get_or entries i d).entry ≡ name_of (get_or entries j d).entry → i ≡ j
same_name entries own i j d lt lt' same = ⊎_elim
    (λ less. absurd (own i j d less lt' same))
    (λ from. ⊎_elim
    (λ more. absurd (own j i d more lt (sym same)))
    (λ upto. omega (arith, from, upto))
    (cases_lt j i))
    (cases_lt i j)

-- a list has an entry exactly if its entry with the same name is in the same sector
pub found_is : (entries : List PlacedEntry) (placed : PlacedEntry) (i : ℕ) (d : PlacedEntry) → i < length entries → name_of (get_or entries i d).entry ≡ name_of placed.entry
    → HaveOwnNames entries → IsOneOrApart entries placed → nat_eq (get_or entries i d).at placed.at ≡ lists entries placed
found_is entries placed i d lt named own one = ⊎_elim
    (λ yes. yes ∙ sym (list_any_at (λ (other : PlacedEntry). nat_eq other.at placed.at) entries i d lt yes))
    (λ no. ⊎_elim
    (λ listed.
    let found = one listed in
    let there : get_or entries found.0 d ≡ placed = get_or_default entries found.0 d placed found.1 ∙ found.2 in
    let same = same_name entries own i found.0 d lt found.1 (named ∙ ap (λ (p : PlacedEntry). name_of p.entry) (sym there)) in
    let its : (get_or entries i d).at ≡ placed.at = ap (λ n. (get_or entries n d).at) same ∙ ap (λ (p : PlacedEntry). p.at) there in
    absurd (false≢true (sym no ∙ eq-eqb (get_or entries i d).at placed.at its)))
    (λ none. no ∙ sym none)
    (cases_Bool (lists entries placed)))
    (cases_Bool (nat_eq (get_or entries i d).at placed.at))

-- a list has each of its entries
pub listed_at : (entries : List PlacedEntry) (i : ℕ) (d : PlacedEntry) → i < length entries → lists entries (get_or entries i d) ≡ true
listed_at entries i d lt =
    list_any_at (λ (other : PlacedEntry). nat_eq other.at (get_or entries i d).at) entries i d lt (eq-eqb (get_or entries i d).at (get_or entries i d).at refl)

-- if the list `others` has an entry, it uses all of the entry's sectors
pub own_listed : (others : List PlacedEntry) (placed : PlacedEntry) → lists others placed ≡ true → own_in others placed ≡ []
own_listed others placed is = ap (λ b. if b then [] else sectors_of placed) is

pub own_unlisted : (others : List PlacedEntry) (placed : PlacedEntry) → lists others placed ≡ false → own_in others placed ≡ sectors_of placed
own_unlisted others placed is = ap (λ b. if b then [] else sectors_of placed) is

-- if the list `others` has all entries, it uses all of their sectors
pub own_none : (others entries : List PlacedEntry) → All (λ placed. lists others placed ≡ true) entries → own_sectors_in others entries ≡ []
own_none others [] each = refl
own_none others (e ∷ entries) each =
    ap (λ l. l ++ own_sectors_in others entries) (own_listed others e (each 0 e (omega arith)))
    ∙ own_none others entries (λ i d lt. each (suc i) d (omega (arith, lt)))

pub own_same : (entries : List PlacedEntry) → own_sectors_in entries entries ≡ []
own_same entries = own_none entries entries (λ i d lt. listed_at entries i d lt)

-- the sectors that the list `others` doesn't use are those of the entries that it doesn't have
pub own_apart : (others entries : List PlacedEntry) → own_sectors_in others entries ≡ flat_map sectors_of (apart_from others entries)
own_apart others [] = refl
own_apart others (e ∷ entries) = ⊎_elim
    (λ is. ap (λ b. (if b then [] else sectors_of e) ++ own_sectors_in others entries) is ∙ own_apart others entries ∙ sym (ap (λ b. flat_map sectors_of (cond (not b) (e ∷ apart_from others entries) (apart_from others entries))) is))
    (λ isnt. ap (λ b. (if b then [] else sectors_of e) ++ own_sectors_in others entries) isnt ∙ ap (λ l. sectors_of e ++ l) (own_apart others entries)
    ∙ sym (ap (λ b. flat_map sectors_of (cond (not b) (e ∷ apart_from others entries) (apart_from others entries))) isnt))
    (cases_Bool (lists others e))

-- if the sectors of entries are distinct, each entry has a sector of its own
pub own_places : (entries : List PlacedEntry) → AreDistinct (flat_map sectors_of entries) → AreDistinct (entry_sectors entries)
own_places entries once i j d less fits same =
    let count : length (entry_sectors entries) ≡ length entries = simp length-map in
    let at = λ (p : PlacedEntry). p.at in
    let e : PlacedEntry = record { at = d; entry = record { file_length = 0; name_length = 0; extent_count = 0; name = []; extents = [] } } in
    let equal = same_place entries once i j e (omega (arith, less, fits, count)) (omega (arith, fits, count))
    (sym (get_or-map at entries i e) ∙ same ∙ get_or-map at entries j e) in
    omega (arith, less, equal)
