-- The requests of an update's changes. Each change has its bytes at an offset of a buffer (own).
use Rattle.std.specs.Prelude.{◌≡◌, ◌⊎◌, ◌+◌, ◌≤◌, ℕ, List, [], ◌∷◌, drop, length, map, take}
use Rattle.requests.specs.Request.{Request, install, replace, remove, set_preloads}
use Rattle.c_answers.specs.Names.{AreNames}
use Rattle.c_answers.specs.declared.asked_change.AskedChange.{AskedChange}
use Rattle.c_answers.specs.declared.asked_change.AskedChange.TheVariants as asked
use Rattle.c_answers.specs.declared.change_place.ChangePlace.{ChangePlace}

-- the bytes of a change within the buffer
abbrev pub own_bytes : List ℕ → ChangePlace → List ℕ
own_bytes bytes change = take change.length (drop change.from bytes)

-- `request` is the request of a change of kind `kind` with the bytes `own`. Kind 1 installs a
-- library, and kind 2 replaces one; `own` is the library's file. Kind 3 removes the library whose
-- name is `own`. Kind 4 sets the preloads to the names that `own` has in a row.
abbrev pub Asks : ℕ → List ℕ → Request → Type 0
Asks kind own request =
    ((kind ≡ 1) × (request ≡ install own))
    ⊎ ((kind ≡ 2) × (request ≡ replace own))
    ⊎ ((kind ≡ 3) × (request ≡ remove own))
    ⊎ ((kind ≡ 4) × ((names : List (List ℕ)) × AreNames names own × (request ≡ set_preloads names)))

-- A change is valid and makes this request: its bytes lie within `bytes`, and have the form for its
-- kind.
pub record Means (bytes : List ℕ) (change : ChangePlace) (request : Request) : Type 0 where
  pub inside : change.from + change.length ≤ length bytes
  pub asks : Asks change.kind (own_bytes bytes change) request

-- the changes are valid, and each change makes the request at the same position of the list of requests
abbrev pub Mean : List ℕ → List ChangePlace → List Request → Type 0
Mean bytes [] [] = Unit {0}
Mean bytes (change ∷ changes) (request ∷ requests) = Means bytes change request × Mean bytes changes requests
Mean bytes changes requests = ⊥

-- the request of a change that was read
abbrev pub request_asked : AskedChange → Request
request_asked (asked.Install bytes) = install bytes.now
request_asked (asked.Replace bytes) = replace bytes.now
request_asked (asked.Remove name) = remove name.now
request_asked (asked.SetPreloads names) = set_preloads (map (λ n. n.now) names.items)
