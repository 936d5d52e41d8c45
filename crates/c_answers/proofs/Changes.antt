-- Lemmas about the requests of changes, one after the other.
use Rattle.std.proofs.Common.{◌≡◌, ◌≢◌, ⊎_elim, ℕ, zero, suc, ◌+◌, ◌<◌, ◌≤◌, List, [], ◌∷◌, ◌++◌, length, get_or, Option, Some, None, Ok, Err, sym, subst, arith}
use Rattle.std.specs.Prelude.{Result, IfOk, MatchOption}
use Rattle.requests.specs.Request.{Request}
use Rattle.c_answers.specs.Changes.{Asks, Mean, Means, own_bytes, request_asked}
use Rattle.c_answers.specs.declared.asked_change.AskedChange.{AskedChange}
use Rattle.c_answers.specs.declared.change_place.ChangePlace.{ChangePlace}

-- a change of an unknown kind makes no request
pub asks_none : (kind : ℕ) (own : List ℕ) → kind ≢ 1 → kind ≢ 2 → kind ≢ 3 → kind ≢ 4 → (request : Request) → Asks kind own request → ⊥
asks_none kind own one two three four request is =
    ⊎_elim (λ asks. one asks.0) (λ others. ⊎_elim (λ asks. two asks.0) (λ others. ⊎_elim (λ asks. three asks.0) (λ asks. four asks.0) others) others) is

-- if changes make requests, and one more change makes one more request, all of the changes make all of
-- the requests
pub mean_more : (bytes : List ℕ) (changes : List ChangePlace) (requests : List Request) (change : ChangePlace) (request : Request) → Mean bytes changes requests
    → Means bytes change request → Mean bytes (changes ++ change ∷ []) (requests ++ request ∷ [])
mean_more bytes [] [] change request mean means = (means, tt)
mean_more bytes (c ∷ changes) (r ∷ requests) change request mean means = (mean.0, mean_more bytes changes requests change request mean.1 means)
mean_more bytes [] (r ∷ requests) change request mean means = absurd mean
mean_more bytes (c ∷ changes) [] change request mean means = absurd mean

-- the valid change at a position makes a request
pub mean_at : (bytes : List ℕ) (changes : List ChangePlace) (requests : List Request) (i : ℕ) (d : ChangePlace) → i < length changes → Mean bytes changes requests
    → (request : Request) × Means bytes (get_or changes i d) request
mean_at bytes [] requests i d lt mean = absurd (omega (arith, lt))
mean_at bytes (c ∷ changes) (r ∷ requests) zero d lt mean = (r, mean.0)
mean_at bytes (c ∷ changes) (r ∷ requests) (suc i) d lt mean = mean_at bytes changes requests i d (omega (arith, lt)) mean.1
mean_at bytes (c ∷ changes) [] i d lt mean = absurd mean

-- The request that is read from a change's own bytes is the request of the change.
pub read_change : {E : Type 0} (bytes own : List ℕ) (change : ChangePlace) → change.from + change.length ≤ length bytes → own ≡ own_bytes bytes change → (read : Result (Option AskedChange) E)
    → IfOk read (λ o. MatchOption o ((request : Request) → Asks change.kind own request → ⊥) (λ asked. Asks change.kind own (request_asked asked)))
    → IfOk read (λ o. MatchOption o ((request : Request) → Means bytes change request → ⊥) (λ asked. Means bytes change (request_asked asked)))
read_change bytes own change inside is (Ok None) none = λ request means. none request (subst (λ (o : List ℕ). Asks change.kind o request) (sym is) means.asks)
read_change bytes own change inside is (Ok (Some asked)) some = record { inside = inside; asks = subst (λ (o : List ℕ). Asks change.kind o (request_asked asked)) is some }
read_change bytes own change inside is (Err e) _ = tt
