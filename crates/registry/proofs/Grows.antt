-- Lemmas about the needs of a walk, which only grow.
use Rattle.std.proofs.Common.{◌≡◌, ◌+◌, ◌<◌, ◌≤◌, ◌++◌, ℕ, false, is_err, List, [], ◌∷◌, length, take, drop, get_or, Option, Some, None, Result, Ok, Err, refl, sym, ap, ◌∙◌, arith}
use Rattle.std.specs.Prelude.{OnOk, OnErr, is_some, true}
use Rattle.std.proofs.Math.Seq.{take-length}
use Rattle.std.proofs.lemmas.List.{get_or-take, length-take, length_push}
use Rattle.scope.specs.LoadOrder.{Need}
use Rattle.scope.specs.Queue.{Queue}
use Rattle.registry.specs.declared.needs.Needs.{Needs}
use Rattle.states.specs.State.{Library}
use Rattle.registry.specs.inside.Walked.{Grows, IsAmong}

-- a fact that follows from `Ok` and from `Err` is true in any case
pub on_either : {T E : Type 0} (r : Result T E) {P Q R : Type 0} → OnOk r P → OnErr r Q → (P → R) → (Q → R) → R
on_either (Ok t) p q well refused = well p
on_either (Err e) p q well refused = refused q

-- unchanged needs have grown
pub grows_none : (needs : Needs) → Grows needs needs
grows_none needs = record { limit = refl; begins = take-length needs.places.places; missing = λ need is. is }

-- needs that grew twice have grown
pub grows_more : (old mid new : Needs) → Grows old mid → Grows mid new → Grows old new
grows_more old mid new first second = record {
  limit = second.limit ∙ first.limit;
  begins = begins_more old.places.places mid.places.places new.places.places first.begins second.begins;
  missing = λ need is. second.missing need (first.missing need is);
}
  where
    begins_more : (a b c : List ℕ) → take (length a) b ≡ a → take (length b) c ≡ b → take (length a) c ≡ a
    begins_more [] b c first second = refl
    begins_more (x ∷ a) [] c first second = absurd cc
    begins_more (x ∷ a) (y ∷ b) [] first second = absurd cc
    begins_more (x ∷ a) (y ∷ b) (z ∷ c) first second =
        let head : z ≡ x = ap (λ l. get_or l 0 z) second ∙ ap (λ l. get_or l 0 z) first in
        ap (λ l. z ∷ l) (begins_more a b c (ap (drop 1) first) (ap (drop 1) second)) ∙ ap (λ h. h ∷ a) head

-- a name that was noted stays noted
pub noted : (old new : Needs) → Grows old new → is_some old.missing ≡ true → new.missing ≡ old.missing
noted old new grows some = by old.missing refl
  where
    by : (o : Option Need) → old.missing ≡ o → new.missing ≡ old.missing
    by None is = absurd cc
    by (Some need) is = grows.missing need is ∙ sym is

-- if the places that were added are removed again, the needs are the old ones
pub taken_off : (old mid : Needs) (places : Queue) (missing : Option Need) (count : ℕ) → Grows old mid → count ≡ length old.places.places
    → places ≡ record { limit = mid.places.limit; places = take count mid.places.places } → missing ≡ old.missing → ◌≡◌ {A = Needs} (record { places = places; missing = missing }) old
taken_off old mid places missing count grows counted shorter same =
    let begins : take count mid.places.places ≡ old.places.places = ap (λ n. take n mid.places.places) counted ∙ grows.begins in
    let back : ◌≡◌ {A = Queue} (record { limit = mid.places.limit; places = take count mid.places.places }) old.places = (λ i. record { limit = grows.limit i; places = begins i }) in
    let whole : places ≡ old.places = shorter ∙ back in
    (λ i. record { places = whole i; missing = same i })

-- if no name is noted, the missing name is None
pub unnoted : (missing : Option Need) → false ≡ is_some missing → None ≡ missing
unnoted None is = refl
unnoted (Some need) is = cc

-- a fact that is true in any case is true if the result is a refusal; and a refusal isn't a success
pub if_refused : {T E : Type 0} {P : Type 0} (r : Result T E) → P → OnErr r P
if_refused (Ok t) p = tt
if_refused (Err e) p = p

pub not_well : {T E : Type 0} (P : Type 0) (r : Result T E) → true ≡ is_err r → OnOk r P
not_well P (Ok t) is = cc
not_well P (Err e) is = tt

-- if a walk reads one more file of its queue, it is still a walk among the same number of files
pub still_among : {count : ℕ} {old new : Needs} {files more : List Library} (file : Library) → IsAmong count old files → Grows old new
    → length files + 1 < length old.places.places → more ≡ files ++ file ∷ [] → IsAmong count new more
still_among {old = old} {new = new} {files = files} file among grows next behind = record {
  places = record {
    limit = grows.limit ∙ among.places.limit;
    first = sym (get_or-take (length old.places.places) new.places.places 0 1 (omega (arith, next)))
        ∙ ap (λ (ps : List ℕ). get_or ps 0 1) grows.begins
        ∙ among.places.first;
  };
  within =
      let longer : length old.places.places ≤ length new.places.places = omega (arith, ap length grows.begins, length-take (length old.places.places) new.places.places) in
      omega (arith, next, longer, ap length behind, length_push files file);
}
