-- For callers: the buffered text was sent.
use Rattle.std.proofs.Common.{◌≡◌, ℕ, List, [], ◌++◌, codes, sym, append-nil, append_assoc, Option, Some, None, Result, Ok, Err, refl, ap, subst, ◌∙◌}
use Rattle.std.specs.Prelude.{OnOk}
use Rattle.std.specs.Io.KnownBytes.{Appends, append_known}
use Rattle.std.proofs.KnownBytes.{Appends-trans}

-- if no text is buffered, the writer holds the whole text
pub nothing_waits : (known : Option (List ℕ)) → append_known known [] ≡ known
nothing_waits None = refl
nothing_waits (Some bytes) = ap (λ l. Some l) (append-nil bytes)

pub all_sent : (before held now : Option (List ℕ)) (waiting text : List ℕ) → Appends before (append_known held waiting) text → Appends held now waiting → Appends before now text
all_sent None held now waiting text h sent = tt
all_sent (Some x) None now waiting text h sent = absurd h
all_sent (Some x) (Some y) None waiting text h sent = absurd sent
all_sent (Some x) (Some y) (Some z) waiting text h sent = sent ∙ h

-- if no text was buffered before, and a text was put and sent, the writer holds this text in addition
pub sent_alone : (held mid now : Option (List ℕ)) (before waiting text : List ℕ) → before ≡ []
    → Appends (append_known held before) (append_known mid waiting) text → Appends mid now waiting → Appends held now text
sent_alone held mid now before waiting text none put sent =
    all_sent held mid now waiting text (subst (λ k. Appends k (append_known mid waiting) text) (ap (append_known held) none ∙ nothing_waits held) put) sent

-- the same fact, for a result that is Ok if the text was sent
pub sent : {T E : Type 0} (r : Result T E) (held mid now : Option (List ℕ)) (before waiting text : List ℕ) → before ≡ []
    → Appends (append_known held before) (append_known mid waiting) text → OnOk r (Appends mid now waiting) → OnOk r (Appends held now text)
sent (Ok t) held mid now before waiting text none put done = sent_alone held mid now before waiting text none put done
sent (Err e) held mid now before waiting text none put done = tt

-- two texts that are written one after the other are both appended, if the result is Ok
pub behind : {T E : Type 0} (r : Result T E) (start mid now : Option (List ℕ)) (first second : List ℕ) → Appends start mid first
    → OnOk r (Appends mid now second) → OnOk r (Appends start now (first ++ second))
behind (Ok t) start mid now first second put done = Appends-trans start mid now first second put done
behind (Err e) start mid now first second put done = tt

-- a text with a newline is appended if the text was appended and the newline is buffered
pub ended : (start held : Option (List ℕ)) (waiting waits text : List ℕ) → Appends start (append_known held waiting) text → waits ≡ waiting ++ codes "\n"
    → Appends start (append_known held waits) (text ++ codes "\n")
ended None held waiting waits text h is = tt
ended (Some x) None waiting waits text h is = absurd h
ended (Some x) (Some y) waiting waits text h is =
    ap (λ l. y ++ l) is ∙ sym (append_assoc y waiting (codes "\n")) ∙ ap (λ l. l ++ codes "\n") h ∙ append_assoc x text (codes "\n")
