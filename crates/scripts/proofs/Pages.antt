-- Lemmas about the bytes that a buffered reader has left.
use Rattle.std.proofs.Common.{◌≡◌, ◌==◌, ◌≤◌, ◌<◌, ◌+◌, ℕ, suc, List, [], ◌∷◌, ◌++◌, length, length-take, take, drop, Option, Some, None}
use Rattle.std.proofs.Common.{Bool, true, false, if◌then◌else◌, refl, sym, subst, ap, ◌∙◌, arith}
use Rattle.std.specs.List.{slice_index}
use Rattle.std.specs.Io.BufRead.{DropsConsumable}
use Rattle.std.specs.Io.Buffered.{reader_remaining, reader_inner, reader_buffer, reader_capacity}
use Rattle.std.specs.Io.KnownBytes.{Consumes, prepend_known}
use Rattle.std.specs.declared.io.buffered.BufReader.{BufReader}
use Rattle.std.proofs.Math.Seq.{take-suc}
use Rattle.std.proofs.lemmas.Bool.{eqb-true, eq-eqb}
use Rattle.std.proofs.lemmas.Grind.{get_or_default_zero}
use Rattle.std.proofs.lemmas.List.{get_or-take, take-append-drop, take-append-le}
use Rattle.memchr.specs.Find.{IsFirstByte, is_byte}
use Rattle.scripts.specs.Line.{IsLine, ended}

prepend_nil : (known : Option (List ℕ)) → prepend_known [] known ≡ known
prepend_nil None = refl
prepend_nil (Some bytes) = refl

-- before anything is read, a buffered reader has the bytes that its inner reader has left
pub unread_pages : {T A : Type 0} (rest : T → Option (List ℕ)) (r : BufReader T A) (x : T) (n : ℕ) → reader_inner r ≡ x → reader_buffer r ≡ [] → reader_capacity r ≡ n → (n == 0) ≡ false
    → reader_remaining rest r ≡ rest x
unread_pages rest r x n inner empty capacity more =
    ap (λ c. if c == 0 then None else prepend_known (reader_buffer r) (rest (reader_inner r))) capacity
    ∙ ap (λ b. if b then None else prepend_known (reader_buffer r) (rest (reader_inner r))) more
    ∙ ap (λ l. prepend_known l (rest (reader_inner r))) empty
    ∙ prepend_nil (rest (reader_inner r))
    ∙ ap rest inner

-- the bytes before the first newline are a line, and with the newline they are a line with its newline
first_ended : (bytes : List ℕ) (end : ℕ) → IsFirstByte (is_byte 10) bytes (Some end) → take (end + 1) bytes ≡ ended (take end bytes)
first_ended bytes end first =
    let next : end + 1 ≡ suc end = omega arith in
    ap (λ n. take n bytes) next ∙ take-suc bytes end 0 first.0.high ∙ ap (λ b. take end bytes ++ b ∷ []) (eqb-true (slice_index bytes end) 10 first.1)

first_line : (bytes : List ℕ) (end : ℕ) → IsFirstByte (is_byte 10) bytes (Some end) → IsLine (take end bytes)
first_line bytes end first k d lt is =
    let short : k < end = omega (arith, lt, length-take end bytes) in
    let there : k < length bytes = omega (arith, short, first.0.high) in
    first.0.before k (omega arith) short (eq-eqb (slice_index bytes k) 10 (sym (get_or_default_zero bytes k d there) ∙ sym (get_or-take end bytes k d short) ∙ is))

-- if the first bytes of a reader's buffer are consumed, the reader has the bytes after them left
taken_known : (b : Bool) (bytes : List ℕ) (more now : Option (List ℕ)) (n : ℕ) (line : List ℕ) → n ≤ length bytes → take n bytes ≡ line
    → DropsConsumable (if b then None else prepend_known bytes more) now (Some (length bytes)) n → Consumes (if b then None else prepend_known bytes more) now line
taken_known true bytes more now n line short is drops = tt
taken_known false bytes None now n line short is drops = tt
taken_known false bytes (Some more) now n line short is drops =
    let whole : bytes ++ more ≡ line ++ drop n (bytes ++ more) = sym (take-append-drop n (bytes ++ more)) ∙ ap (λ l. l ++ drop n (bytes ++ more)) (take-append-le n bytes more short ∙ is) in
    subst (λ k. Consumes (Some (bytes ++ more)) k line) (sym (drops short)) whole

-- if the first line of the buffer and its newline are consumed, the reader has the bytes after them left
pub line_taken : {T A : Type 0} (rest : T → Option (List ℕ)) (r : BufReader T A) (now : Option (List ℕ)) (end : ℕ) (line : List ℕ) → IsFirstByte (is_byte 10) (reader_buffer r) (Some end)
    → DropsConsumable (reader_remaining rest r) now (Some (length (reader_buffer r))) (end + 1) → line ≡ take end (reader_buffer r)
    → Consumes (reader_remaining rest r) now (ended line) × IsLine line
line_taken rest r now end line first drops is =
    let bytes = reader_buffer r in
    let whole = first_ended bytes end first ∙ ap ended (sym is) in
    let read = taken_known (reader_capacity r == 0) bytes (rest (reader_inner r)) now (end + 1) (ended line) (omega (arith, first.0.high)) whole drops in
    (read, subst IsLine (sym is) (first_line bytes end first))
