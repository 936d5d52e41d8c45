-- The writes of a list of relocations that grows.
use Rattle.std.proofs.Common.{◌≡◌, ℕ, ◌-◌, Bool, true, false, cond, List, [], ◌∷◌, ◌++◌, Option, Some, None, refl, ap, sym, ◌∙◌, append-nil, ◌+◌, reverse, arith}
use Rattle.std.proofs.lemmas.List.{reverse-append, map-id}
use Rattle.std.proofs.lemmas.List.Concat.{flat_map-append}
use Rattle.std.proofs.lemmas.List.Folds.{find-append}
use Rattle.std.proofs.lemmas.List.FromFn.{map-range_with_len_more}
use Rattle.std.proofs.lemmas.List.Elements.{filter_map-append}
use Rattle.std.specs.List.{find, cons_option, filter_map, flat_map, range_with_len}
use Rattle.std.specs.Option.{option_or}
use Rattle.std.specs.Int.{byte_at}
use Rattle.elf_dynamic.specs.declared.relocation.Relocation.{Relocation}
use Rattle.image.specs.Heading.{within}
use Rattle.image.specs.Relocating.{Write, last_write_at, written_or}
use Rattle.image.specs.inside.Segments.{after}

last-by : (w : Write) (o : Option Write) (old : Option ℕ) (a : ℕ) (b : Bool)
    → written_or (cond b (Some w) o) old a ≡ cond b (Some (byte_at (a - w.place) w.value)) (written_or o old a)
last-by w o old a true = refl
last-by w o old a false = refl

one-more : (ws : List Write) (o : Option Write) (old : Option ℕ) (a : ℕ)
    → written_or (last_write_at (ws ++ cons_option o []) a) old a ≡ after o (written_or (last_write_at ws a) old a) a
one-more ws None old a = ap (λ l. written_or (last_write_at l a) old a) (append-nil ws)
one-more ws (Some w) old a =
    ap (λ l. written_or (find (λ w. within w.place 8 a) l) old a) (reverse-append ws (w ∷ []))
    ∙ last-by w (last_write_at ws a) old a (within w.place 8 a)

-- the byte at an address after one more relocation: the byte of its write if it covers the address, or
-- else the byte before
pub written_or-more : (f : Relocation → Option Write) (rs : List Relocation) (r : Relocation) (old : Option ℕ) (a : ℕ)
    → written_or (last_write_at (filter_map f (rs ++ r ∷ [])) a) old a ≡ after (f r) (written_or (last_write_at (filter_map f rs) a) old a) a
written_or-more f rs r old a =
    ap (λ l. written_or (last_write_at l a) old a) (filter_map-append f rs (r ∷ []))
    ∙ one-more (filter_map f rs) (f r) old a

then-by : (o old : Option Write) (loaded : Option ℕ) (a : ℕ) → written_or (option_or o old) loaded a ≡ written_or o (written_or old loaded a) a
then-by (Some w) old loaded a = refl
then-by None old loaded a = refl

-- the writes `ws` followed by `vs` leave the byte that `vs` leave after `ws`
pub written_or-then : (ws vs : List Write) (old : Option ℕ) (a : ℕ)
    → written_or (last_write_at (ws ++ vs) a) old a ≡ written_or (last_write_at vs a) (written_or (last_write_at ws a) old a) a
written_or-then ws vs old a =
    let p = λ (w : Write). within w.place 8 a in
    ap (λ l. written_or (find p l) old a) (reverse-append ws vs)
    ∙ ap (λ o. written_or o old a) (find-append p (reverse vs) (reverse ws))
    ∙ then-by (last_write_at vs a) (last_write_at ws a) old a

-- the first n + 1 numbers are the first n followed by n
pub places-more : (n : ℕ) → range_with_len 0 (n + 1) ≡ range_with_len 0 n ++ n ∷ []
places-more n =
    sym (map-id (range_with_len 0 (n + 1))) ∙ map-range_with_len_more (λ (k : ℕ). k) 0 n n (omega arith)
    ∙ ap (λ ks. ks ++ n ∷ []) (map-id (range_with_len 0 n))

-- the writes of the first n + 1 objects are those of the first n, followed by those of object number n
pub writes-more : (f : ℕ → List Write) (n : ℕ) → flat_map f (range_with_len 0 (n + 1)) ≡ flat_map f (range_with_len 0 n) ++ f n
writes-more f n =
    ap (flat_map f) (places-more n) ∙ flat_map-append f (range_with_len 0 n) (n ∷ [])
    ∙ ap (λ ws. flat_map f (range_with_len 0 n) ++ ws) (append-nil (f n))
