-- A name that begins in a stretch, read from its end.
use Rattle.std.proofs.Common.{◌≡◌, ℕ, ◌≤◌, ◌+◌, ◌-◌, List, length, take, drop, arith, ◌∙◌, sym, ap, ◌++◌}
use Rattle.std.specs.Prelude.{reverse}
use Rattle.std.proofs.lemmas.List.{drop-drop, drop-take, length-take, take_min, take-append-drop, reverse-append, length-reverse}
use Rattle.std.proofs.Math.Seq.{take-append_seam}
use Rattle.elf_dynamic.specs.Strings.{name_of}
use Rattle.elf_dynamic.specs.Strings.{string_table, string_at}
use Rattle.hash_check.specs.inside.Names.{IsSymbol, IsStretch, BeginsIn, offset_of, stretch_bytes, stretch_back}
use Rattle.hash_check.specs.declared.strings.Stretch.{Stretch}
use Rattle.hash_check.proofs.NameLengths.{name-is-string, length-in-stretch}

own-front : (n : ℕ) (xs : List ℕ) → take n xs ≡ take (length (take n xs)) xs
own-front n xs = sym (take_min n xs) ∙ ap (λ k. take k xs) (sym (length-take n xs))

-- a string of the table has the bytes of the table from its offset up to its length
pub string-bytes : (t : List ℕ) (at : ℕ) → string_at t at ≡ take (length (string_at t at)) (drop at t)
unfolding string_at
string-bytes t at = own-front _ (drop at t)

-- the last bytes of a list, read backwards, are the first bytes of the list read backwards
pub reverse-drop : (k : ℕ) (xs : List ℕ) → reverse (drop k xs) ≡ take (length (drop k xs)) (reverse xs)
reverse-drop k xs =
    let parts : reverse (drop k xs) ++ reverse (take k xs) ≡ reverse xs = sym (reverse-append (take k xs) (drop k xs)) ∙ ap reverse (take-append-drop k xs) in
    sym (take-append_seam (reverse (drop k xs)) (reverse (take k xs)))
    ∙ ap (λ n. take n (reverse (drop k xs) ++ reverse (take k xs))) (length-reverse (drop k xs))
    ∙ ap (take (length (drop k xs))) parts

-- the last n - k of n bytes from one offset are the n - k bytes from an offset that is greater by k
end-of-front : (k n off at : ℕ) (t : List ℕ) → k ≤ n → at + k ≡ off → take (n - k) (drop off t) ≡ drop k (take n (drop at t))
end-of-front k n off at t le e =
    let size : k + (n - k) ≡ n = omega (arith, le) in
    ap (λ o. take (n - k) (drop o t)) (sym e)
    ∙ ap (take (n - k)) (sym (drop-drop k at t))
    ∙ sym (drop-take k (n - k) (drop at t))
    ∙ ap (λ m. drop k (take m (drop at t))) size

-- a name that begins in a stretch is the end of the stretch's bytes
name-in-stretch : (file : List ℕ) (i : ℕ) (s : Stretch) → IsSymbol file i → IsStretch file s → BeginsIn file i s
    → name_of file i ≡ drop (offset_of file i - s.from) (stretch_bytes file s)
unfolding stretch_bytes
name-in-stretch file i s h stretch within =
    let fits : offset_of file i - s.from ≤ s.length = omega (arith, within.0, within.1) in
    let at : s.from + (offset_of file i - s.from) ≡ offset_of file i = omega (arith, within.0) in
    let string = name-is-string file i h in
    let size : length (string_at (string_table file) (offset_of file i)) ≡ s.length - (offset_of file i - s.from) =
    ap length (sym string) ∙ length-in-stretch file i s h stretch within in
    string ∙ string-bytes (string_table file) (offset_of file i)
    ∙ ap (λ n. take n (drop (offset_of file i) (string_table file))) size
    ∙ end-of-front (offset_of file i - s.from) s.length (offset_of file i) s.from (string_table file) fits at

pub back-in-stretch : (file : List ℕ) (i : ℕ) (s : Stretch) → IsSymbol file i → IsStretch file s → BeginsIn file i s
    → reverse (name_of file i) ≡ take (length (name_of file i)) (stretch_back file s)
unfolding stretch_back
back-in-stretch file i s h stretch within =
    let name : name_of file i ≡ drop (offset_of file i - s.from) (stretch_bytes file s) = name-in-stretch file i s h stretch within in
    ap reverse name ∙ reverse-drop (offset_of file i - s.from) (stretch_bytes file s)
    ∙ ap (λ n. take n (reverse (stretch_bytes file s))) (ap length (sym name))
