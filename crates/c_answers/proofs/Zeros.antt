-- Lemmas about zeros in a row, to which a page of zeros is added.
use Rattle.std.proofs.Common.{◌≡◌, ◌∙◌, ℕ, List, ◌+◌, ◌-◌, ◌*◌, ◌<◌, ◌++◌, length, min, take, ap, sym, subst, arith}
use Rattle.std.specs.Prelude.{replicate}
use Rattle.std.proofs.lemmas.List.{take-replicate, length-replicate, replicate-append-replicate}

more : (old new : List ℕ) (at count : ℕ) (zeros : List ℕ) → take at old ≡ replicate at 0 → zeros ≡ replicate count 0
    → take (at + length zeros) new ≡ take at old ++ zeros → take (at + count) new ≡ replicate (at + count) 0
more old new at count zeros before are put =
    ap (λ n. take (at + n) new) (sym (ap length are ∙ length-replicate {A = ℕ} count 0))
    ∙ put
    ∙ ap (λ l. l ++ zeros) before
    ∙ ap (λ l. replicate {A = ℕ} at 0 ++ l) are
    ∙ replicate-append-replicate {A = ℕ} at count 0

-- if the pages before a page are zeros, and the page is filled with zeros, the pages up to it are zeros
pub page_more : (old new : List ℕ) (page count : ℕ) → page * 4096 < length old → length new ≡ length old → count ≡ min 4096 (length old - page * 4096)
    → take (min (page * 4096) (length old)) old ≡ replicate (min (page * 4096) (length old)) 0
    → take (page * 4096 + length (take count (replicate {A = ℕ} 4096 0))) new ≡ take (page * 4096) old ++ take count (replicate {A = ℕ} 4096 0)
    → take (min ((page + 1) * 4096) (length new)) new ≡ replicate (min ((page + 1) * 4096) (length new)) 0
page_more old new page count lt size is before put =
    let at : min (page * 4096) (length old) ≡ page * 4096 = omega (arith, lt) in
    let end : page * 4096 + count ≡ min ((page + 1) * 4096) (length new) = omega (arith, lt, size, is) in
    subst (λ n. take n new ≡ replicate {A = ℕ} n 0) end
    (more old new (page * 4096) count (take count (replicate {A = ℕ} 4096 0)) (subst (λ n. take n old ≡ replicate {A = ℕ} n 0) at before)
    (take-replicate {X = ℕ} count 4096 0 (omega (arith, is))) put)
