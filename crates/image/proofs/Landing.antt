-- Where the relocations of accepted files write, and which symbols they name.
use Rattle.std.proofs.Common.{◌≡◌, ℕ, ◌+◌, ◌<◌, ◌≤◌, Bool, true, false, cond, List, length, map, Option, Some, None, refl, ap, ◌∙◌, subst, arith}
use Rattle.std.specs.Prelude.{slice_get, ◌||◌, ◌&&◌, ◌==◌, ◌%◌, ◌^◌, IfSome, is_none, nat_le}
use Rattle.std.specs.Option.{option_map}
use Rattle.std.specs.List.{list_any}
use Rattle.std.proofs.lemmas.Bool.Decides.{nat_tests}
use Rattle.std.proofs.lemmas.List.Folds.{list_any_at}
use Rattle.std.proofs.lemmas.List.FromFn.{length-map-range_with_len}
use Rattle.std.proofs.lemmas.Option.{get_or_from_slice_get, slice_get_within}
use Rattle.elf_file.specs.Address.{is_in_memory}
use Rattle.elf_file.specs.Segment.{loads}
use Rattle.elf_file.specs.declared.refusal.ObjectRefusal.TheVariants.{RelocationSymbol}
use Rattle.elf_file.proofs.FirstOf.{none_at, when_none}
use Rattle.elf_dynamic.specs.Constant.{R_X86_64_64, R_X86_64_RELATIVE}
use Rattle.elf_dynamic.specs.HashTable.{word, hash_table, bucket_count, chains, chain_count}
use Rattle.elf_dynamic.specs.Relocation.{is_writing, lacks_symbol, has_bad_relocation_symbol, relocations, uses_symbol}
use Rattle.elf_dynamic.specs.Refusal.{object_tests, first_refusal}
use Rattle.elf_dynamic.specs.declared.relocation.Relocation.{Relocation}
use Rattle.elf_dynamic.proofs.Accepted.{places}
use Rattle.image.specs.Heading.{Heading}
use Rattle.image.specs.Constant.{MEMORY_LIMIT}
use Rattle.image.specs.Loading.{heading_at}
use Rattle.image.specs.Placement.{Placed, reach}
use Rattle.image.specs.Relocating.{Write, base_at, symbol_value, value_with, write_with, is_undefined}
use Rattle.image.specs.inside.Segments.{Lands, room_in}
use Rattle.image.proofs.Placing.{placed-any, place-reached, rooms-shift}

symbols_fine : (file : List ℕ) → first_refusal file ≡ None → has_bad_relocation_symbol file ≡ false
unfolding first_refusal
symbols_fine file h = when_none RelocationSymbol (has_bad_relocation_symbol file) (none_at (object_tests file) 28 h)

lacks-none : (file : List ℕ) (i : ℕ) (r : Relocation) (b : Bool) → lacks_symbol file r ≡ b → has_bad_relocation_symbol file ≡ false
    → slice_get (relocations file) i ≡ Some r → lacks_symbol file r ≡ false
unfolding has_bad_relocation_symbol
lacks-none file i r false e fine at = e
lacks-none file i r true e fine at =
    let some = list_any_at (lacks_symbol file) (relocations file) i r (slice_get_within (relocations file) i r at)
    (ap (lacks_symbol file) (get_or_from_slice_get (relocations file) i r r at) ∙ e) in
    cc

chains-counted : (file : List ℕ) → length (chains file) ≡ chain_count file
unfolding chains
chains-counted file = length-map-range_with_len (word (hash_table file)) (2 + bucket_count file) (chain_count file)

there-by : (uses : Bool) (count symbol : ℕ) → (uses && nat_le count symbol) ≡ false → uses ≡ true → symbol < count
there-by true count symbol h e = grind (arith, nat_tests)
there-by false count symbol h e = cc

-- the symbol that a relocation of an accepted file names exists
pub symbol-there : (file : List ℕ) (i : ℕ) (r : Relocation) → first_refusal file ≡ None → slice_get (relocations file) i ≡ Some r → uses_symbol r.kind ≡ true
    → r.symbol < length (chains file)
symbol-there file i r accepted at uses =
    let there = there-by (uses_symbol r.kind) (chain_count file) r.symbol
    (lacks-none file i r (lacks_symbol file r) refl (symbols_fine file accepted) at) uses in
    omega (arith, there, chains-counted file)

writes-by : (kind w : ℕ) (p q : Option ℕ) (b1 b2 b3 : Bool) → (kind == R_X86_64_RELATIVE) ≡ b1 → (kind == R_X86_64_64) ≡ b2 → uses_symbol kind ≡ b3
    → is_none (cond b1 (Some w) (cond b2 p (cond b3 q None))) ≡ false → is_writing kind ≡ true
writes-by kind w p q true b2 b3 e1 e2 e3 h = grind (arith, nat_tests)
writes-by kind w p q false true b3 e1 e2 e3 h = grind (arith, nat_tests)
writes-by kind w p q false false true e1 e2 e3 h = ap (λ b. b || (kind == R_X86_64_RELATIVE)) e3
writes-by kind w p q false false false e1 e2 e3 h = cc

writes : (base : ℕ) (values : ℕ → Option ℕ) (r : Relocation) → is_none (value_with base values r) ≡ false → is_writing r.kind ≡ true
writes base values r h =
    writes-by r.kind ((base + r.addend) % 2 ^ 64) (option_map (λ value. (value + r.addend) % 2 ^ 64) (values r.symbol)) (values r.symbol)
    (r.kind == R_X86_64_RELATIVE) (r.kind == R_X86_64_64) (uses_symbol r.kind) refl refl refl h

lands-by : (hs : List Heading) (place : ℕ) (o : Option ℕ) → (is_none o ≡ false → (place < 2 ^ 64) × (list_any (room_in place) hs ≡ true))
    → IfSome (option_map (λ value. let w : Write = record { place = place; value = value } in w) o) (Lands hs)
lands-by hs place None h = tt
lands-by hs place (Some v) h = h refl

-- a relocation of an accepted file writes within the memory of its object
pub relocation-lands : (base : ℕ) (file : List ℕ) (values : ℕ → Option ℕ) (i : ℕ) (r : Relocation) → base + reach file ≤ MEMORY_LIMIT → first_refusal file ≡ None
    → slice_get (relocations file) i ≡ Some r → IfSome (write_with base values r) (Lands (map (heading_at base) (loads file)))
relocation-lands base file values i r low accepted at =
    let fits : is_writing r.kind ≡ true → is_in_memory file r.offset 8 ≡ true =
    subst (λ (x : Relocation). is_writing x.kind ≡ true → is_in_memory file x.offset 8 ≡ true) (get_or_from_slice_get (relocations file) i r r at)
    (places file accepted i r (slice_get_within (relocations file) i r at)) in
    lands-by (map (heading_at base) (loads file)) (base + r.offset) (value_with base values r)
    (λ h.
    let any = placed-any file r.offset (fits (writes base values r h)) in
    (omega (arith, low, place-reached file r.offset any), rooms-shift base r.offset (loads file) ∙ any))

and-left : (a b : Bool) → (a && b) ≡ true → a ≡ true
and-left true b h = refl
and-left false b h = cc

and-none : (a : Bool) → (a && false) ≡ true → a ≡ false
and-none true h = cc
and-none false h = refl

uses-by : (kind w : ℕ) (rest : Option ℕ) (b u : Bool) → (kind == R_X86_64_RELATIVE) ≡ b → uses_symbol kind ≡ u
    → (is_writing kind && is_none (cond b (Some w) rest)) ≡ true → uses_symbol kind ≡ true
uses-by kind w rest b true e f h = f
uses-by kind w rest true false e f h =
    let g = and-none (is_writing kind) h in
    let i : is_writing kind ≡ true = and-left (is_writing kind) false h in
    cc
uses-by kind w rest false false e f h =
    let g : is_writing kind ≡ false = ap (λ x. x || (kind == R_X86_64_RELATIVE)) f ∙ e in
    let i : is_writing kind ≡ true = and-left (is_writing kind) (is_none rest) h in
    cc

-- a relocation whose value is undefined names a symbol
pub undefined-uses : (objects : List Placed) (own : ℕ) (r : Relocation) → is_undefined objects own r ≡ true → uses_symbol r.kind ≡ true
undefined-uses objects own r h =
    uses-by r.kind ((base_at objects own + r.addend) % 2 ^ 64)
    (cond (r.kind == R_X86_64_64) (option_map (λ value. (value + r.addend) % 2 ^ 64) (symbol_value objects own r.symbol))
    (cond (uses_symbol r.kind) (symbol_value objects own r.symbol) None))
    (r.kind == R_X86_64_RELATIVE) (uses_symbol r.kind) refl refl h
