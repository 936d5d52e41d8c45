-- The symbol to which a symbol is bound exists.
use Rattle.std.proofs.Common.{◌≡◌, ℕ, ◌-◌, ◌<◌, Bool, true, false, cond, List, [], ◌∷◌, length, get_or, Option, Some, None, map, refl, ap, subst, arith, suc}
use Rattle.std.specs.Prelude.{slice_get, ◌==◌, ◌&&◌}
use Rattle.std.specs.Option.{option_and_then, option_map, option_or}
use Rattle.std.specs.List.{All, range_with_len}
use Rattle.std.proofs.lemmas.List.FromFn.{get_or-range_with_len, length-range_with_len}
use Rattle.std.proofs.lemmas.List.{length-map}
use Rattle.std.proofs.lemmas.Option.{slice_get_within}
use Rattle.std.proofs.lemmas.Simd.{map-map}
use Rattle.elf_file.specs.FirstOf.{◌when◌, first_of}
use Rattle.elf_file.specs.Dynamic.{is_symbolic}
use Rattle.elf_dynamic.specs.Symbol.{symbols}
use Rattle.elf_dynamic.specs.Strings.{name_of}
use Rattle.elf_dynamic.specs.declared.symbol.Symbol.{Symbol}
use Rattle.hash_check.specs.Definition.{is_exported_as, definition_of}
use Rattle.hash_check.specs.Export.{is_exported}
use Rattle.hash_check.proofs.Exported.{exported_within}
use Rattle.scope.specs.Objects.{Named, file_at}
use Rattle.scope.specs.Lookup.{all_places, definition_at, lookup}
use Rattle.elf_dynamic.specs.Symbol.{is_weak}
use Rattle.scope.specs.Target.{target, target_of, is_own, is_withheld}
use Rattle.scope.specs.declared.target.Target.{Target}
use Rattle.scope.specs.declared.target.Target.TheVariants.{Zero, At}
use Rattle.image.specs.Placement.{Placed, named}
use Rattle.image.specs.Relocating as memory
use Rattle.image.proofs.Holding.{find-passes}

-- the object that a target names, and its symbol, exist
abbrev pub IsThere : List Named → Option Target → Type 0
IsThere objects None = Unit {0}
IsThere objects (Some Zero) = Unit {0}
IsThere objects (Some (At object symbol)) = (object < length objects) × (symbol < length (symbols (file_at objects object)))

and-left : (a b : Bool) → (a && b) ≡ true → a ≡ true
and-left true b h = refl
and-left false b h = cc

exported-as : (file name : List ℕ) (i : ℕ) → is_exported_as file name i ≡ true → is_exported file i ≡ true
unfolding is_exported_as
exported-as file name i h = and-left (is_exported file i) _ h

definition-there : (file name : List ℕ) (i : ℕ) → definition_of file name ≡ Some i → i < length (symbols file)
unfolding definition_of
definition-there file name i h =
    exported_within file i (exported-as file name i (find-passes (is_exported_as file name) i (range_with_len 1 (length (symbols file) - 1)) h))

first-by : (objects : List Named) (p : ℕ) (d : Option ℕ) (rest : List (Option Target)) → p < length objects
    → ((i : ℕ) → d ≡ Some i → i < length (symbols (file_at objects p))) → IsThere objects (first_of rest)
    → IsThere objects (first_of (option_map (At p) d ∷ rest))
first-by objects p None rest within there more = more
first-by objects p (Some i) rest within there more = (within, there i refl)

first-there : (objects : List Named) (name : List ℕ) (ps : List ℕ) → All (λ p. p < length objects) ps
    → IsThere objects (first_of (map (definition_at objects name) ps))
first-there objects name [] h = tt
first-there objects name (p ∷ ps) h =
    first-by objects p (definition_of (file_at objects p) name) (map (definition_at objects name) ps) (h 0 p (omega arith))
    (λ i e. definition-there (file_at objects p) name i e) (first-there objects name ps (λ k d l. h (suc k) d (omega (arith, l))))

places-within : (n : ℕ) → All (λ p. p < n) (range_with_len 0 n)
places-within n k d l =
    let m : k < n = omega (arith, l, length-range_with_len 0 n) in omega (arith, m, get_or-range_with_len 0 n k d m)

scope-there : (objects : List Named) (own : ℕ) (name : List ℕ) (s : Bool) → own < length objects
    → IsThere objects (first_of (map (definition_at objects name) (cond s (own ∷ all_places objects) (all_places objects))))
scope-there objects own name true within =
    first-by objects own (definition_of (file_at objects own) name) (map (definition_at objects name) (all_places objects)) within
    (λ i e. definition-there (file_at objects own) name i e) (first-there objects name (all_places objects) (places-within (length objects)))
scope-there objects own name false within = first-there objects name (all_places objects) (places-within (length objects))

lookup-there : (objects : List Named) (own : ℕ) (name : List ℕ) → own < length objects → IsThere objects (lookup objects own name)
unfolding lookup
lookup-there objects own name within = scope-there objects own name (is_symbolic (file_at objects own)) within

weak-by : (objects : List Named) (w : Bool) → IsThere objects (Zero when w)
weak-by objects true = tt
weak-by objects false = tt

found-by : (objects : List Named) (o : Option Target) (w : Bool) → IsThere objects o → IsThere objects (option_or o (Zero when w))
found-by objects None w h = weak-by objects w
found-by objects (Some t) w h = h

own-by : (objects : List Named) (own i : ℕ) (o : Option Target) (w b c : Bool) → own < length objects → i < length (symbols (file_at objects own)) → IsThere objects o
    → IsThere objects (cond b (Some (At own i)) (option_or (cond c None o) (Zero when w)))
own-by objects own i o w true c within there h = (within, there)
own-by objects own i o w false true within there h = weak-by objects w
own-by objects own i o w false false within there h = found-by objects o w h

symbol-by : (objects : List Named) (own i : ℕ) (b : Bool) (m : Option Symbol) → own < length objects → slice_get (symbols (file_at objects own)) i ≡ m
    → IsThere objects (cond b (Some Zero) (option_and_then (target_of objects own i) m))
symbol-by objects own i true m within at = tt
symbol-by objects own i false None within at = tt
symbol-by objects own i false (Some s) within at =
    own-by objects own i (lookup objects own (name_of (file_at objects own) i)) (is_weak s) (is_own s) (is_withheld s) within
    (slice_get_within (symbols (file_at objects own)) i s at) (lookup-there objects own (name_of (file_at objects own) i) within)

pub target-there : (objects : List Named) (own i : ℕ) → own < length objects → IsThere objects (target objects own i)
unfolding target
target-there objects own i within = symbol-by objects own i (i == 0) (slice_get (symbols (file_at objects own)) i) within refl

-- if a symbol of placed objects is bound to a target, the target's object and its symbol exist
pub placed-there : (objects : List Placed) (own i object symbol : ℕ) → own < length objects → target (map named objects) own i ≡ Some (At object symbol)
    → (object < length objects) × (symbol < length (symbols (memory.file_at objects object)))
placed-there objects own i object symbol within is =
    let m = length-map objects named in
    let there : IsThere (map named objects) (Some (At object symbol)) = subst (IsThere (map named objects)) is (target-there (map named objects) own i (omega (arith, within, m))) in
    let same : file_at (map named objects) object ≡ memory.file_at objects object = ap (λ (l : List (List ℕ)). get_or l object []) (map-map (λ (o : Named). o.file) named objects) in
    (omega (arith, there.0, m), subst (λ f. symbol < length (symbols f)) same there.1)
