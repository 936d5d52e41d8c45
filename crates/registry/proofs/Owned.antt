-- The files that a bind has read, as the objects that are bound.
use Rattle.std.proofs.Common.{◌≡◌, ℕ, ◌+◌, ◌<◌, List, [], length, map, get_or, None, Result, IfErr, inl, inr, ⊎_elim, sym, ap, ◌∙◌, subst, arith, suc}
use Rattle.std.specs.Prelude.{OnOk}
use Rattle.std.proofs.lemmas.List.{length-map, get_or-map}
use Rattle.std.proofs.lemmas.Result.{IfErr-weaker}
use Rattle.std.proofs.lemmas.Simd.{map-map}
use Rattle.scope.specs.LoadOrder.{available}
use Rattle.scope.specs.Objects.{Named}
use Rattle.scope.specs.Objects as order
use Rattle.image.specs.Bound.{AreBound, Bound, IsBound}
use Rattle.image.specs.Placement.{Placed, Stacked}
use Rattle.image.specs.Refusal.{placed_refusal, IsFirstOrWantsMemory, IsPlacedAnswer}
use Rattle.image.specs.Relocating.{file_at}
use Rattle.image.specs.declared.refusal.BindRefusal.{BindRefusal}
use Rattle.image.proofs.Bases.{file-placed, length-placed}
use Rattle.requests.specs.Binding.{object_of}
use Rattle.states.specs.State.{Library}
use Rattle.registry.specs.inside.Walked.{IsTestedBy, walked_objects}

-- if placing objects is refused, the refusal is that of the first test that applies, or S11
pub tested_as : {A : Type 0} (objects : List Placed) (answer : Result A BindRefusal) → OnOk answer (placed_refusal objects ≡ None) → IfErr answer (IsPlacedAnswer objects)
    → IsTestedBy (placed_refusal objects) answer
tested_as objects answer accepted refused = record {
  accepted = accepted;
  refused = IfErr-weaker answer (IsPlacedAnswer objects) (IsFirstOrWantsMemory (placed_refusal objects)) (λ e h. ⊎_elim (λ is. inl is) (λ lacks. inr lacks.0) h) refused;
}

-- the number of objects is the number of files plus one
pub count-walked : (program : List ℕ) (base : ℕ) (files : List Library) → length (walked_objects program base files) ≡ length files + 1
count-walked program base files =
    omega (arith, length-placed base (available program (map object_of files)), length-map files object_of)

-- file number k is the file of object number k + 1
pub file-walked : (program : List ℕ) (base : ℕ) (files : List Library) (k : ℕ) (f : Library) → k < length files → f ≡ get_or files k f
    → f.bytes ≡ file_at (walked_objects program base files) (k + 1)
file-walked program base files k f within is =
    let os = available program (map object_of files) in
    let next : k + 1 ≡ suc k = omega arith in
    sym (file-placed base os (k + 1) ∙ ap (order.file_at os) next
    ∙ ap (λ (l : List (List ℕ)). get_or l k []) (map-map (λ (o : Named). o.file) object_of files)
    ∙ get_or-map (λ (l : Library). l.bytes) files k f [] within ∙ ap (λ (l : Library). l.bytes) (sym is))

-- `f` is the next file after the files `done`
abbrev pub IsTurn : List Library → List Library → Library → Type 0
IsTurn files done f = (length done < length files) × (f ≡ get_or files (length done) f)

-- `b` is the bound object at `place`, and `file` is its file
pub record IsNext (objects : List Placed) (place : ℕ) (b : Bound) (file : List ℕ) : Type 0 where
  pub inside : place < length objects
  pub stacked : Stacked 0 objects
  pub bound : IsBound objects place b
  pub same : file ≡ file_at objects place

module _ (program : List ℕ) (base : ℕ) (files : List Library) (all : List Bound) (are : AreBound (walked_objects program base files) all) where
  -- the first bound object is the program
  pub next-program : (bound : Bound) (file : List ℕ) → bound ≡ get_or all 0 bound → file ≡ program → IsNext (walked_objects program base files) 0 bound file
  next-program bound file is same = record {
    inside = omega (arith, count-walked program base files);
    stacked = are.stacked;
    bound = subst (IsBound (walked_objects program base files) 0) (sym is) (are.each 0 bound (omega (arith, are.counted, count-walked program base files)));
    same = same;
  }

  -- The bound object after the files `done` is that of the next file.
  module _ (done : List Library) (f : Library) (turn : IsTurn files done f) (place : ℕ) (at : place ≡ length done + 1) where
    pub next-among : place < length all
    next-among = omega (arith, turn.0, are.counted, count-walked program base files)

    pub next-file : (bound : Bound) (file : List ℕ) → bound ≡ get_or all place bound → file ≡ f.bytes → IsNext (walked_objects program base files) place bound file
    next-file bound file is same = record {
      inside = omega (arith, next-among, are.counted);
      stacked = are.stacked;
      bound = subst (IsBound (walked_objects program base files) place) (sym is) (are.each place bound next-among);
      same = same ∙ file-walked program base files (length done) f turn.0 turn.1 ∙ ap (file_at (walked_objects program base files)) (sym at);
    }
