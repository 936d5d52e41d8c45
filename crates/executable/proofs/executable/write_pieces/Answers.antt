use Rattle.std.proofs.Common.{◌≡◌, ℕ, ◌+◌, ◌<◌, ◌++◌, [], ◌∷◌, List, length, take, get_or, replicate, subst, sym, ap, ◌∙◌, arith, add-one}
use Rattle.std.specs.Prelude.{◌%◌}
use Rattle.std.specs.List.{flat_map}
use Rattle.std.specs.Io.KnownBytes.{Appends}
use Rattle.std.proofs.KnownBytes.{Appends-trans}
use Rattle.std.proofs.Math.Seq.{take-suc}
use Rattle.std.proofs.lemmas.List.{flat_map_more}
use Rattle.image.specs.Constant.{PAGE}
use Rattle.image.specs.Loading.{Loaded}
use Rattle.executable.specs.File.{padded, piece_bytes}
use Rattle.executable.proofs.executable.write_pieces.Goals as goal

more : (pieces : List Loaded) (i : ℕ) (p : Loaded) → i < length pieces → p ≡ get_or pieces i p
    → flat_map piece_bytes (take i pieces) ++ piece_bytes p ≡ flat_map piece_bytes (take (i + 1) pieces)
more pieces i p within at =
    flat_map_more piece_bytes [] (take i pieces) p
    ∙ ap (λ (x : Loaded). flat_map piece_bytes (take i pieces ++ x ∷ [])) at
    ∙ ap (λ (ps : List Loaded). flat_map piece_bytes ps) (sym (take-suc pieces i p within) ∙ ap (λ (k : ℕ). take k pieces) (sym (add-one i)))

bytes-of : (p : Loaded) (address : ℕ) (contents : List ℕ) → address ≡ p.heading.address → contents ≡ p.contents
    → padded (replicate (address % PAGE) 0 ++ contents) ≡ piece_bytes p
unfolding piece_bytes
bytes-of p address contents e f = ap (λ (a : ℕ). padded (replicate (a % PAGE) 0 ++ contents)) e ∙ ap (λ (c : List ℕ). padded (replicate (p.heading.address % PAGE) 0 ++ c)) f

pub loop-piece-preserved : goal.loop-piece-preserved
loop-piece-preserved g c =
    let p = c.piece-item.result in
    let is = bytes-of p c.address.result c.contents.result.now c.address.ensures c.contents.ensures in
    let e = ap (λ (xs : List ℕ). flat_map piece_bytes (take c.loop-piece.piece-index c.args.pieces.now) ++ xs) is ∙ more c.args.pieces.now c.loop-piece.piece-index p (omega arith) c.piece-item.is in
    subst (λ (xs : List ℕ). Appends (g.W.Write.contents c.args.out.now) (g.W.Write.contents c.write_padded.new.out) xs) e
    (Appends-trans (g.W.Write.contents c.args.out.now) (g.W.Write.contents c.loop-piece.out) (g.W.Write.contents c.write_padded.new.out) _ _ c.loop-piece.invariant c.in_ok-write_padded.ensures)
