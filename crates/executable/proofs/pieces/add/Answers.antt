use Rattle.std.proofs.Common.{◌≡◌, ◌<◌, ◌==◌, Bool, false, cond, List, ◌∷◌, ◌++◌, length, map, Option, Some, sym, ap, ◌∙◌, arith, append_assoc}
use Rattle.std.specs.Prelude.{IfOk, OnOk, Ok, Err, Result}
use Rattle.std.proofs.lemmas.Bool.Decides.{nat_tests}
use Rattle.std.proofs.lemmas.List.{map-append}
use Rattle.image.specs.Image.{ImageSegment}
use Rattle.image.specs.Loading.{Loaded}
use Rattle.executable.specs.Piece.{piece_of, finished, followed, pieces_from}
use Rattle.executable.specs.inside.Joining.{pieces_after}
use Rattle.executable.proofs.pieces.add.Goals as goal

-- the pieces of piece p and a segment with bytes are those made of both, continued with the last of them
goes-on : (p : Loaded) (s : ImageSegment) (rest : List ImageSegment) → 0 < length s.bytes
    → pieces_from p (s ∷ rest) ≡ (followed p (piece_of s)).done ++ pieces_from (followed p (piece_of s)).last rest
goes-on p s rest some =
    let e : (length s.bytes == 0) ≡ false = grind (arith, nat_tests) in
    ap (λ (t : Bool). cond t (pieces_from p rest) ((followed p (piece_of s)).done ++ pieces_from (followed p (piece_of s)).last rest)) e

-- the finished pieces, followed by the pieces that the last one continues with, are all pieces
all-pieces : {E : Type 0} (r : Result Loaded E) (old new : List Loaded) (p n : Loaded) (last : Option Loaded) (s : ImageSegment)
    → n ≡ piece_of s → last ≡ Some p → 0 < length s.bytes
    → OnOk r (new ≡ old ++ map finished (followed p n).done) → IfOk r (λ q. q ≡ (followed p n).last)
    → IfOk r (λ q. (rest : List ImageSegment) → new ++ map finished (pieces_from q rest) ≡ old ++ map finished (pieces_after last (s ∷ rest)))
all-pieces (Ok q) old new p n last s e l some d i = λ rest.
    let done : List Loaded = (followed p n).done in
    let next : Loaded = (followed p n).last in
    ap (λ (xs : List Loaded). xs ++ map finished (pieces_from q rest)) d
    ∙ ap (λ (x : Loaded). (old ++ map finished done) ++ map finished (pieces_from x rest)) i
    ∙ append_assoc old (map finished done) (map finished (pieces_from next rest))
    ∙ ap (λ (xs : List Loaded). old ++ xs) (sym (map-append finished done (pieces_from next rest)))
    ∙ ap (λ (m : Loaded). old ++ map finished ((followed p m).done ++ pieces_from (followed p m).last rest)) e
    ∙ ap (λ (xs : List Loaded). old ++ map finished xs) (sym (goes-on p s rest some))
    ∙ ap (λ (o : Option Loaded). old ++ map finished (pieces_after o (s ∷ rest))) (sym l)
all-pieces (Err x) old new p n last s e l some d i = tt

pub returns-in-Some-clause-pieces : goal.returns-in-Some-clause-pieces
returns-in-Some-clause-pieces c =
    all-pieces c.put.result c.args.done.now.items c.put.new.done.items c.in-Some.piece c.in_ok-next.next c.args.last c.args.segment.now
    c.in_ok-next.ensures c.in-Some.is c.requires.some c.put.ensures.done c.put.ensures.last
