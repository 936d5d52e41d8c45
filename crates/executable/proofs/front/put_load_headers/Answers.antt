use Rattle.std.proofs.Common.{◌≡◌, ℕ, ◌+◌, ◌<◌, ◌≤◌, ◌++◌, [], ◌∷◌, List, length, drop, get_or, sym, ap, ◌∙◌, arith, add-one, append_assoc}
use Rattle.std.proofs.Math.Seq.{drop-cons}
use Rattle.elf_file.specs.declared.segment.ProgramHeader.{ProgramHeader}
use Rattle.image.specs.Constant.{MEMORY_LIMIT}
use Rattle.image.specs.Loading.{Loaded}
use Rattle.executable.specs.File.{piece_bytes, load_header, load_headers}
use Rattle.executable.proofs.Lengths.{short-piece}
use Rattle.executable.proofs.front.put_load_headers.Goals as goal

pub overflow_add-offset : goal.overflow_add-offset
overflow_add-offset c =
    let p = c.piece-item.result in
    let small : length p.contents ≤ MEMORY_LIMIT = rw c.piece-item.is (c.requires.contents c.loop-piece.piece-index p (omega arith)) in
    omega (arith, c.piece_size-offset.ensures, short-piece p small, c.loop-piece.invariant.bound)

step : (table new start : List ProgramHeader) (pieces : List Loaded) (i offset next : ℕ) (p : Loaded) (h : ProgramHeader)
    → i < length pieces → p ≡ get_or pieces i p → h ≡ load_header offset p → next ≡ offset + length (piece_bytes p) → new ≡ table ++ h ∷ []
    → table ++ load_headers offset (drop i pieces) ≡ start → new ++ load_headers next (drop (i + 1) pieces) ≡ start
step table new start pieces i offset next p h within at is more pushed e =
    let cut : drop i pieces ≡ p ∷ drop (i + 1) pieces =
    drop-cons pieces i p within ∙ ap (λ (k : ℕ). get_or pieces i p ∷ drop k pieces) (sym (add-one i))
    ∙ ap (λ (x : Loaded). x ∷ drop (i + 1) pieces) (sym at) in
    ap (λ (t : List ProgramHeader). t ++ load_headers next (drop (i + 1) pieces)) (pushed ∙ ap (λ (x : ProgramHeader). table ++ x ∷ []) is)
    ∙ append_assoc table (load_header offset p ∷ []) (load_headers next (drop (i + 1) pieces))
    ∙ ap (λ (n : ℕ). table ++ (load_header offset p ∷ load_headers n (drop (i + 1) pieces))) more
    ∙ ap (λ (ps : List Loaded). table ++ load_headers offset ps) (sym cut)
    ∙ e

pub loop-piece-preserved : goal.loop-piece-preserved
loop-piece-preserved c =
    let p = c.piece-item.result in
    let small : length p.contents ≤ MEMORY_LIMIT = rw c.piece-item.is (c.requires.contents c.loop-piece.piece-index p (omega arith)) in
    record {
      rest = step c.loop-piece.table.items c.push_reserved.new.self.items (c.args.table.now.items ++ load_headers c.args.offset c.args.pieces.now) c.args.pieces.now
          c.loop-piece.piece-index c.loop-piece.offset (c.loop-piece.offset + c.piece_size-offset.result) p c.load_header.result
          (omega arith) c.piece-item.is c.load_header.ensures (ap (λ (n : ℕ). c.loop-piece.offset + n) c.piece_size-offset.ensures) c.push_reserved.ensures.items c.loop-piece.invariant.rest;
      len = omega (arith, c.push_reserved.ensures.len, c.loop-piece.invariant.len);
      capacity = c.push_reserved.ensures.capacity ∙ c.loop-piece.invariant.capacity;
      bound = omega (arith, c.piece_size-offset.ensures, short-piece p small, c.loop-piece.invariant.bound);
    }
