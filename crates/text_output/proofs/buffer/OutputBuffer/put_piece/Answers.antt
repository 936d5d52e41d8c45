use Rattle.std.proofs.Common.{ℕ, List, ◌++◌, Option, Some, None, sym, ap, append_assoc}
use Rattle.std.specs.Io.KnownBytes.{Appends, append_known}
use Rattle.text_output.proofs.buffer.OutputBuffer.put_piece.Goals as goal
use Rattle.text_output.proofs.buffer.OutputBuffer.put_piece.Goals.{then-room-text+in_ok-send, else-room-text}

-- if the waiting bytes were sent and then a text waits, the writer's bytes with it have grown by the
-- text
sent-then : (a b : Option (List ℕ)) (waiting text : List ℕ) → Appends a b waiting → Appends (append_known a waiting) (append_known b text) text
sent-then None b waiting text p = tt
sent-then (Some x) None waiting text p = absurd p
sent-then (Some x) (Some y) waiting text p = ap (λ l. l ++ text) p

-- if a text was added to the waiting bytes, the writer's bytes with them have grown by the text
waits-then : (a : Option (List ℕ)) (waiting text : List ℕ) → Appends (append_known a waiting) (append_known a (waiting ++ text)) text
waits-then None waiting text = tt
waits-then (Some x) waiting text = sym (append_assoc x waiting text)

pub returns-clause-ok : goal.returns-clause-ok
returns-clause-ok g c =
    elim c.if-room-text.branch [
      | then-room-text+in_ok-send w ↦
          rw (c.append.ensures.waiting, w.self-is, w.in_ok-send.ensures.sent, w.out-is)
          (sent-then (g.W.Write.contents c.args.out.now) (g.W.Write.contents w.send.new.out) c.args.self.now.waiting c.args.text.now w.in_ok-send.ensures.ok)
      | else-room-text w ↦
          rw (c.append.ensures.waiting, w.self-is, w.out-is) (waits-then (g.W.Write.contents c.args.out.now) c.args.self.now.waiting c.args.text.now)
    ]
