use Rattle.std.proofs.Common.{◌+◌, take, drop, slice_index, codes, sym, ap, ◌∙◌, subst, if◌then◌else◌}
use Rattle.std.specs.List.{flat_map}
use Rattle.std.specs.Io.KnownBytes.{Appends, append_known}
use Rattle.std.proofs.KnownBytes.{Appends-trans}
use Rattle.text_output.specs.Sends.{Buffered, HasRoom, with_text}
use Rattle.text_output.specs.Name.{name_byte_text}
use Rattle.text_output.proofs.Room.{room-next, with-two, cut-at, one-more, not-both}
use Rattle.text_output.proofs.buffer.OutputBuffer.put_name.Goals as goal

pub loop-byte-preserved : goal.loop-byte-preserved
loop-byte-preserved g c =
    let name = c.args.name.now in
    let i = c.loop-byte.byte-index in
    let front = flat_map name_byte_text (take i name) in
    let next = name_byte_text (slice_index name i) in
    let rest = flat_map name_byte_text (drop (i + 1) name) in
    let start = append_known (g.W.Write.contents c.args.out.now) c.args.self.now.waiting in
    let before = append_known (g.W.Write.contents c.loop-byte.out) c.loop-byte.self.waiting in
    let after = append_known (g.W.Write.contents c.put_name_byte.new.out) c.put_name_byte.new.self.waiting in
    let more = one-more name_byte_text name i 0 c.loop-byte-test.true in
    record {
      sends = subst (Appends start after) (sym more) (Appends-trans start before after front next c.loop-byte.invariant.sends c.in_ok-put_name_byte.ensures.ok);
      fits = λ room.
          let was = c.loop-byte.invariant.fits room in
          let here = room-next g.row.SIZE c.args.self.now (flat_map name_byte_text name) front next rest (cut-at name_byte_text name i 0 c.loop-byte-test.true) room in
          let put = c.put_name_byte.ensures.fits (subst (λ (b : Buffered). HasRoom g.row.SIZE b next) (sym was.1) here) in
          (put.1 ∙ was.0, put.2 ∙ ap (λ (b : Buffered). with_text b next) was.1 ∙ with-two c.args.self.now front next ∙ ap (with_text c.args.self.now) (sym more));
    }

pub returns-then-is_empty : goal.returns-then-is_empty
returns-then-is_empty g c = rw (← c.if-is_empty.ensures) c.put_piece.ensures

pub returns-in_err-put_name_byte-clause-fits : goal.returns-in_err-put_name_byte-clause-fits
returns-in_err-put_name_byte-clause-fits g c = λ room.
    let name = c.args.name.now in
    let i = c.loop-byte.byte-index in
    let front = flat_map name_byte_text (take i name) in
    let next = name_byte_text (slice_index name i) in
    let rest = flat_map name_byte_text (drop (i + 1) name) in
    let whole = subst (λ b. HasRoom g.row.SIZE c.args.self.now (if b then codes "\\e" else flat_map name_byte_text name)) (sym c.if-is_empty.ensures) room in
    let was = c.loop-byte.invariant.fits whole in
    let here = room-next g.row.SIZE c.args.self.now (flat_map name_byte_text name) front next rest (cut-at name_byte_text name i 0 c.loop-byte-test.true) whole in
    let put = c.put_name_byte.ensures.fits (subst (λ (b : Buffered). HasRoom g.row.SIZE b next) (sym was.1) here) in
    absurd (not-both c.put_name_byte.result _ _ put.0 c.in_err-put_name_byte.was)
