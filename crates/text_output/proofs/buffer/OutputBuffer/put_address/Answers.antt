use Rattle.std.proofs.Common.{◌≡◌, ℕ, List, length, ap, ◌∙◌, subst, arith, rules, Result, Ok, Err}
use Rattle.std.specs.Result.{IsOk, OnOk}
use Rattle.hex.specs.Hex.{encode_lower}
use Rattle.text_output.specs.Hexadecimal.{address_text}
use Rattle.text_output.specs.Sends.{Sends, HasRoom, with_text}
use Rattle.text_output.proofs.buffer.OutputBuffer.put_address.Goals as goal

-- if a result is a success, the fact that follows from a success is true
told : {T E : Type 0} (r : Result T E) {P : Type 0} → IsOk r → OnOk r P → P
told (Ok t) k p = p
told (Err e) k p = search rules

pub returns : goal.returns
returns g c =
    let put = c.put_piece in
    let good : IsOk c.encode_to_slice.result = c.encode_to_slice.ensures.fits.1 (omega (arith, ap length c.to_be_bytes.ensures)) in
    let text : c.encode_to_slice.new.output ≡ address_text c.args.address =
    told c.encode_to_slice.result good c.encode_to_slice.ensures.written ∙ ap encode_lower c.to_be_bytes.ensures in
    record {
      ok = subst (λ (t : List ℕ). OnOk put.result (Sends (g.W.Write.contents c.args.out.now) c.args.self.now (g.W.Write.contents put.new.out) put.new.self t)) text put.ensures.ok;
      err = put.ensures.err;
      fits = subst (λ (t : List ℕ). HasRoom g.row.SIZE c.args.self.now t → (put.result ≡ Ok tt) × (put.new.out ≡ c.args.out.now) × (put.new.self ≡ with_text c.args.self.now t))
          text put.ensures.fits;
    }
