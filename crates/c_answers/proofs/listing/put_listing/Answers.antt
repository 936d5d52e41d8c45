use Rattle.std.proofs.Common.{inl, inr, ⊎_elim, length, ap, refl, arith}
use Rattle.requests.specs.Table.{Listed}
use Rattle.c_answers.specs.declared.answer.Answer.{Answer}
use Rattle.c_answers.proofs.Given.{nothing_said}
use Rattle.c_answers.proofs.listing.put_listing.Goals as goal

pub returns-in-Some : goal.returns-in-Some
returns-in-Some c =
    let put = c.in-Some.ensures in
    let said = nothing_said c.of.result 0 c.of.ensures in (
      record { text = said.1.text; file = said.1.file },
      record { objects = said.0.unbound.objects },
      record {
        libraries = omega (arith, c.len.ensures, ap (λ (l : Listed). length l.libraries) c.listing.view_is);
        preloads = omega (arith, c.len-2.ensures, ap (λ (l : Listed). length l.preloads) c.listing.view_is);
      },
      inl (ap (λ (a : Answer). a.status) c.of.ensures, record { places = put.entries; size = put.end; names = put.names }),
    )

pub returns-in-None : goal.returns-in-None
returns-in-None c =
    let said = nothing_said c.of.result 0 c.of.ensures in (
      record { text = said.1.text; file = said.1.file },
      record { objects = said.0.unbound.objects },
      record {
        libraries = omega (arith, c.len.ensures, ap (λ (l : Listed). length l.libraries) c.listing.view_is);
        preloads = omega (arith, c.len-2.ensures, ap (λ (l : Listed). length l.preloads) c.listing.view_is);
      },
      inr (refl, record { small = ⊎_elim (λ h. inl (omega (arith, h))) (λ h. inr (omega (arith, h))) c.in-None.ensures.small; size = c.names_bytes.ensures }),
    )
