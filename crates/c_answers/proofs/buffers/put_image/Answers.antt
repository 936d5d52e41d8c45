use Rattle.std.proofs.Common.{inl, inr, ⊎_elim, length, ap, refl, arith, length-append}
use Rattle.c_answers.specs.Buffers.{segment_bytes}
use Rattle.c_answers.specs.Objects.{object_names}
use Rattle.c_answers.specs.declared.answer.Answer.{Answer}
use Rattle.c_answers.proofs.Given.{nothing_said}
use Rattle.c_answers.proofs.buffers.put_image.Goals as goal

pub returns-in-Some : goal.returns-in-Some
returns-in-Some c =
    let put = c.in-Some.ensures in
    let said = nothing_said c.of.result 0 c.of.ensures in (
      inl (ap (λ (a : Answer). a.status) c.of.ensures, record { object_places = put.objects; segment_places = put.segments; size = put.end; bytes = put.bytes }),
      record { objects = ap length c.objects.ensures.objects; segments = ap length c.segments.ensures.segments },
      record { preloads = said.0.unlisted.preloads; generation = said.0.unlisted.generation },
      record { text = said.1.text; file = said.1.file },
    )

pub returns-in-None : goal.returns-in-None
returns-in-None c =
    let image = c.args.image.now in
    let said = nothing_said c.of.result 0 c.of.ensures in (
      inr (
        refl,
        record {
          small = ⊎_elim (λ h. inl (omega (arith, h)))
              (⊎_elim (λ h. inr (inl (omega (arith, h)))) (λ h. inr (inr (omega (arith, h))))) c.in-None.ensures.small;
          size = omega (arith, c.saturating_add.ensures, c.segments_bytes.ensures, c.objects_bytes.ensures, length-append (segment_bytes image.segments) (object_names image.objects));
        },
      ),
      record { objects = ap length c.objects.ensures.objects; segments = ap length c.segments.ensures.segments },
      record { preloads = said.0.unlisted.preloads; generation = said.0.unlisted.generation },
      record { text = said.1.text; file = said.1.file },
    )
