use Rattle.std.proofs.Common.{◌≡◌, IsSome, None, ⊎_elim, sym, subst, ◌∙◌, arith}
use Rattle.std.proofs.lemmas.Bool.{cases_eq}
use Rattle.std.proofs.lemmas.Option.{none-some}
use Rattle.file_disk.specs.ReadAhead.{read_ahead_at}
use Rattle.file_disk.proofs.buffered.Buffered.write.Goals as goal

pub invariant_of-self : goal.invariant_of-self
invariant_of-self g c =
    let roomy = c.make_room.new.self in
    record {
      apart = λ k waits. ⊎_elim
          (λ is. subst (λ j. read_ahead_at c.forget.new.self j ≡ None) is c.forget.ensures.here)
          (λ other.
          let before = subst IsSome (c.put.ensures.others k (λ is. other (sym is))) waits in
          ⊎_elim (λ same. same ∙ roomy.apart k before) (λ none. none) (c.forget.ensures.others k))
          (cases_eq c.args.at k);
      few = roomy.few;
      inside = c.put.ensures.end roomy.sectors (omega (arith, c.requires, c.make_room.ensures.sectors)) roomy.inside;
      size = roomy.size;
      trusted = roomy.trusted;
      kept = λ honest well k content is. ⊎_elim
          (λ same. roomy.kept honest well k content (sym same ∙ is))
          (λ none. absurd (none-some content (sym none ∙ is)))
          (c.forget.ensures.others k);
    }

pub returns-clause-here : goal.returns-clause-here
returns-clause-here g c = c.put.ensures.here
