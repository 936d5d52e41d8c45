use Rattle.std.proofs.Common.{◌∙◌, ◌++◌, ◌∷◌, [], List, map, take, ap, arith, sym}
use Rattle.std.proofs.lemmas.List.{map_more, take_all}
use Rattle.scope.specs.Objects.{Named}
use Rattle.requests.specs.Binding.{object_of}
use Rattle.registry.proofs.bound.libraries_of.Goals as goal

pub returns : goal.returns
returns c = c.loop-file.invariant.objects ∙ ap (map object_of) (take_all c.loop-file.file-index c.args.files.now (omega (arith, c.loop-file-test.false)))

pub loop-file-preserved : goal.loop-file-preserved
loop-file-preserved c =
    let i = c.loop-file.file-index in
    let files = c.args.files.now in
    record {
      objects =
          c.push_reserved.ensures.items
          ∙ ap (λ (l : List Named). l ++ c.library.result ∷ []) c.loop-file.invariant.objects
          ∙ ap (λ (o : Named). map object_of (take i files) ++ o ∷ []) (c.library.ensures ∙ ap object_of c.file-item.is)
          ∙ sym (map_more object_of files i c.file-item.result c.loop-file-test.true);
      len = omega (arith, c.push_reserved.ensures.len, c.loop-file.invariant.len);
      room = omega (arith, c.push_reserved.ensures.capacity, c.loop-file.invariant.room);
    }
