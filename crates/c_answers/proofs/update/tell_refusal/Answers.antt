use Rattle.std.proofs.Common.{refl}
use Rattle.c_answers.proofs.update.tell_refusal.Goals as goal

pub returns : goal.returns
returns c =
    let unsaid = c.tell.ensures.1 in
    record {
      why = c.tell.ensures.0;
      count = refl;
      bytes = unsaid.bytes;
      unlisted = record { preloads = unsaid.unlisted.preloads; generation = unsaid.unlisted.generation };
      unbound = record { objects = unsaid.unbound.objects };
    }
