use Rattle.std.proofs.Common.{◌≡◌}
use Rattle.std.specs.Prelude.{is_none}
use Rattle.std.specs.List.{flat_map, list_all, range_with_len}
use Rattle.std.specs.Io.KnownBytes.{Appends, append_known}
use Rattle.image.specs.Refusal.{undefined_in}
use Rattle.bindings.specs.Bindings.{object_text}
use Rattle.bindings.proofs.bindings.Bindings.write_text.Given as goal

abbrev pub invariant-loop-own : goal.invariant-loop-own
invariant-loop-own g l = record {
  text : Appends (g.W.Write.contents l.fn.out) (append_known (g.W.Write.contents l.out) l.buffer.waiting)
      (flat_map (object_text l.self) (range_with_len 0 l.own));
  bound : l.bound ≡ list_all (λ k. is_none (undefined_in l.self k)) (range_with_len 0 l.own);
}
