use Rattle.std.proofs.Common.{◌≡◌, true, inl, inr, refl, sym, subst}
use Rattle.image.specs.Placement.{is_good_base, place}
use Rattle.scope.specs.Objects.{file_at}
use Rattle.tool_commands.specs.Bindings.{PlacedTells}
use Rattle.tool_parts.specs.Streams.{Streams}
use Rattle.tool_commands.proofs.symbols.tell_whole.Goals as goal

pub tell_placed-requires : goal.tell_placed-requires
tell_placed-requires g c = subst (λ o. is_good_base (file_at o 0) c.args.base ≡ true) (sym c.in-Ok.ensures) c.requires

pub returns-in-Ok : goal.returns-in-Ok
returns-in-Ok g c =
    let io : Streams = record {
      before = g.O.Write.contents c.args.output.now;
      after = g.O.Write.contents c.tell_placed.new.output;
      errors_before = g.E.Write.contents c.args.errors.now;
      errors_after = g.E.Write.contents c.tell_placed.new.errors;
    } in
    inl (subst (λ o. PlacedTells (place c.args.base o) io c.tell_placed.result) c.in-Ok.ensures c.tell_placed.ensures)

pub returns-in-Err : goal.returns-in-Err
returns-in-Err g c = inr (c.say_refusal.ensures.status, refl, c.say_refusal.ensures.said)
