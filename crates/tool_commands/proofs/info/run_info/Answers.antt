use Rattle.std.proofs.Common.{◌≡◌, length, subst}
use Rattle.extents.specs.Layout.{unused_count}
use Rattle.extents.specs.Runs.{unused_runs}
use Rattle.states.specs.Cost.{free}
use Rattle.store.specs.Holds.{layout_in_use}
use Rattle.program_parts.specs.declared.status.Status.TheVariants.{Done}
use Rattle.tool_commands.specs.Info.{info_text}
use Rattle.tool_parts.specs.Streams.{Streams, TellsOnly}
use Rattle.tool_commands.proofs.info.run_info.Goals as goal

pub returns : goal.returns
returns g c = record {
  ends = λ s at.
      let store = c.args.contents.now in
      let info = c.info.result in
      let e = c.info.ensures in
      let is = e.state s at in
      let same : info_text info.sectors info.generation info.libraries info.preloads info.unused.sectors info.unused.free info.unused.runs info.unused.largest
      ≡ info_text (g.D.Disk.facts store.disk).sectors s.generation (length s.libraries) (length s.preloads) (unused_count (layout_in_use store))
      (free (g.D.Disk.facts store.disk).sectors s) (length (unused_runs (layout_in_use store))) info.unused.largest =
      λ i. info_text (is.sectors_are i) (is.generation i) (is.libraries i) (is.preloads i) (e.unused i) (is.free_are i) (e.runs i) info.unused.largest in
      let io : Streams = record {
        before = g.O.Write.contents c.args.output.now;
        after = g.O.Write.contents c.tell_info.new.output;
        errors_before = g.E.Write.contents c.args.errors.now;
        errors_after = g.E.Write.contents c.tell_info.new.errors;
      } in
      (info.unused.largest, record { exact = e.largest s at; form = e.form }, subst (λ t. TellsOnly Done t io c.tell_info.result) same c.tell_info.ensures);
  told = (c.info.result, c.tell_info.ensures);
}
