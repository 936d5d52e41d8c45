use Rattle.std.proofs.Common.{rules, ◌≡◌, ◌∙◌, ap, length, ◌%◌}
use Rattle.sector_disk.specs.Disk.{sector}
use Rattle.sector_disk.specs.Memory.{memory_choices}
use Rattle.registry.specs.Rounds.{picked}
use Rattle.registry.proofs.rounds.stop_by.Goals as goal

pub returns : goal.returns
returns c = record {
  stop = c.stop.ensures.stopped;
  each = λ at lt.
      let choices = memory_choices c.args.disk at in
      let chosen = c.stop.ensures.picked at lt in
      let named : chosen.0 ≡ picked c.args.picks.now at = search rules in
      chosen.2 ∙ ap (λ number. sector choices (number % length choices)) named;
  choices = c.stop.ensures.choices;
}
