use Rattle.std.proofs.Common.{ap, sym, ◌∙◌, ◌≡◌, true, false}
use Rattle.elf_file.specs.Dynamic.{has_bad_dynamic}
use Rattle.elf_file.proofs.Accepted.{headers_accepted, segments_accepted, section_accepted}
use Rattle.elf_file.proofs.dynamic.Dynamic.of_accepted.Goals as goal

pub of_accepted-segments-requires-clause-headers : goal.of_accepted-segments-requires-clause-headers
of_accepted-segments-requires-clause-headers c = headers_accepted c.args.file.now c.requires

pub of_accepted-segments-requires-clause-segments : goal.of_accepted-segments-requires-clause-segments
of_accepted-segments-requires-clause-segments c = segments_accepted c.args.file.now c.requires

pub unreachable-requires : goal.unreachable-requires
unreachable-requires c =
    let bad : true ≡ false = sym c.in-None.ensures ∙ ap has_bad_dynamic c.of_accepted-segments.ensures ∙ section_accepted c.args.file.now c.requires in
    cc
