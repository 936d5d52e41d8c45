use Rattle.std.proofs.Common.{◌≡◌, length, take, None}
use Rattle.std.specs.List.{find, filter_map}
use Rattle.elf_dynamic.specs.Strings.{needed}
use Rattle.scope.specs.LoadOrder.{place_of}
use Rattle.scope.specs.inside.Growing.{grown}
use Rattle.scope.proofs.Missing.{is_absent}
use Rattle.scope.proofs.needs.add_needed.Given as goal

abbrev pub invariant-loop-name : goal.invariant-loop-name
invariant-loop-name l = record {
  places : l.places ≡ record {
    limit = l.fn.places.limit;
    places = grown l.fn.places.places (filter_map (place_of l.installed) (take (length l.yielded) (needed l.object.file)));
  };
  clear : find (is_absent l.installed) (take (length l.yielded) (needed l.object.file)) ≡ None;
}
