use Rattle.std.proofs.Common.{◌≡◌, ◌++◌, length, take}
use Rattle.std.specs.List.{flat_map}
use Rattle.executable.specs.File.{file_header, header_bytes}
use Rattle.executable.proofs.front.front_of.Given as goal

abbrev pub invariant-loop-header : goal.invariant-loop-header
invariant-loop-header l = l.bytes.items ≡ file_header l.entry (length l.table) ++ flat_map header_bytes (take l.header-index l.table)
