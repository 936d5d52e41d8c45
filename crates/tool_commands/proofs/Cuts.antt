-- Lemmas about how a dump ends.
use Rattle.std.proofs.Common.{◌≡◌, ◌<◌, ℕ, List, ◌++◌, length, Option, Some, None, get_or, ap, inl, inr}
use Rattle.std.specs.List.{flat_map}
use Rattle.sector_disk.specs.Disk.{DiskFacts}
use Rattle.states.specs.State.{Library, State}
use Rattle.store.specs.Stands.{no_library}
use Rattle.contents.specs.declared.finding.Finding.TheVariants.{Unreadable}
use Rattle.program_parts.specs.declared.status.Status.{Status}
use Rattle.tool_commands.specs.AnyDisk.{DumpTells, IsCut}
use Rattle.tool_commands.specs.Dump.{install_text}
use Rattle.tool_commands.specs.Ends.{DumpEnds, IsCutFor}
use Rattle.tool_parts.specs.Streams.{Streams, Says, Tells}
use Rattle.tool_commands.specs.declared.dump.Cut.{Cut}
use Rattle.tool_commands.specs.declared.form.Purpose.{Purpose}
use Rattle.tool_commands.specs.declared.sound.Lack.{Lack}
use Rattle.tool_commands.specs.declared.sound.Lack.TheVariants.{Found, OutOfMemory}
use Rattle.tool_commands.specs.inside.Lack.{IsGone, IsLack, IsLacking, SaysCut, dump_status, end_text, lack_line, lack_status, libraries_text}

module _ (old new : DiskFacts) (purpose : Purpose) (io : Streams) (status : Status) where
  lacked : (l : Library) (lack : Lack) → status ≡ lack_status lack → IsLack l lack → (lack ≡ Found Unreadable → old.failures < new.failures) → Says io (lack_line l lack)
      → IsCutFor old new l io status
  lacked l (Found finding) is h failed says = inl (finding, h.0, h.1, λ e. failed (ap Found e), is, says)
  lacked l OutOfMemory is h failed says = inr (is, says)

  -- if a script was written, whole or cut, the dump ends as `DumpEnds` defines
  pub ended : (s : State) (cut : Option Cut) → status ≡ dump_status cut → IsGone s cut → IsLacking old new cut → SaysCut s.libraries cut io.errors_before io.errors_after
      → Tells io (libraries_text s cut ++ end_text purpose s.preloads cut) → DumpEnds old new purpose s io status
  ended s None is gone lacks says put = inl (is, gone, put, says)
  ended s (Some cut) is gone lacks says put =
      inr (inl (cut.position, gone.0, lacked (get_or s.libraries cut.position no_library) cut.lack is gone.1 lacks.1 says, put))

  -- on any disk, a dump ends with a whole script, or with one that is cut for a reason for which `IsCut`
  -- holds
  some_cut : (l : Library) (lack : Lack) → status ≡ lack_status lack → IsLacking old new (Some (record { position = 0; lack = lack })) → Says io (lack_line l lack) → IsCut old new io status
  some_cut l (Found finding) is lacks says = inl (finding, l.name, length l.bytes, (λ e. lacks.0 (ap Found e)), (λ e. lacks.1 (ap Found e)), is, says)
  some_cut l OutOfMemory is lacks says = inr (is, says)

  pub told : (listed : List Library) (cut : Option Cut) → status ≡ dump_status cut → IsLacking old new cut → SaysCut listed cut io.errors_before io.errors_after
      → (libraries : List Library) (preloads : List (List ℕ)) → Tells io (flat_map install_text libraries ++ end_text purpose preloads cut) → DumpTells old new purpose io status
  told listed None is lacks says libraries preloads put = inl (libraries, preloads, is, put, says)
  told listed (Some cut) is lacks says libraries preloads put = inr (inl (libraries, some_cut (get_or listed cut.position no_library) cut.lack is lacks says, put))
