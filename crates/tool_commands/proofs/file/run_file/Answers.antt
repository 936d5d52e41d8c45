use Rattle.std.proofs.Common.{◌≡◌, ◌<◌, ℕ, List, Result, Err, inl, inr, refl, ap, subst}
use Rattle.std.specs.Prelude.{◌≢◌, All}
use Rattle.std.specs.Global.{Vec}
use Rattle.sector_disk.specs.Disk.{DiskFacts}
use Rattle.states.specs.State.{State}
use Rattle.contents.specs.declared.unread.Unread.{Unread}
use Rattle.contents.specs.declared.unread.Unread.TheVariants.{NotInstalled, Unreadable, OutOfMemory}
use Rattle.program_parts.specs.declared.status.Status.{Status}
use Rattle.program_parts.specs.declared.status.Status.TheVariants.{Done}
use Rattle.tool_commands.specs.AnyDisk.{FileTells}
use Rattle.tool_commands.specs.Ends.{FileEnds}
use Rattle.tool_parts.specs.Streams.{Streams, IsUntold, Says, TellsOnly}
use Rattle.tool_commands.specs.inside.Unread.{unread_line, unread_status}
use Rattle.tool_commands.proofs.file.run_file.Goals as goal

-- If the bytes can't be returned, the form `file` ends with the reason.
module _ (old new : DiskFacts) (io : Streams) (status : Status) (none : IsUntold io) where
  unread : (s : State) (name : List ℕ) (u : Unread) → status ≡ unread_status u → Says io (unread_line u)
      → (u ≡ NotInstalled → All (λ library. library.name ≢ name) s.libraries) → (u ≡ Unreadable → old.failures < new.failures) → FileEnds old new s name io status
  unread s name NotInstalled is says missing failed = inr (inl (missing refl, (is, none, says)))
  unread s name Unreadable is says missing failed = inr (inr (inl (failed refl, (is, none, says))))
  unread s name OutOfMemory is says missing failed = inr (inr (inr (is, none, says)))

  some_unread : (u : Unread) → status ≡ unread_status u → Says io (unread_line u) → (u ≡ Unreadable → old.failures < new.failures) → FileTells old new io status
  some_unread NotInstalled is says failed = inr (inl (is, none, says))
  some_unread Unreadable is says failed = inr (inr (inl (failed refl, (is, none, says))))
  some_unread OutOfMemory is says failed = inr (inr (inr (is, none, says)))

pub returns-in-Ok-clause-ends : goal.returns-in-Ok-clause-ends
returns-in-Ok-clause-ends g c s at =
    let io : Streams = record {
      before = g.O.Write.contents c.args.output.now;
      after = g.O.Write.contents c.write_bytes.new.output;
      errors_before = g.E.Write.contents c.args.errors.now;
      errors_after = g.E.Write.contents c.write_bytes.new.errors;
    } in
    inl (c.in-Ok.bytes.items, c.in-Ok.ensures.ok s at, subst (λ l. TellsOnly Done l io c.write_bytes.result) c.deref.ensures.value c.write_bytes.ensures)

pub returns-in-Err-clause-ends : goal.returns-in-Err-clause-ends
returns-in-Err-clause-ends g c s at =
    let io : Streams = record {
      before = g.O.Write.contents c.args.output.now;
      after = g.O.Write.contents c.args.output.now;
      errors_before = g.E.Write.contents c.args.errors.now;
      errors_after = g.E.Write.contents c.say_unread.new.errors;
    } in
    let old = g.D.Disk.facts c.args.contents.now.disk in
    let new = g.D.Disk.facts c.file.new.self.disk in
    let no : (u : Unread) → u ≡ NotInstalled → ◌≡◌ {A = Result (Vec ℕ) Unread} (Err u) (Err NotInstalled) = λ u h. ap (λ u. Err u) h in
    unread old new io c.say_unread.result refl s c.args.name.now c.in-Err.unread c.say_unread.ensures.status c.say_unread.ensures.said
    (λ h. (c.in-Err.ensures.not_installed s at).0 (no c.in-Err.unread h)) c.in-Err.ensures.device

pub returns-in-Ok-clause-told : goal.returns-in-Ok-clause-told
returns-in-Ok-clause-told g c = inl (_, c.write_bytes.ensures)

pub returns-in-Err-clause-told : goal.returns-in-Err-clause-told
returns-in-Err-clause-told g c =
    let io : Streams = record {
      before = g.O.Write.contents c.args.output.now;
      after = g.O.Write.contents c.args.output.now;
      errors_before = g.E.Write.contents c.args.errors.now;
      errors_after = g.E.Write.contents c.say_unread.new.errors;
    } in
    let old = g.D.Disk.facts c.args.contents.now.disk in
    let new = g.D.Disk.facts c.file.new.self.disk in
    some_unread old new io c.say_unread.result refl c.in-Err.unread c.say_unread.ensures.status c.say_unread.ensures.said c.in-Err.ensures.device
