use Rattle.std.proofs.Common.{◌+◌, IsTrue, ⊎_elim, length, refl, sym, ap, ◌∙◌}
use Rattle.std.proofs.lemmas.List.{length_push}
use Rattle.std.proofs.lemmas.Result.{on_ok_weaker}
use Rattle.file_disk.specs.Buffered.{Leaves}
use Rattle.file_disk.specs.inside.FileDiskLaws.{read_of}
use Rattle.file_disk.specs.inside.Transfer.{StaysWithin}
use Rattle.file_disk.proofs.Disks.{Holds, holds_old, read_on, keeps_past, unchanged, covered}
use Rattle.file_disk.proofs.Followed.{timed_on, followed_on}
use Rattle.file_disk.proofs.disk.FileDiskDisk.read.Goals as goal

pub invariant_of-self : goal.invariant_of-self
invariant_of-self g c =
    let self = c.args.self.now in
    let b = c.read-reply.new.self in
    let fetched = c.read-reply.ensures in
    let holds : IsTrue g.F.SectorFile.is_honest → Holds b self.latest.items self.since.items =
    λ honest. read_on self.buffered b _ _ (holds_old self honest) honest fetched.sectors fetched.waits fetched.failed fetched.over (fetched.still honest) in
    let within : IsTrue g.F.SectorFile.is_honest → StaysWithin (Leaves self.buffered) (g.F.SectorFile.facts self.buffered.file) (g.F.SectorFile.facts b.file) =
    λ honest. (fetched.still honest).within in
    record {
      counted = ap length c.and-self-2.ensures ∙ length_push self.past.items self.since ∙ ap (λ n. n + 1) self.counted ∙ sym c.end_call.ensures.made;
      shown = λ honest. (holds honest).shown;
      waits = λ honest. (holds honest).waits;
      kept = λ honest. (holds honest).kept;
      covered = λ honest. (holds honest).covered;
      held = λ honest. (holds honest).held;
      noted = ap length c.and-self.ensures ∙ length_push self.files.items self.buffered ∙ ap (λ n. n + 1) self.noted ∙ sym c.end_call.ensures.made;
      timed = λ honest. timed_on self honest b c.and-self.result.items c.and-self-2.result.items self.since _ c.end_call.ensures.made c.and-self.ensures c.and-self-2.ensures (within honest);
      followed = λ honest. followed_on self honest b c.and-self.result.items c.and-self-2.result.items self.since _ c.end_call.ensures.made c.and-self.ensures c.and-self-2.ensures (within honest) (holds honest).covered;
    }

pub returns-clause-honest : goal.returns-clause-honest
returns-clause-honest g c honest =
    let self = c.args.self.now in
    let b = c.read-reply.new.self in
    let fetched = c.read-reply.ensures in
    let calls = c.end_call.new.self in
    let files = c.and-self.result in
    let past = c.and-self-2.result in
    let holds = read_on self.buffered b _ _ (holds_old self honest) honest fetched.sectors fetched.waits fetched.failed fetched.over (fetched.still honest) in
    record {
      past = keeps_past self b files calls self.latest self.since past fetched.sectors c.end_call.ensures.made c.and-self.ensures c.and-self-2.ensures;
      same = unchanged self b files calls self.latest self.since past fetched.sectors c.end_call.ensures.made c.and-self.ensures c.and-self-2.ensures refl refl;
      ok = on_ok_weaker c.read-reply.result (λ given. ⊎_elim
          (λ waits. self.waits honest c.args.at c.read-reply.new.into waits ∙ sym (read_of self c.args.at c.requires))
          (λ kept. holds.kept c.args.at c.read-reply.new.into kept ∙ sym (read_of self c.args.at c.requires))
          given) fetched.answer;
    }

pub returns-clause-any_moment : goal.returns-clause-any_moment
returns-clause-any_moment g c honest =
    let self = c.args.self.now in
    let b = c.read-reply.new.self in
    record {
      each =
          covered self b c.and-self.result c.end_call.new.self self.latest self.since c.and-self-2.result c.read-reply.ensures.sectors c.end_call.ensures.made c.and-self.ensures c.and-self-2.ensures
          honest (c.read-reply.ensures.still honest).within;
    }
