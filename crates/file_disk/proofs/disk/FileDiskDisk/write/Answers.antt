use Rattle.std.proofs.Common.{◌≡◌, ◌∷◌, ◌++◌, ◌+◌, [], inl, refl, true, false, is_ok, IsTrue, length, sym, subst, ap, ◌∙◌}
use Rattle.std.proofs.lemmas.List.{length_push}
use Rattle.std.proofs.lemmas.List.Elements.{Contains-push}
use Rattle.std.specs.List.{Contains}
use Rattle.sector_disk.specs.Disk.{GrowsBy, IsWrite}
use Rattle.file_disk.specs.Buffered.{Leaves}
use Rattle.file_disk.specs.FileDisk.{file_facts}
use Rattle.file_disk.specs.inside.Transfer.{StaysWithin}
use Rattle.file_disk.proofs.Disks.{Holds, facts_of, holds_old, holds_from, holds_failed, keeps_past, unchanged, covered, grows, now_set}
use Rattle.file_disk.proofs.Followed.{timed_on, followed_on}
use Rattle.file_disk.proofs.Replies.{ok_of, at_ok, at_err, either_of, not_err, not_ok, ok_is, err_is, not_so, err_of}
use Rattle.file_disk.proofs.disk.FileDiskDisk.write.Goals as goal
use Rattle.file_disk.proofs.disk.FileDiskDisk.write.Goals.{then-is_ok, else-is_ok}

pub invariant_of-self : goal.invariant_of-self
invariant_of-self g c =
    let self = c.args.self.now in
    let reply = c.write-reply.result in
    let b = c.write-reply.new.self in
    let written = c.write-reply.ensures in
    let holds : IsTrue g.F.SectorFile.is_honest → Holds c.if-is_ok.self.1.0 c.if-is_ok.self.1.1.0.items c.if-is_ok.self.1.1.1.0.items =
    λ honest. elim c.if-is_ok.branch [
      | then-is_ok w ↦
          let ok : is_ok reply ≡ true = sym c.is_ok.ensures.value ∙ w.if-is_ok.true in
          let latest_is = w.and-self-then-is_ok.ensures ∙ ap (λ moments. moments ++ b ∷ []) w.new.ensures in
          subst (λ s. Holds s.1.0 s.1.1.0.items s.1.1.1.0.items) (sym w.self-is)
          (holds_from b _ _ honest (written.failed ∙ ok_is reply ok) (g.met.F.SectorFile.holds_now b.file honest) latest_is
          (subst (λ moments. Contains moments b) (sym w.and-self-then-is_ok-2.ensures) (Contains-push self.since.items b)))
      | else-is_ok w ↦
          let err : is_ok reply ≡ false = sym c.is_ok.ensures.value ∙ w.if-is_ok.false in
          subst (λ s. Holds s.1.0 s.1.1.0.items s.1.1.1.0.items) (sym w.self-is)
          (holds_failed self.buffered b _ _ (holds_old self honest) written.sectors (at_err reply err written.same) (at_err reply err (written.err honest)).within
          (written.failed ∙ err_is reply err) (at_err reply err written.kept_err))
    ] in
    let facts = g.F.SectorFile.facts in
    let b_is : c.if-is_ok.self.1.0 ≡ b = elim c.if-is_ok.branch [ then-is_ok w ↦ ap (λ s. s.1.0) w.self-is | else-is_ok w ↦ ap (λ s. s.1.0) w.self-is ] in
    let within : IsTrue g.F.SectorFile.is_honest → StaysWithin (Leaves self.buffered) (facts self.buffered.file) (facts c.if-is_ok.self.1.0.file) =
    λ honest. subst (λ b. StaysWithin (Leaves self.buffered) (facts self.buffered.file) (facts b.file)) (sym b_is)
    (either_of c.write-reply.result (λ put. put.within) (λ refused. refused.within) (written.ok honest) (written.err honest)) in
    record {
      counted = ap length c.and-self-2.ensures ∙ length_push self.past.items self.since ∙ ap (λ n. n + 1) self.counted ∙ sym c.end_call.ensures.made;
      shown = λ honest. (holds honest).shown;
      waits = λ honest. (holds honest).waits;
      kept = λ honest. (holds honest).kept;
      covered = λ honest. (holds honest).covered;
      held = λ honest. (holds honest).held;
      noted = ap length c.and-self.ensures ∙ length_push self.files.items self.buffered ∙ ap (λ n. n + 1) self.noted ∙ sym c.end_call.ensures.made;
      timed = λ honest. timed_on self honest c.if-is_ok.self.1.0 c.and-self.result.items c.and-self-2.result.items c.if-is_ok.self.1.1.1.0 _ c.end_call.ensures.made c.and-self.ensures c.and-self-2.ensures (within honest);
      followed = λ honest. followed_on self honest c.if-is_ok.self.1.0 c.and-self.result.items c.and-self-2.result.items c.if-is_ok.self.1.1.1.0 _ c.end_call.ensures.made c.and-self.ensures c.and-self-2.ensures (within honest) (holds honest).covered;
    }

pub returns-clause-honest : goal.returns-clause-honest
returns-clause-honest g c honest =
    let self = c.args.self.now in
    let reply = c.write-reply.result in
    let b = c.write-reply.new.self in
    let written = c.write-reply.ensures in
    let calls = c.end_call.new.self in
    let files = c.and-self.result in
    let past = c.and-self-2.result in
    let made = c.end_call.ensures.made in
    elim c.if-is_ok.branch [
      | then-is_ok w ↦
          let ok : is_ok reply ≡ true = sym c.is_ok.ensures.value ∙ w.if-is_ok.true in
          let latest = w.and-self-then-is_ok.result in
          let since = w.and-self-then-is_ok-2.result in
          let latest_is = w.and-self-then-is_ok.ensures ∙ ap (λ moments. moments ++ b ∷ []) w.new.ensures in
          let fine = not_so self.buffered.failed _ (ok_is reply ok) written.stays in
          let put = at_ok reply ok (written.ok honest) in
          let more : GrowsBy (file_facts self) (facts_of b files calls latest since past) c.args.at c.args.from.now =
          grows self b files calls latest since past written.sectors made c.and-self.ensures c.and-self-2.ensures honest fine c.args.at c.args.from.now c.requires put
          (at_ok reply ok written.here) (at_ok reply ok written.others) latest_is w.and-self-then-is_ok-2.ensures in
          subst (λ s. IsWrite (file_facts self) (facts_of s.1.0 files calls s.1.1.0 s.1.1.1.0 past) c.args.at c.args.from.now reply) (sym w.self-is) (record {
            past = keeps_past self b files calls latest since past written.sectors made c.and-self.ensures c.and-self-2.ensures;
            ok = ok_of reply (now_set self b files calls latest since past written.sectors made c.and-self.ensures c.and-self-2.ensures honest fine c.args.at c.args.from.now c.requires put
                (at_ok reply ok written.here) (at_ok reply ok written.others) latest_is w.and-self-then-is_ok-2.ensures);
            err = not_err _ reply ok;
            stop = record { each = λ k content. (more.each k content).0 };
            stop_ok = ok_of reply more;
          })
      | else-is_ok w ↦
          let err : is_ok reply ≡ false = sym c.is_ok.ensures.value ∙ w.if-is_ok.false in
          let same = unchanged self b files calls self.latest self.since past written.sectors made c.and-self.ensures c.and-self-2.ensures refl refl in
          subst (λ s. IsWrite (file_facts self) (facts_of s.1.0 files calls s.1.1.0 s.1.1.1.0 past) c.args.at c.args.from.now reply) (sym w.self-is) (record {
            past = keeps_past self b files calls self.latest self.since past written.sectors made c.and-self.ensures c.and-self-2.ensures;
            ok = not_ok _ reply err;
            err = err_of reply (inl same.now);
            stop = record { each = λ k content left. inl ((same.stop k content).0 left) };
            stop_ok = not_ok _ reply err;
          })
    ]

pub returns-clause-any_moment : goal.returns-clause-any_moment
returns-clause-any_moment g c honest =
    let self = c.args.self.now in
    let b = c.write-reply.new.self in
    let written = c.write-reply.ensures in
    let facts = g.F.SectorFile.facts in
    let b_is : c.if-is_ok.self.1.0 ≡ b = elim c.if-is_ok.branch [ then-is_ok w ↦ ap (λ s. s.1.0) w.self-is | else-is_ok w ↦ ap (λ s. s.1.0) w.self-is ] in
    let within : StaysWithin (Leaves self.buffered) (facts self.buffered.file) (facts b.file) =
    either_of c.write-reply.result (λ put. put.within) (λ refused. refused.within) (written.ok honest) (written.err honest) in
    let stays = subst (λ b. StaysWithin (Leaves self.buffered) (facts self.buffered.file) (facts b.file)) (sym b_is) within in
    record {
      each =
          covered self c.if-is_ok.self.1.0 c.and-self.result c.end_call.new.self c.if-is_ok.self.1.1.0 c.if-is_ok.self.1.1.1.0 c.and-self-2.result
          (ap (λ b. b.sectors) b_is ∙ written.sectors) c.end_call.ensures.made c.and-self.ensures c.and-self-2.ensures
          honest stays;
    }
