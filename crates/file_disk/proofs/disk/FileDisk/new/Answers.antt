use Rattle.std.proofs.Common.{◌≡◌, ◌∷◌, ◌++◌, [], IsTrue, length, ap, sym, subst, ◌∙◌}
use Rattle.std.proofs.lemmas.List.Elements.{Contains-push}
use Rattle.std.specs.List.{Contains}
use Rattle.file_disk.proofs.Disks.{Holds, holds_from, starts_now, starts_left, left_starts}
use Rattle.file_disk.proofs.Followed.{timed_first, followed_first}
use Rattle.file_disk.proofs.disk.FileDisk.new.Goals as goal

pub invariant_of-result : goal.invariant_of-result
invariant_of-result g c =
    let b = c.in_ok-buffered.buffered in
    let latest_is : c.and-latest.result.items ≡ b ∷ [] = c.and-latest.ensures ∙ ap (λ moments. moments ++ b ∷ []) c.new-2.ensures in
    let since_is = c.copy-since.ensures ∙ latest_is in
    let holds : IsTrue g.F.SectorFile.is_honest → Holds b c.and-latest.result.items c.copy-since.result.items =
    λ honest. holds_from b _ _ honest c.in_ok-buffered.ensures.failed (g.met.F.SectorFile.holds_now b.file honest) latest_is
    (subst (λ moments. Contains moments b) (sym since_is) (Contains-push [] b)) in
    record {
      counted = ap length c.new-3.ensures ∙ sym c.new-5.ensures.made;
      shown = λ honest. (holds honest).shown;
      waits = λ honest. (holds honest).waits;
      kept = λ honest. (holds honest).kept;
      covered = λ honest. (holds honest).covered;
      held = λ honest. (holds honest).held;
      noted = ap length c.new-4.ensures ∙ sym c.new-5.ensures.made;
      timed = λ honest. timed_first b c.new-4.result.items _ c.new-4.ensures;
      followed = λ honest. followed_first b c.new-4.result.items c.new-3.result.items c.copy-since.result _ c.new-4.ensures c.new-3.ensures (holds honest).covered;
    }

pub returns-clause-starts : goal.returns-clause-starts
returns-clause-starts g c honest =
    let b = c.in_ok-buffered.buffered in
    let latest_is : c.and-latest.result.items ≡ b ∷ [] = c.and-latest.ensures ∙ ap (λ moments. moments ++ b ∷ []) c.new-2.ensures in
    let since_is = c.copy-since.ensures ∙ latest_is in
    let held = g.met.F.SectorFile.holds_now b.file honest in
    record {
      now = starts_now b c.new-4.result c.new-5.result _ c.copy-since.result c.new-3.result c.in_ok-buffered.ensures.waits latest_is since_is c.new-3.ensures held (sym (b.size honest));
      medium = starts_left b c.new-4.result c.new-5.result _ c.copy-since.result c.new-3.result c.in_ok-buffered.ensures.waits latest_is since_is c.new-3.ensures;
      only = left_starts b c.new-4.result c.new-5.result _ c.copy-since.result c.new-3.result c.in_ok-buffered.ensures.waits latest_is since_is c.new-3.ensures;
    }
