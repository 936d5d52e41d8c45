use Rattle.std.proofs.Common.{inl, inr, ⊎_elim, ℕ, List, map, refl, sym, subst, ◌∙◌}
use Rattle.sector_disk.specs.Disk.{Sector, Mixture}
use Rattle.sector_disk.proofs.Moments.{left_now, more_calls}
use Rattle.store.specs.declared.refusal.StoreRefusal.TheVariants.{OutOfMemory}
use Rattle.requests.specs.declared.command.Command.{Command}
use Rattle.requests.specs.Request.{request_of}
use Rattle.store.specs.Opened.{Opened}
use Rattle.sector_disk.specs.declared.fuse.Fuse.{Fuse}
use Rattle.sector_disk.specs.declared.memory.Memory.{Memory}
use Rattle.registry.specs.Ran.{RunsOver}
use Rattle.registry.specs.Stands.{Stands}
use Rattle.registry.specs.Rounds.{asked, fused_memory, IsStoppedBy, WritesNothing, WasRun, WasNotRun}
use Rattle.registry.proofs.Rounding.{answered_calls, fuse_stands, fuse_now_stands, round_ran, round_not_run}
use Rattle.registry.proofs.States.{mixture_stands}
use Rattle.registry.proofs.rounds.run_round.Goals.{in-Ok, in-Ok-run, in-Err-run, in-Err}
use Rattle.registry.proofs.rounds.run_round.Goals as goal

pub returns : goal.returns
returns c s stands =
    let disk = c.args.disk in
    let round = c.args.round.now in
    let first = c.behind_fuse-fuse.result in
    let fused = c.behind_fuse-fuse.ensures in
    let now = fuse_now_stands disk s stands first fused.same in
    let told = c.match-open.replies in
    let memory = c.into_inner.result in
    let result = c.stop_by.result in
    let stopped : IsStoppedBy round.picks.items memory result = subst (λ (l : List ℕ). IsStoppedBy l memory result) c.deref-2.ensures.value c.stop_by.ensures in
    let inner = c.into_inner.ensures.inner in
    let into = c.into_inner.ensures.same in
    elim c.match-open.branch [
      | in-Ok w ↦
          let old = w.in-Ok.registry in
          let new = w.run.new.self in
          let at = w.in-Ok.ensures.opening.stands refl s now in
          let opened : WritesNothing (fused_memory first) (fused_memory old.disk) =
          record { leaves = w.in-Ok.ensures.opening.any_moment refl; now = w.in-Ok.ensures.opening.now refl; calls = w.in-Ok.ensures.on_any_disk.ends.calls } in
          elim w.match-run.branch [
            | in-Ok-run w' ↦
                let ran : WasRun first new.disk s (asked round) w'.in-Ok-run.replies.items = record {
                  old = old;
                  new = new;
                  opened = opened;
                  calls = w.in-Ok.ensures.all_calls;
                  at = at;
                  unheld = w.in-Ok.ensures.on_any_disk.ends.unheld;
                  runs = subst (λ (l : List Command). RunsOver fused_memory old new s (map request_of l) w'.in-Ok-run.replies.items) w.deref.ensures.value (w'.in-Ok-run.ensures.ok s at);
                  ends = refl;
                } in
                round_ran disk s round first fused told memory result inner into stopped w'.in-Ok-run.replies new.disk ran
                (more_calls w.in-Ok.ensures.on_any_disk.ends.calls (answered_calls fused_memory old new _ _ w'.in-Ok-run.ensures.on_any_disk))
                (w.replies-is ∙ (λ i. (w'.replies-is i, w.into_disk.ensures i)))
            | in-Err-run w' ↦
                let same = w'.in-Err-run.ensures.err in
                let not_run : WasNotRun first new.disk OutOfMemory = record {
                  opened = subst (λ (r : Opened (Fuse Memory)). WritesNothing (fused_memory first) (fused_memory r.disk)) (sym same) opened;
                  why = inr refl;
                } in
                round_not_run disk s round first fused told memory result inner into stopped OutOfMemory new.disk not_run
                (subst (λ (r : Opened (Fuse Memory)). (m : List Sector) → Mixture (fused_memory r.disk) m → Stands m s) (sym same) (mixture_stands fused_memory old s at))
                (w.replies-is ∙ (λ i. (w'.replies-is i, w.into_disk.ensures i)))
          ]
      | in-Err w ↦
          let refusal = w.in-Err.refusal in
          let last = w.in-Err.fuse in
          let left = w.in-Err.ensures.opening.any_moment refl in
          let not_run : WasNotRun first last refusal = record {
            opened = record { leaves = left; now = w.in-Err.ensures.opening.now refl; calls = w.in-Err.ensures.on_any_disk.ends.calls };
            why = ⊎_elim (λ failed. inl (failed, w.in-Err.ensures.on_any_disk.ends.device failed)) inr (w.in-Err.ensures.opening.stands refl s now);
          } in
          round_not_run disk s round first fused told memory result inner into stopped refusal last not_run
          (λ m mixture. fuse_stands disk s stands first fused.same m (left_now (Mixture (fused_memory first)) left m mixture)) w.replies-is
    ]
