-- A registry that answered all requests of a dump with Done.
use Rattle.std.proofs.Common.{◌≡◌, ◌≤◌, ◌+◌, List, [], ◌∷◌, length, map, IsFalse, refl, sym, ap, subst, ◌∙◌, arith, ⊎_elim}
use Rattle.std.specs.Prelude.{All, fold}
use Rattle.std.proofs.lemmas.Bool.{false≢true}
use Rattle.std.proofs.lemmas.List.{length-map, take_all}
use Rattle.std.proofs.lemmas.List.Elements.{All-head, All-tail}
use Rattle.sector_disk.specs.Disk.{DiskFacts}
use Rattle.states.specs.State.{State, empty_state}
use Rattle.store.specs.Opened.{Opened}
use Rattle.requests.specs.Library.{IsLibrary}
use Rattle.requests.specs.Request.{Request, install, replace, remove, set_preloads, bind, list}
use Rattle.requests.specs.Runs.{last_of}
use Rattle.requests.specs.Step.{accepted}
use Rattle.requests.specs.declared.reply.Reply.{Reply}
use Rattle.requests.specs.declared.reply.Reply.TheVariants.{Done}
use Rattle.registry.specs.Acknowledged.{Exchange, acknowledged, answered, command, commanded, state_after}
use Rattle.registry.specs.Answered.{Leaves}
use Rattle.registry.specs.Opened.{IsAt}
use Rattle.registry.specs.Ran.{LeadsThrough, Point, Ran, RunsOver, RunsThrough, point}
use Rattle.registry.proofs.Acknowledging.{after_all_steps}
use Rattle.replays.specs.Replay.{copy_of, requests_for}
use Rattle.replays.proofs.Answers.{IsChange, all_change}
use Rattle.replays.proofs.States.{leads}

-- the exchange of a request that was answered Done
abbrev pub done : Request → Exchange
done request = answered (command request) Done

all_acknowledged : (requests : List Request) → acknowledged (map done requests) ≡ map command requests
all_acknowledged [] = refl
all_acknowledged (r ∷ requests) = ap (λ rs. command r ∷ rs) (all_acknowledged requests)

-- the state after an exchange of commands is the state after their requests
after_commands : (s : State) (requests : List Request) → state_after s (map command requests) ≡ fold accepted s requests
after_commands s [] = refl
after_commands s (r ∷ requests) = after_commands (accepted s r) requests

-- if each answer is Done, the exchanges are those of requests that were answered Done
pub all_done : (requests : List Request) (answers : List Reply) → length answers ≡ length requests → All (λ answer. answer ≡ Done) answers → commanded requests answers ≡ map done requests
all_done [] [] same all = refl
all_done [] (a ∷ answers) same all = refl
all_done (r ∷ requests) [] same all = absurd (omega (arith, same))
all_done (r ∷ requests) (a ∷ answers) same all =
    ap (λ (reply : Reply). answered (command r) reply ∷ commanded requests answers) (All-head (λ answer. answer ≡ Done) a answers all)
    ∙ ap (λ (xs : List Exchange). done r ∷ xs) (all_done requests answers (omega (arith, same)) (All-tail (λ answer. answer ≡ Done) a answers all))

module _ {D : Type 0} (facts : D → DiskFacts) where
  -- after a change that was answered Done, the registry is usable
  usable_behind : (old new : Opened D) (request : Request) → IsChange request → Leaves old new request Done → IsFalse new.failed
  usable_behind old new (install bytes) change leaves = leaves
  usable_behind old new (set_preloads names) change leaves = leaves
  usable_behind old new (replace bytes) change leaves = absurd change
  usable_behind old new (remove name) change leaves = absurd change
  usable_behind old new (bind program base) change leaves = absurd change
  usable_behind old new list change leaves = absurd change

  usable_at_last : (requests : List Request) (start : Point D) (points : List (Point D)) → LeadsThrough facts start (map done requests) points → All IsChange requests
      → IsFalse start.registry.failed → IsFalse (last_of start points).registry.failed
  usable_at_last [] start [] led changes usable = usable
  usable_at_last [] start (t ∷ points) led changes usable = absurd led
  usable_at_last (r ∷ requests) start [] led changes usable = absurd led
  usable_at_last (r ∷ requests) start (t ∷ points) led changes usable =
      usable_at_last requests t points led.1 (All-tail IsChange r requests changes)
      (usable_behind start.registry t.registry r (All-head IsChange r requests changes) led.0.did.leaves)

  module _ (old new : Opened D) (s s' : State) (requests : List Request) (points : List (Point D)) (ran : Ran facts (point old s) (map done requests) points (point new s')) where
    state_is : s' ≡ fold accepted s requests
    state_is =
        let k = length requests + length points in
        let all_requests : length (map done requests) ≤ k = omega (arith, length-map requests done) in
        let all_points : length points ≤ k = omega arith in
        ap (λ (p : Point D). p.state) (ran.last ∙ sym (after_all_steps (point old s) points k all_points))
        ∙ ran.states k
        ∙ ap (λ xs. state_after s (acknowledged xs)) (take_all k (map done requests) all_requests)
        ∙ ap (state_after s) (all_acknowledged requests)
        ∙ after_commands s requests

    at_end : All IsChange requests → IsFalse old.failed → IsAt facts new (fold accepted s requests)
    at_end changes usable = ⊎_elim
        (λ at. subst (IsAt facts new) state_is at)
        (λ failed. absurd (false≢true (sym (subst (λ (p : Point D). IsFalse p.registry.failed) (sym ran.last) (usable_at_last requests (point old s) points ran.steps changes usable)) ∙ failed)))
        ran.kept

  module _ (s : State) (libraries : All IsLibrary s.libraries) (old new : Opened D) (at : IsAt facts old empty_state) where
    -- if all requests were answered Done, one after the other, the registry is at the copy
    pub copied : (registries : List (Opened D)) → RunsThrough facts old registries new empty_state (map done (requests_for s)) → IsAt facts new (copy_of s)
    copied registries run =
        subst (IsAt facts new) (leads s libraries) (at_end old new empty_state run.0 (requests_for s) run.1 run.3 (all_change s) at.stored.usable)

    pub copied_over : (answers : List Reply) → RunsOver facts old new empty_state (requests_for s) answers → All (λ answer. answer ≡ Done) answers → IsAt facts new (copy_of s)
    copied_over answers run all = copied run.0 (subst (λ xs. RunsThrough facts old run.0 new empty_state xs) (all_done (requests_for s) answers run.1 all) run.2)
