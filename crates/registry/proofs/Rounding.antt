-- Lemmas about a round of commands, and about rounds one after the other.
use Rattle.std.proofs.Common.{◌≡◌, ℕ, ◌+◌, ◌<◌, List, [], ◌∷◌, ◌++◌, length, take, get_or, refl, sym, ap, subst, ◌∙◌, Vec, Global}
use Rattle.std.specs.Prelude.{slice_index_or}
use Rattle.std.proofs.lemmas.List.{take_more}
use Rattle.sector_disk.specs.declared.memory.Memory.{Memory}
use Rattle.sector_disk.specs.declared.fuse.Fuse.{Fuse}
use Rattle.sector_disk.specs.declared.fuse.Plan.{Plan}
use Rattle.sector_disk.specs.Disk.{Sector, DiskFacts, HoldsNow, Mixture, IsSameDisk, AreCalls}
use Rattle.sector_disk.specs.Fuse.{inner_of, plan_of}
use Rattle.sector_disk.specs.Memory.{memory_facts}
use Rattle.sector_disk.specs.inside.FuseLaws.{fused_holds}
use Rattle.sector_disk.specs.inside.MemoryLaws.{memory_holds}
use Rattle.sector_disk.proofs.Mixtures.{same_disk_mixture, starts_synced}
use Rattle.sector_disk.proofs.Moments.{no_calls, more_calls}
use Rattle.store.specs.Opened.{Opened}
use Rattle.store.specs.declared.refusal.StoreRefusal.{StoreRefusal}
use Rattle.states.specs.State.{State}
use Rattle.requests.specs.Request.{Request}
use Rattle.requests.specs.Runs.{Run}
use Rattle.requests.specs.declared.reply.Reply.{Reply}
use Rattle.registry.specs.declared.rounds.Round.{Round}
use Rattle.registry.specs.declared.rounds.RoundReplies.{RoundReplies}
use Rattle.registry.specs.declared.rounds.RoundReplies.TheVariants.{Ran, NotRun}
use Rattle.registry.specs.Acknowledged.{state_after}
use Rattle.registry.specs.Answered.{AreAnswered}
use Rattle.registry.specs.Stands.{Stands}
use Rattle.registry.specs.Rounds.{AlwaysStands, Standing, standing, fused_memory, asked, IsFused, IsStoppedBy, WasRun, WasNotRun, RoundTells, RoundLeads}
use Rattle.requests.proofs.Runs.{run_more}

fuse_holds : (fuse : Fuse Memory) → HoldsNow (fused_memory fuse)
fuse_holds fuse = fused_holds fuse.plan (memory_facts fuse.inner) fuse.past.items (memory_holds fuse.inner)

-- if commands were answered one after the other, only calls of the disk were made
pub answered_calls : {D : Type 0} (facts : D → DiskFacts) (old new : Opened D) (requests : List Request) (answers : List Reply)
    → AreAnswered facts old new requests answers → AreCalls (facts old.disk) (facts new.disk)
answered_calls facts old new [] [] same = subst (λ (r : Opened _). AreCalls (facts old.disk) (facts r.disk)) (sym same) (no_calls (facts old.disk))
answered_calls facts old new (request ∷ requests) (answer ∷ answers) answered = more_calls answered.1.did.calls (answered_calls facts answered.0 new requests answers answered.2)
answered_calls facts old new [] (answer ∷ answers) answered = absurd answered
answered_calls facts old new (request ∷ requests) [] answered = absurd answered

-- If a stopped disk holds a state, each mixture of it holds this state, because all sectors are synced.
stopped_stands : (picks : List ℕ) (memory result : Memory) (s : State) → IsStoppedBy picks memory result → Stands (memory_facts result).now s → AlwaysStands result s
stopped_stands picks memory result s stopped stands m mixture = subst (λ l. Stands l s) (sym ((starts_synced (memory_holds result) stopped.stop.starts).each m mixture)) stands

module _ (disk : Memory) (s : State) (stands : AlwaysStands disk s) (fuse : Fuse Memory) (same : IsSameDisk (memory_facts disk) (fused_memory fuse)) where
  -- a mixture of a disk in a fuse is a mixture of the disk
  pub fuse_stands : (m : List Sector) → Mixture (fused_memory fuse) m → Stands m s
  fuse_stands m mixture = stands m ((same_disk_mixture same m).0 mixture)

  pub fuse_now_stands : Stands (fused_memory fuse).now s
  fuse_now_stands = fuse_stands (fused_memory fuse).now (fuse_holds fuse)

module _ (disk : Memory) (s : State) (round : Round) (first : Fuse Memory) (fused : IsFused disk round first) (told : RoundReplies × Fuse Memory) (memory result : Memory)
    (inner : memory ≡ inner_of told.1) (into : IsSameDisk (fused_memory told.1) (memory_facts memory)) (stopped : IsStoppedBy round.picks.items memory result) where
  -- the stop left a mixture of the disk in the fuse
  was_left : Mixture (fused_memory told.1) (memory_facts result).now
  was_left = (same_disk_mixture into (memory_facts result).now).0 stopped.stop.mixture

  -- if the round reports its replies, the round changes the disk and its state to the stopped disk and
  -- the new state
  leads : (s' : State) → RoundTells first told.1 s (asked round) told.0 s' → AreCalls (fused_memory first) (fused_memory told.1) → Stands (memory_facts result).now s'
      → RoundLeads (standing disk s) round told.0 (standing result s')
  leads s' tells calls stands = record {
    first = first;
    last = told.1;
    fused = fused;
    plan = ap (λ (plans : List Plan). slice_index_or plans 0 (plan_of first)) calls.plans;
    told = tells;
    stopped = subst (λ (k : Memory). IsStoppedBy round.picks.items k result) inner stopped;
    left = was_left;
    sectors = stopped.stop.starts.sectors ∙ stopped.stop.mixture.size ∙ into.sectors ∙ calls.sectors ∙ fused.same.sectors;
    stands = stopped_stands round.picks.items memory result s' stopped stands;
  }

  -- if the commands were run, the round changes the state to the one after the accepted commands
  pub round_ran : (replies : Vec Reply Global) (last : Fuse Memory) → WasRun first last s (asked round) replies.items → AreCalls (fused_memory first) (fused_memory last) → told ≡ (Ran replies, last)
      → (s' : State) × RoundLeads (standing disk s) round told.0 (standing result s')
  round_ran replies last ran calls is =
      let left : Mixture (fused_memory last) (memory_facts result).now = subst (λ (t : RoundReplies × Fuse Memory). Mixture (fused_memory t.1) (memory_facts result).now) is was_left in
      let found = ran.runs.2.3.found (memory_facts result).now (subst (λ (k : Fuse Memory). Mixture (fused_memory k) (memory_facts result).now) ran.ends left) in (
        state_after s found.0,
        leads (state_after s found.0)
            (subst (λ (t : RoundReplies × Fuse Memory). RoundTells first t.1 s (asked round) t.0 (state_after s found.0)) (sym is) (ran, found.0, found.1, refl))
            (subst (λ (t : RoundReplies × Fuse Memory). AreCalls (fused_memory first) (fused_memory t.1)) (sym is) calls)
            found.2,
      )

  -- if the commands weren't run, the round keeps the state
  pub round_not_run : (refusal : StoreRefusal) (last : Fuse Memory) → WasNotRun first last refusal → ((m : List Sector) → Mixture (fused_memory last) m → Stands m s) → told ≡ (NotRun refusal, last)
      → (s' : State) × RoundLeads (standing disk s) round told.0 (standing result s')
  round_not_run refusal last not_run stands is = (
    s,
    leads s
        (subst (λ (t : RoundReplies × Fuse Memory). RoundTells first t.1 s (asked round) t.0 s) (sym is) (not_run, refl))
        (subst (λ (t : RoundReplies × Fuse Memory). AreCalls (fused_memory first) (fused_memory t.1)) (sym is) not_run.opened.calls)
        (stands (memory_facts result).now (subst (λ (t : RoundReplies × Fuse Memory). Mixture (fused_memory t.1) (memory_facts result).now) is was_left)),
  )

-- if some rounds were run, and then one more, all of them were run one after the other
pub rounds_turn : (old mid result : Memory) (s : State) (rounds : List Round) (i : ℕ) (d : Round) (told told' : List RoundReplies) (replies : RoundReplies) → i < length rounds
    → (s' : State) × Run RoundLeads (standing old s) (take i rounds) told (standing mid s') × AlwaysStands mid s'
    → ((t : State) → AlwaysStands mid t → (s' : State) × RoundLeads (standing mid t) (get_or rounds i d) replies (standing result s'))
    → told' ≡ told ++ replies ∷ [] → (s' : State) × Run RoundLeads (standing old s) (take (i + 1) rounds) told' (standing result s') × AlwaysStands result s'
rounds_turn old mid result s rounds i d told told' replies lt so_far leads is =
    let next = leads so_far.0 so_far.2 in
    let after : Standing = standing result next.0 in (
      next.0,
      subst (λ (l : List RoundReplies). Run RoundLeads (standing old s) (take (i + 1) rounds) l after) (sym is)
          (subst (λ (l : List Round). Run RoundLeads (standing old s) l (told ++ replies ∷ []) after) (sym (take_more rounds i d lt))
          (run_more RoundLeads (standing old s) (standing mid so_far.0) after (get_or rounds i d) replies (take i rounds) told so_far.1 next.1)),
      next.1.stands,
    )
