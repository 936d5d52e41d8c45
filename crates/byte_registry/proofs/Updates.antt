-- Lemmas that lead from an update of an opened registry to clauses about the bytes and the plan.
use Rattle.std.proofs.Common.{◌≡◌, ◌⊎◌, inl, inr, ⊎_elim, ℕ, ◌+◌, ◌<◌, List, [], ◌∷◌, ◌++◌, length, map, take, drop, get_or, Bool, false, Ok, Err, IsTrue, refl, sym, ◌∙◌, ap, subst, append_assoc, arith}
use Rattle.std.specs.Prelude.{Result, MatchResult, IfErr, OnOk}
use Rattle.std.specs.List.{list_any}
use Rattle.std.proofs.lemmas.Bool.{both_ways}
use Rattle.std.proofs.lemmas.List.{take-append-drop, take_more, map-append, length-map, length-take-le}
use Rattle.std.proofs.lemmas.List.Elements.{All-nil, All-push}
use Rattle.sector_disk.specs.Disk.{Sector, LeavesOnly, MayAddSync, Mixture}
use Rattle.sector_disk.proofs.Moments.{goes_on, weaken}
use Rattle.byte_disk.specs.declared.disk.ByteDisk.{ByteDisk}
use Rattle.byte_disk.specs.Bytes.{sectors_in}
use Rattle.byte_disk.specs.ByteDisk.{byte_facts, plan_of}
use Rattle.byte_disk.specs.inside.Laws.{byte_holds}
use Rattle.byte_disk.proofs.Plans.{same_given}
use Rattle.states.specs.State.{State}
use Rattle.store.specs.Changed.{Changed}
use Rattle.store.specs.Draft.{Drafted, IsDraftedAt, begun, committed}
use Rattle.store.specs.Opened.{Opened, IsAt}
use Rattle.store.specs.Stands as sectors
use Rattle.store.specs.declared.holds.HeldRow.{HeldRow}
use Rattle.requests.specs.Request.{Request, request_of}
use Rattle.requests.specs.declared.command.Command.{Command}
use Rattle.requests.specs.declared.refusal.Refusal.{Refusal}
use Rattle.requests.specs.declared.refusal.Refusal.TheVariants.{Device, OutOfMemory, Reopen}
use Rattle.requests.specs.declared.reply.Reply.{Reply}
use Rattle.requests.specs.declared.reply.Reply.TheVariants.{Refused}
use Rattle.requests.proofs.Runs.{run_more}
use Rattle.registry.specs.Stands.{Stands}
use Rattle.registry.specs.Updating.{DraftAnswers, IsUpdate, Plans, asks_change, drafted_by, is_refusal, updated}
use Rattle.registry.proofs.Updating.{begun_at, each_next, is_update, plans_moment}
use Rattle.byte_registry.specs.Plans.{Holds, LeadsTo, synced_plan}
use Rattle.byte_registry.specs.Replies.{opened_on}
use Rattle.byte_registry.specs.Updated.{AnswersUpdate, ArePlanned, IsCommitted, IsUnwritten, IsUpdateAsked, StopsAt}
use Rattle.byte_registry.specs.inside.Opening.{IsOpenedOn}
use Rattle.byte_registry.specs.inside.Planning.{MakesUpdate}
use Rattle.byte_registry.proofs.Asking.{holds, only, stands_by, leads_stored, leads_registry}
use Rattle.byte_registry.proofs.Syncs.{few_synced}

-- if the reply to a request is a refusal, the draft answered the request with this refusal
pub refused_in : (old new : Drafted ByteDisk) (request : Request) (answer : Reply) (result : Result (Unit {0}) Refusal) → DraftAnswers byte_facts old request answer new
    → MatchResult result (λ _. is_refusal answer ≡ false) (λ refusal. answer ≡ Refused refusal) → IfErr result (λ refusal. DraftAnswers byte_facts old request (Refused refusal) new)
refused_in old new request answer (Ok done) did is = tt
refused_in old new request answer (Err refusal) did is = subst (λ (a : Reply). DraftAnswers byte_facts old request a new) is did

-- Lemmas about requests to a draft that are planned one after the other.
pub plans_none : (u : Drafted ByteDisk) → Plans byte_facts u u [] []
plans_none u = record { run = ([], tt, refl); accepted = All-nil (λ (a : Reply). is_refusal a ≡ false) }

pub plans_more : (old mid new : Drafted ByteDisk) (requests : List Request) (answers : List Reply) (request : Request) (answer : Reply) → Plans byte_facts old mid requests answers
    → DraftAnswers byte_facts mid request answer new → is_refusal answer ≡ false → Plans byte_facts old new (requests ++ request ∷ []) (answers ++ answer ∷ [])
plans_more old mid new requests answers request answer plans did is = record {
  run = run_more (DraftAnswers byte_facts) old mid new request answer requests answers plans.run did;
  accepted = All-push (λ (a : Reply). is_refusal a ≡ false) answers answer plans.accepted is;
}

-- a list is the items before an item, the item, and the items after it
split_at : (xs : List Command) (i : ℕ) (d : Command) → i < length xs → xs ≡ take i xs ++ get_or xs i d ∷ drop (i + 1) xs
split_at xs i d lt =
    sym (take-append-drop (i + 1) xs) ∙ ap (λ l. l ++ drop (i + 1) xs) (take_more xs i d lt) ∙ append_assoc (take i xs) (get_or xs i d ∷ []) (drop (i + 1) xs)

module _ (xs : List Command) (i : ℕ) (d : Command) (lt : i < length xs) (old mid new : Drafted ByteDisk) (answers : List Reply)
    (plans : Plans byte_facts old mid (map request_of (take i xs)) answers) where
  pub planned_more : (answer : Reply) → DraftAnswers byte_facts mid (request_of (get_or xs i d)) answer new → is_refusal answer ≡ false
      → Plans byte_facts old new (map request_of (take (i + 1) xs)) (answers ++ answer ∷ [])
  planned_more answer did is =
      subst (λ l. Plans byte_facts old new l (answers ++ answer ∷ []))
      (sym (ap (map request_of) (take_more xs i d lt) ∙ map-append request_of (take i xs) (get_or xs i d ∷ [])))
      (plans_more old mid new (map request_of (take i xs)) answers (request_of (get_or xs i d)) answer plans did is)

  pub stops_at : (refusal : Refusal) → DraftAnswers byte_facts mid (request_of (get_or xs i d)) (Refused refusal) new → StopsAt old new (map request_of xs) i refusal
  stops_at refusal did = record {
    before = map request_of (take i xs);
    request = request_of (get_or xs i d);
    others = map request_of (drop (i + 1) xs);
    requests_are = ap (map request_of) (split_at xs i d lt) ∙ map-append request_of (take i xs) (get_or xs i d ∷ drop (i + 1) xs);
    count = sym (length-map (take i xs) request_of ∙ length-take-le i xs (omega (arith, lt)));
    mid = mid;
    answers = answers;
    plans = plans;
    refused = did;
  }

-- The draft is one of an opened registry at a state.
module _ (old : Opened ByteDisk) (s : State) (at : IsAt byte_facts old s) where
  starts : IsDraftedAt byte_facts (begun old) s s
  starts = begun_at byte_facts s old (λ honest. byte_holds old.disk) at

  module _ (requests : List Request) (answers : List Reply) (u : Drafted ByteDisk) (plans : Plans byte_facts (begun old) u requests answers) where
    update : IsUpdate byte_facts (begun old) u s requests answers
    update = is_update byte_facts s (begun old) u requests answers refl starts plans

    planned : ArePlanned (begun old) u s requests
    planned = record { answers = answers; plans = plans; update = update }

    pub drafted_at : IsDraftedAt byte_facts u s (drafted_by s requests)
    drafted_at = update.at

    abbrev to : State
    to = committed u.touched s (drafted_by s requests)

    -- The commit of the draft left another disk.
    module _ (new : Opened ByteDisk) (left : LeavesOnly (byte_facts u.store.disk) (byte_facts new.disk) (λ m. sectors.Stands m s ⊎ sectors.Stands m to)) where
      commit_leaves : LeavesOnly (byte_facts u.store.disk) (byte_facts new.disk) (λ m. sectors.Stands m s ⊎ sectors.Stands m (updated s requests))
      commit_leaves =
          subst (λ (t : State). LeavesOnly (byte_facts u.store.disk) (byte_facts new.disk) (λ m. sectors.Stands m s ⊎ sectors.Stands m t)) update.made left

      is_committed : IsCommitted (begun old) s requests new.disk
      is_committed = record { after = u; planned = planned; any_moment = commit_leaves }

      -- if the commit was made, the update was made
      pub is_made : IsAt byte_facts new to → MakesUpdate old new s requests (Ok tt)
      is_made ends = record {
        table = is_committed;
        any_moment = goes_on (λ m. sectors.Stands m s ⊎ sectors.Stands m (updated s requests))
            (weaken (λ m. sectors.Stands m s) (λ m. sectors.Stands m s ⊎ sectors.Stands m (updated s requests)) (λ m stands. inl stands)
            (plans_moment byte_facts s (begun old) u requests answers starts plans))
            commit_leaves;
        ok = subst (IsAt byte_facts new) update.made ends;
        device = tt;
      }

      -- if a call of the commit failed, the update was answered with S1
      pub is_uncommitted : (most n : ℕ) (refusal : Refusal) → n ≡ length requests
          → Changed byte_facts Device Reopen u.store new most (λ e. (e ≡ Device) ⊎ (e ≡ Reopen)) (Err refusal) → MakesUpdate old new s requests (Err (n, refusal))
      is_uncommitted most n refusal count changed =
          let failed : refusal ≡ Device =
          ⊎_elim (λ device. device) (λ reopen. absurd (both_ways u.store.failed update.at.stands.usable (changed.reopen.0 (ap Err reopen)))) changed.refusals in
          record {
            table = inr (inl (count, failed, is_committed));
            any_moment = tt;
            ok = tt;
            device = λ is. omega (arith, (changed.device failed).0);
          }

  -- if a request was refused, the update was answered with this refusal
  pub is_stopped : (requests : List Request) (last : Drafted ByteDisk) (refused : ℕ × Refusal) → StopsAt (begun old) last requests refused.0 refused.1
      → MakesUpdate old last.store s requests (Err refused)
  is_stopped requests last refused stops = record {
    table = inl (record { last = last; stops = stops; update = update stops.before stops.answers stops.mid stops.plans; back = refl });
    any_moment = tt;
    ok = tt;
    device = λ is. omega (arith, stops.refused.on_any_disk.device (ap Refused is));
  }

  -- if memory was refused before any request, the update was answered with S11
  pub is_unbegun : (requests : List Request) (refusal : Refusal) → ((refusal ≡ Reopen) × IsTrue old.failed) ⊎ ((refusal ≡ OutOfMemory) × (old.failed ≡ false))
      → MakesUpdate old old s requests (Err (0, refusal))
  is_unbegun requests refusal why =
      let memory : refusal ≡ OutOfMemory = ⊎_elim (λ reopen. absurd (both_ways old.failed at.usable reopen.1)) (λ memory. memory.0) why in
      record {
        table = inr (inr (refl, memory, refl));
        any_moment = tt;
        ok = tt;
        device = λ is. absurd (other (sym memory ∙ is));
      }
    where
      other : OutOfMemory ≡ Device → ⊥
      other is = cc

-- A registry was opened on bytes, and updated.
module _ (bytes : List ℕ) (opened : Opened ByteDisk) (on : IsOpenedOn bytes opened) where
  abbrev s : State
  s = on.found.0

  abbrev given : List Sector
  given = sectors_in bytes

  -- nothing was written to the disk of the opened registry
  is_unwritten : IsUnwritten bytes opened.disk
  is_unwritten = record {
    given = same_given on.disk opened.disk on.any_moment.past ∙ on.of_bytes.given;
    steps = few_synced (plan_of opened.disk) (subst (λ log. MayAddSync log (byte_facts opened.disk).log) on.of_bytes.starts.log on.log);
  }

  -- the opened registry, with these held byte strings and this failure flag
  abbrev opened_by : List HeldRow → Bool → Opened ByteDisk
  opened_by held failed = record { disk = opened.disk; root = opened.root; entries = opened.entries; held = held; failed = failed }

  same_opened : opened ≡ opened_on opened.disk opened.root opened.entries
  same_opened = ap (λ held. opened_by held opened.failed) on.unheld ∙ ap (λ failed. opened_by [] failed) on.found.2.usable

  module _ (requests : List Request) (new : Opened ByteDisk) where
    ends : IsAt byte_facts new (updated s requests) → (m : List Sector) → Mixture (byte_facts new.disk) m → sectors.Stands m (updated s requests)
    ends at m mixture = (new.root, new.entries, at.stands m mixture)

    leads : (answer : Result (Unit {0}) (ℕ × Refusal)) → MakesUpdate opened new s requests answer
        → OnOk answer (LeadsTo sectors.Stands given s (updated s requests) (synced_plan new.disk))
    leads (Ok done) makes = leads_stored bytes opened on (updated s requests) new.disk makes.any_moment (ends makes.ok)
    leads (Err refused) makes = tt

    registry : (answer : Result (Unit {0}) (ℕ × Refusal)) → MakesUpdate opened new s requests answer
        → OnOk answer (Holds bytes s → LeadsTo Stands given s (updated s requests) (synced_plan new.disk))
    registry (Ok done) makes = λ held.
        let all = held.stands.libraries in
        let planned = makes.table.planned in
        leads_registry bytes opened on (updated s requests) new.disk makes.any_moment (ends makes.ok)
        (each_next s (drafted_by s requests) (list_any asks_change requests) all (planned.update.libraries all)) held
    registry (Err refused) makes = tt

    pub update_asked : (answer : Result (Unit {0}) (ℕ × Refusal)) → MakesUpdate opened new s requests answer → (s : State) × IsUpdateAsked bytes s requests answer new.disk
    update_asked answer makes = (
      s,
      record {
        holds = holds bytes opened on;
        only = only bytes opened on;
        by_table = record {
          root = opened.root;
          entries = opened.entries;
          by = stands_by bytes opened on;
          disk = opened.disk;
          unwritten = is_unwritten;
          answers = subst (λ (o : Opened ByteDisk). AnswersUpdate (begun o) s requests answer new.disk) same_opened makes.table;
        };
        leads = leads answer makes;
        registry = registry answer makes;
      },
    )
