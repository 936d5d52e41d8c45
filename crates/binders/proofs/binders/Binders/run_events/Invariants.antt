use Rattle.std.proofs.Common.{◌≡◌, ◌≤◌, map, take, length, vec_len, vec_capacity}
use Rattle.requests.specs.Runs.{Run}
use Rattle.binders.specs.Events.{happening_of}
use Rattle.binders.specs.EventsRan.{EventStep}
use Rattle.binders.proofs.binders.Binders.run_events.Given as goal

abbrev pub invariant-loop-event : goal.invariant-loop-event
invariant-loop-event g l = record {
  count : vec_len l.replies ≡ l.event-index;
  room : length l.events ≤ vec_capacity l.replies;
  happened : Run (EventStep g.D.Disk.facts) l.fn.self (map happening_of (take l.event-index l.events)) l.replies.items l.self;
}
