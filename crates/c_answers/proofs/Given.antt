-- If the status of a call is 0, the call returned what was asked for.
use Rattle.std.proofs.Common.{◌≡◌, inl, inr, ℕ, List, refl, sym, ◌∙◌, subst, arith}
use Rattle.byte_disk.specs.declared.step.Step.{Step}
use Rattle.image.specs.declared.refusal.BindRefusal.{BindRefusal}
use Rattle.image.specs.declared.refusal.BindRefusal.TheVariants as bind
use Rattle.states.specs.State.{State}
use Rattle.store.specs.declared.refusal.StoreRefusal.{StoreRefusal}
use Rattle.store.specs.declared.refusal.StoreRefusal.TheVariants as store
use Rattle.std.specs.Prelude.{Option, Some, None}
use Rattle.std.specs.Option.{option_map}
use Rattle.image.specs.Byte.{byte_of}
use Rattle.image.specs.Image.{image_byte}
use Rattle.requests.specs.Binding.{bound_image, bound_objects, binding_refusal}
use Rattle.requests.specs.Request.{Request, set_preloads, list}
use Rattle.requests.specs.Request as request
use Rattle.requests.specs.Table.{listed}
use Rattle.requests.specs.Step as registry
use Rattle.requests.specs.Table.{Listed}
use Rattle.image.specs.Image.{MemoryImage}
use Rattle.requests.specs.declared.refusal.Refusal.{Refusal}
use Rattle.requests.specs.declared.refusal.Refusal.TheVariants as refusal
use Rattle.requests.specs.declared.reply.Reply.{Reply}
use Rattle.requests.specs.declared.reply.Reply.TheVariants as reply
use Rattle.c_answers.specs.declared.answer.Answer.{Answer}
use Rattle.registry.proofs.Untested.{other_step}
use Rattle.byte_registry.specs.Asked.{IsAsked}
use Rattle.c_answers.specs.declared.entry.EntryPlace.{EntryPlace}
use Rattle.c_answers.specs.declared.object.ObjectPlace.{ObjectPlace}
use Rattle.c_answers.specs.declared.place.SegmentPlace.{SegmentPlace}
use Rattle.c_answers.specs.Answers.{HasPlan, IsTold, IsToldAlone, IsTurnedAway, IsPlanned, IsLeft, IsPlanOf, IsChangeTold, IsChangeAnswered}
use Rattle.c_answers.specs.Answers.{IsFormatPlan, IsFormatAnswered, IsUpgradePlan, IsUpgradeAnswered, IsBindTold, IsBindAnswered, IsListTold}
use Rattle.c_answers.specs.Answers.{IsListGiven, IsListAnswered, IsPreloadAnswered}
use Rattle.c_answers.specs.Buffers.{CountsImage, IsLaidOut, IsImageOf, IsImageGiven}
use Rattle.c_answers.specs.Listing.{IsListingOf, AreListed, Counts, entries_of}
use Rattle.c_answers.specs.Names.{AreNames}
use Rattle.c_answers.specs.Numbers.{store_number, bind_number, refusal_number}
use Rattle.c_answers.specs.Unsaid.{IsSilent, IsUncounted}

-- no refusal has the number 0
store_not_done : (why : StoreRefusal) → store_number why ≡ 0 → ⊥
store_not_done store.Device e = omega (arith, e)
store_not_done why e = omega (arith, e)

bind_not_done : (why : BindRefusal) → bind_number why ≡ 0 → ⊥
bind_not_done bind.BadBase e = omega (arith, e)
bind_not_done why e = omega (arith, e)

refusal_not_done : (why : Refusal) → refusal_number why ≡ 0 → ⊥
refusal_not_done (refusal.Bind why) e = bind_not_done why e
refusal_not_done why e = omega (arith, e)

-- if there is no registry, the status isn't 0
pub turned_not_done : (why : StoreRefusal) (text : List ℕ) (answer : Answer) (status : ℕ) → status ≡ 0 → IsTurnedAway why text answer status → ⊥
turned_not_done why text answer status zero (inl turned, uncounted) = store_not_done why (sym turned.status ∙ zero)
turned_not_done why text answer status zero (inr wants, uncounted) = omega (arith, zero, wants.status)

-- if a command is refused, the status isn't 0
pub refused_not_done : (why : Refusal) (text : List ℕ) (answer : Answer) (status : ℕ) → status ≡ 0 → IsTold (reply.Refused why) text answer status → ⊥
refused_not_done why text answer status zero (inl tells) = refusal_not_done why (sym tells.status ∙ zero)
refused_not_done why text answer status zero (inr wants) = omega (arith, zero, wants.status)

-- if the status is 0, the buffer has the steps
pub planned_done : (steps : List Step) (plan text : List ℕ) (answer : Answer) (status : ℕ) → status ≡ 0 → IsPlanned steps plan text answer status → HasPlan steps plan answer.bytes answer.count
planned_done steps plan text answer status zero (inl given, unlisted, unbound) = given.0
planned_done steps plan text answer status zero (inr lacks, unlisted, unbound) = absurd (omega (arith, zero, lacks.0.status))

-- unless the status is done, no_room or out_of_memory, the buffer is unchanged
pub planned_left : (steps : List Step) (plan text old : List ℕ) (answer : Answer) (status : ℕ) → IsPlanned steps plan text answer status → IsLeft old plan status
planned_left steps plan text old answer status (inl (has, inl tells), unlisted, unbound) not_done no_room no_memory = absurd (not_done tells.status)
planned_left steps plan text old answer status (inl (has, inr wants), unlisted, unbound) not_done no_room no_memory = absurd (no_memory wants.status)
planned_left steps plan text old answer status (inr lacks, unlisted, unbound) not_done no_room no_memory = absurd (no_room lacks.0.status)

-- If the request is a change and the status is 0, the buffer has the plan of the change.
module _ (bytes : List ℕ) (request : Request) (not_listing : (s : State) (l : Listed) → registry.IsReply s request (reply.Listing l) → ⊥)
    (not_bound : (s : State) (image : MemoryImage) → registry.IsReply s request (reply.Bound image) → ⊥) (plan text : List ℕ) (answer : Answer)
    (status : ℕ) (zero : status ≡ 0) where
  listing_undamaged : {l : Listed} → reply.Listing l ≡ reply.Refused refusal.Damaged → ⊥
  listing_undamaged is = cc

  bound_undamaged : {image : MemoryImage} → reply.Bound image ≡ reply.Refused refusal.Damaged → ⊥
  bound_undamaged is = cc

  given : (s : State) (r : Reply) (steps : List Step) → IsAsked bytes s request r steps → IsChangeTold r steps plan text answer status → IsPlanOf bytes request plan answer
  given s reply.Done steps asked told = record {
    state = s;
    steps = steps;
    holds = asked.holds;
    only = asked.only;
    leads = asked.leads refl;
    registry = asked.registry refl;
    plan = planned_done steps plan text answer status zero told;
  }
  given s (reply.Listing l) steps asked told = absurd (not_listing s l (other_step _ request (reply.Listing l) _ listing_undamaged asked.by_table.step).2)
  given s (reply.Bound image) steps asked told = absurd (not_bound s image (other_step _ request (reply.Bound image) _ bound_undamaged asked.by_table.step).2)
  given s (reply.Refused why) steps asked told = absurd (refused_not_done why text answer status zero told.0)

  pub plan_given : IsChangeAnswered bytes request plan text answer status → IsPlanOf bytes request plan answer
  plan_given (inl asked) = given asked.0 asked.1 asked.2 asked.3 asked.4
  plan_given (inr unopened) = absurd (turned_not_done unopened.0 text answer status zero unopened.2)

-- the report of a listing doesn't depend on the generation
listing_told : (l : Listed) (entries : List EntryPlace) (names text : List ℕ) (answer : Answer) (generation status : ℕ)
    → IsListGiven l entries names text answer status → IsListGiven l entries names text (record answer { generation = generation }) status
listing_told l entries names text answer generation status ((counts, unbound), inl listed) = ((counts, record { objects = unbound.objects }), inl listed)
listing_told l entries names text answer generation status ((counts, unbound), inr (full, lack, silent)) =
    ((counts, record { objects = unbound.objects }), inr (full, lack, record { text = silent.text; file = silent.file }))

-- a reply that is a listing is reported together with the generation
pub list_told : (s : State) (r : Reply) (l : Listed) (entries : List EntryPlace) (names text : List ℕ) (answer : Answer) (generation status : ℕ)
    → r ≡ reply.Listing l → generation ≡ s.generation → IsListGiven l entries names text answer status
    → IsListTold s r entries names text (record answer { generation = generation }) status
list_told s r l entries names text answer generation status is same was =
    subst (λ x. IsListTold s x entries names text (record answer { generation = generation }) status) (sym is)
    (listing_told l entries names text answer generation status was, same)

-- the answer with this status, and 0 in all other fields
abbrev pub status_alone : ℕ → Answer
status_alone n = record {
  status = n;
  file_refusal = 0;
  count = 0;
  preloads = 0;
  bytes = 0;
  text = 0;
  generation = 0;
  objects = 0;
}

pub nothing_said : (answer : Answer) (n : ℕ) → answer ≡ status_alone n → IsUncounted answer × IsSilent answer
nothing_said answer n is = subst (λ (a : Answer). IsUncounted a × IsSilent a) (sym is) (
  record { count = refl; bytes = refl; unlisted = record { preloads = refl; generation = refl }; unbound = record { objects = refl } },
  record { text = refl; file = refl },
)

-- a reply other than Done is reported without a plan
pub told_other : (r : Reply) (steps : List Step) (plan text : List ℕ) (answer : Answer) (status : ℕ) → (r ≡ reply.Done → ⊥)
    → IsToldAlone r text answer status → IsChangeTold r steps plan text answer status
told_other reply.Done steps plan text answer status not said = absurd (not refl)
told_other (reply.Listing l) steps plan text answer status not said = said
told_other (reply.Bound image) steps plan text answer status not said = said
told_other (reply.Refused why) steps plan text answer status not said = said

-- neither a listing nor an image is the reply Done
pub no_listing : (l : Listed) → reply.Listing l ≡ reply.Done → ⊥
no_listing l e = cc

pub no_image : (image : MemoryImage) → reply.Bound image ≡ reply.Done → ⊥
no_image image e = cc

-- If the status of a call to format is 0, the buffer has the plan of an empty registry.
pub format_given : (bytes plan text : List ℕ) (answer : Answer) (status : ℕ) → status ≡ 0 → IsFormatAnswered bytes plan text answer status → IsFormatPlan bytes plan answer
format_given bytes plan text answer status zero (inl made) = record { steps = made.0; formatted = made.1; plan = planned_done made.0 plan text answer status zero made.2 }
format_given bytes plan text answer status zero (inr refused) = absurd (turned_not_done refused.0 text answer status zero refused.2)

-- If the status of an upgrade is 0, the buffer has the plan of the upgrade.
pub upgrade_given : (bytes plan text : List ℕ) (answer : Answer) (status : ℕ) → status ≡ 0 → IsUpgradeAnswered bytes plan text answer status → IsUpgradePlan bytes plan answer
upgrade_given bytes plan text answer status zero (inl made) = record { state = made.0; steps = made.1; upgraded = made.2; plan = planned_done made.1 plan text answer status zero made.3 }
upgrade_given bytes plan text answer status zero (inr refused) = absurd (turned_not_done refused.0 text answer status zero refused.2)

-- an option that a function maps to `None` is `None`
pub none_mapped : {A B : Type 0} (f : A → B) (o : Option A) → option_map f o ≡ None → o ≡ None
none_mapped f None e = refl
none_mapped f (Some x) e = cc

-- If the status of a bind is 0, the buffers have its image.
module _ (disk program : List ℕ) (base : ℕ) (objects : List ObjectPlace) (segments : List SegmentPlace) (bytes text : List ℕ) (answer : Answer) (status : ℕ) (zero : status ≡ 0) where
  not_done : (image : MemoryImage) → reply.Done ≡ reply.Bound image → ⊥
  not_done image e = cc

  not_listed : (l : Listed) (image : MemoryImage) → reply.Listing l ≡ reply.Bound image → ⊥
  not_listed l image e = cc

  laid_out : (image : MemoryImage) → IsImageGiven image objects segments bytes answer status → CountsImage image answer × IsLaidOut image objects segments bytes answer.bytes
  laid_out image (inl given, counts, unlisted, silent) = (counts, given.1)
  laid_out image (inr lacks, counts, unlisted, silent) = absurd (omega (arith, zero, lacks.0))

  bound : (s : State) (r : Reply) (steps : List Step) → IsAsked disk s (request.bind program base) r steps
      → IsBindTold r objects segments bytes text answer status → IsImageOf disk program base objects segments bytes answer
  bound s reply.Done steps asked told = absurd (not_done (bound_image s program base) asked.by_table.step.0.2)
  bound s (reply.Listing l) steps asked told = absurd (not_listed l (bound_image s program base) asked.by_table.step.0.2)
  bound s (reply.Bound image) steps asked told =
      let is = asked.by_table.step.0.2 in
      record {
        state = s;
        holds = asked.holds;
        only = asked.only;
        libraries = asked.by_table.step.1 tt;
        accepted = none_mapped refusal.Bind (binding_refusal s program base) asked.by_table.step.0.1;
        counts = subst (λ i. CountsImage i answer) is.0 (laid_out image told).0;
        given = subst (λ i. IsLaidOut i objects segments bytes answer.bytes) is.0 (laid_out image told).1;
        each = subst (λ i. (a : ℕ) → image_byte i a ≡ byte_of (bound_objects s program base) a) is.0 is.1;
      }
  bound s (reply.Refused why) steps asked told = absurd (refused_not_done why text answer status zero told.0)

  pub image_given : IsBindAnswered disk (request.bind program base) objects segments bytes text answer status → IsImageOf disk program base objects segments bytes answer
  image_given (inl asked) = bound asked.0 asked.1 asked.2 asked.3 asked.4
  image_given (inr refused) = absurd (turned_not_done refused.0 text answer status zero refused.2)

-- If the status of a listing is 0, the buffers have the listing.
module _ (disk : List ℕ) (entries : List EntryPlace) (names text : List ℕ) (answer : Answer) (status : ℕ) (zero : status ≡ 0) where
  done_not_listing : (l : Listed) → reply.Done ≡ reply.Listing l → ⊥
  done_not_listing l e = cc

  image_not_listing : (image : MemoryImage) (l : Listed) → reply.Bound image ≡ reply.Listing l → ⊥
  image_not_listing image l e = cc

  same_listing : (k l : Listed) → reply.Listing k ≡ reply.Listing l → k ≡ l
  same_listing k l e = cc

  are_listed : (l : Listed) → IsListGiven l entries names text answer status → AreListed (entries_of l) entries names answer.bytes
  are_listed l (counts, inl given) = given.0
  are_listed l (counts, inr lacks) = absurd (omega (arith, zero, lacks.0))

  told : (s : State) (r : Reply) (steps : List Step) → IsAsked disk s list r steps → IsListTold s r entries names text answer status → IsListingOf disk entries names answer
  told s reply.Done steps asked given = absurd (done_not_listing (listed s) asked.by_table.step.2)
  told s (reply.Bound image) steps asked given = absurd (image_not_listing image (listed s) asked.by_table.step.2)
  told s (reply.Listing l) steps asked given =
      let is = same_listing l (listed s) asked.by_table.step.2 in
      record {
        state = s;
        holds = asked.holds;
        only = asked.only;
        counts = subst (λ k. Counts k answer.count answer.preloads) is given.0.0.0;
        given = subst (λ k. AreListed (entries_of k) entries names answer.bytes) is (are_listed l given.0);
        generation = given.1;
      }
  told s (reply.Refused why) steps asked given = absurd (refused_not_done why text answer status zero given.0)

  pub listing_given : IsListAnswered disk entries names text answer status → IsListingOf disk entries names answer
  listing_given (inl asked) = told asked.0 asked.1 asked.2 asked.3 asked.4
  listing_given (inr refused) = absurd (turned_not_done refused.0 text answer status zero refused.2)

-- If the status of a call that sets preloads is 0, the buffer has the plan of this change.
pub preload_given : (disk names plan text : List ℕ) (answer : Answer) (status : ℕ) → status ≡ 0
    → IsPreloadAnswered disk names plan text answer status → (l : List (List ℕ)) × AreNames l names × IsPlanOf disk (set_preloads l) plan answer
preload_given disk names plan text answer status zero (inl asked) = (
  asked.0,
  asked.1,
  plan_given disk (set_preloads asked.0) (λ s l e. no_listing l e)
      (λ s image e. no_image image e) plan text answer status zero asked.2,
)
preload_given disk names plan text answer status zero (inr (inl bad)) = absurd (omega (arith, zero, bad.0))
preload_given disk names plan text answer status zero (inr (inr wants)) = absurd (omega (arith, zero, wants.0.status))
