-- No call over bytes returns S1 (Device).
use Rattle.std.proofs.Common.{◌≡◌, ◌≢◌, inl, inr, ℕ, List, Option, Some, None, refl, sym, ◌∙◌, arith}
use Rattle.byte_disk.specs.declared.step.Step.{Step}
use Rattle.executable.specs.declared.refusal.ExecutableRefusal.{ExecutableRefusal}
use Rattle.executable.specs.declared.refusal.ExecutableRefusal.TheVariants as executable
use Rattle.image.specs.declared.refusal.BindRefusal.{BindRefusal}
use Rattle.image.specs.declared.refusal.BindRefusal.TheVariants as bind
use Rattle.states.specs.State.{State}
use Rattle.store.specs.declared.refusal.StoreRefusal.{StoreRefusal}
use Rattle.store.specs.declared.refusal.StoreRefusal.TheVariants as store
use Rattle.requests.specs.Binding.{binding_refusal}
use Rattle.requests.specs.Request.{Request, set_preloads}
use Rattle.requests.specs.declared.refusal.Refusal.{Refusal}
use Rattle.requests.specs.declared.refusal.Refusal.TheVariants as refusal
use Rattle.requests.specs.declared.reply.Reply.{Reply}
use Rattle.requests.specs.declared.reply.Reply.TheVariants as reply
use Rattle.c_answers.specs.declared.answer.Answer.{Answer}
use Rattle.c_answers.specs.declared.entry.EntryPlace.{EntryPlace}
use Rattle.c_answers.specs.declared.finding.FindingPlace.{FindingPlace}
use Rattle.c_answers.specs.declared.information.Information.{Information}
use Rattle.c_answers.specs.declared.object.ObjectPlace.{ObjectPlace}
use Rattle.c_answers.specs.declared.place.SegmentPlace.{SegmentPlace}
use Rattle.c_answers.specs.Answers.{IsTold, IsTurnedAway, IsPlanned, IsChangeTold, IsChangeAnswered, IsFormatAnswered, IsUpgradeAnswered}
use Rattle.c_answers.specs.Answers.{IsBindTold, IsBindAnswered, IsListTold, IsListAnswered, IsPreloadAnswered}
use Rattle.c_answers.specs.Bindings.{IsBindingsAnswered, bound_number}
use Rattle.c_answers.specs.Check.{IsCheckAnswered}
use Rattle.c_answers.specs.Contents.{refusal_of, IsDigestAnswered, IsFileAnswered, IsInfoAnswered}
use Rattle.c_answers.specs.Executable.{IsBoundTold, IsExecutableAnswered, executable_number}
use Rattle.c_answers.specs.Numbers.{store_number, bind_number, refusal_number, reply_number}

-- no refusal other than S1 has the number 301
store_not_device : (why : StoreRefusal) → why ≢ store.Device → store_number why ≡ 301 → ⊥
store_not_device store.Device other e = other refl
store_not_device why other e = omega (arith, e)

bound_not_device : (why : BindRefusal) → bind_number why ≡ 301 → ⊥
bound_not_device bind.BadBase e = omega (arith, e)
bound_not_device why e = omega (arith, e)

bound_number_not_device : (r : Option BindRefusal) → bound_number r ≡ 301 → ⊥
bound_number_not_device None e = omega (arith, e)
bound_number_not_device (Some why) e = bound_not_device why e

no_file_not_device : (why : ExecutableRefusal) → executable_number why ≡ 301 → ⊥
no_file_not_device executable.NoEntry e = omega (arith, e)
no_file_not_device why e = omega (arith, e)

refusal_not_device : (why : Refusal) → reply.Refused why ≢ reply.Refused refusal.Device → refusal_number why ≡ 301 → ⊥
refusal_not_device refusal.Device other e = other refl
refusal_not_device (refusal.Bind why) other e = bound_not_device why e
refusal_not_device why other e = omega (arith, e)

reply_not_device : (r : Reply) → r ≢ reply.Refused refusal.Device → reply_number r ≡ 301 → ⊥
reply_not_device (reply.Refused why) other e = refusal_not_device why other e
reply_not_device r other e = omega (arith, e)

-- A reported reply, a reason why there is no registry, and a reported plan don't have the number 301.
module _ (text : List ℕ) (answer : Answer) (status : ℕ) (is : status ≡ 301) where
  pub told : (r : Reply) → IsTold r text answer status → ⊥
  told r (inl tells) = reply_not_device r tells.device (sym tells.status ∙ is)
  told r (inr wants) = omega (arith, is, wants.status)

  pub turned : (why : StoreRefusal) → IsTurnedAway why text answer status → ⊥
  turned why (inl turns, uncounted) = store_not_device why turns.device (sym turns.status ∙ is)
  turned why (inr wants, uncounted) = omega (arith, is, wants.status)

  pub planned : (steps : List Step) (plan : List ℕ) → IsPlanned steps plan text answer status → ⊥
  planned steps plan (inl given, unlisted, unbound) = told reply.Done given.1
  planned steps plan (inr lacks, unlisted, unbound) = omega (arith, is, lacks.0.status)

  change_told : (r : Reply) (steps : List Step) (plan : List ℕ) → IsChangeTold r steps plan text answer status → ⊥
  change_told reply.Done steps plan said = planned steps plan said
  change_told (reply.Listing l) steps plan said = told (reply.Listing l) said.0
  change_told (reply.Bound image) steps plan said = told (reply.Bound image) said.0
  change_told (reply.Refused why) steps plan said = told (reply.Refused why) said.0

  pub change_not_device : (disk : List ℕ) (request : Request) (plan : List ℕ) → IsChangeAnswered disk request plan text answer status → ⊥
  change_not_device disk request plan (inl asked) = change_told asked.1 asked.2 plan asked.4
  change_not_device disk request plan (inr unopened) = turned unopened.0 unopened.2

  pub preload_not_device : (disk names plan : List ℕ) → IsPreloadAnswered disk names plan text answer status → ⊥
  preload_not_device disk names plan (inl asked) = change_not_device disk (set_preloads asked.0) plan asked.2
  preload_not_device disk names plan (inr (inl bad)) = omega (arith, is, bad.0)
  preload_not_device disk names plan (inr (inr wants)) = omega (arith, is, wants.0.status)

  pub format_not_device : (disk plan : List ℕ) → IsFormatAnswered disk plan text answer status → ⊥
  format_not_device disk plan (inl made) = planned made.0 plan made.2
  format_not_device disk plan (inr refused) = turned refused.0 refused.2

  pub upgrade_not_device : (disk plan : List ℕ) → IsUpgradeAnswered disk plan text answer status → ⊥
  upgrade_not_device disk plan (inl made) = planned made.1 plan made.3
  upgrade_not_device disk plan (inr refused) = turned refused.0 refused.2

  bind_told : (r : Reply) (objects : List ObjectPlace) (segments : List SegmentPlace) (bytes : List ℕ) → IsBindTold r objects segments bytes text answer status → ⊥
  bind_told reply.Done objects segments bytes said = told reply.Done said.0
  bind_told (reply.Listing l) objects segments bytes said = told (reply.Listing l) said.0
  bind_told (reply.Bound image) objects segments bytes (inl given, counts, unlisted, silent) = omega (arith, is, given.0)
  bind_told (reply.Bound image) objects segments bytes (inr lacks, counts, unlisted, silent) = omega (arith, is, lacks.0)
  bind_told (reply.Refused why) objects segments bytes said = told (reply.Refused why) said.0

  pub bind_not_device : (disk : List ℕ) (request : Request) (objects : List ObjectPlace) (segments : List SegmentPlace) (bytes : List ℕ)
      → IsBindAnswered disk request objects segments bytes text answer status → ⊥
  bind_not_device disk request objects segments bytes (inl asked) = bind_told asked.1 objects segments bytes asked.4
  bind_not_device disk request objects segments bytes (inr unopened) = turned unopened.0 unopened.2

  list_told : (s : State) (r : Reply) (entries : List EntryPlace) (names : List ℕ) → IsListTold s r entries names text answer status → ⊥
  list_told s reply.Done entries names said = told reply.Done said.0
  list_told s (reply.Listing l) entries names ((counts, inl given), generation) = told (reply.Listing l) given.1
  list_told s (reply.Listing l) entries names ((counts, inr lacks), generation) = omega (arith, is, lacks.0)
  list_told s (reply.Bound image) entries names said = told (reply.Bound image) said.0
  list_told s (reply.Refused why) entries names said = told (reply.Refused why) said.0

  pub list_not_device : (disk : List ℕ) (entries : List EntryPlace) (names : List ℕ) → IsListAnswered disk entries names text answer status → ⊥
  list_not_device disk entries names (inl asked) = list_told asked.0 asked.1 entries names asked.4
  list_not_device disk entries names (inr unopened) = turned unopened.0 unopened.2

  pub file_not_device : (disk name bytes : List ℕ) → IsFileAnswered disk name bytes text answer status → ⊥
  file_not_device disk name bytes (inl (s, holds, inl (file, has, (inl given, size, count, unlisted, unbound, silent)))) = omega (arith, is, given.0)
  file_not_device disk name bytes (inl (s, holds, inl (file, has, (inr small, size, count, unlisted, unbound, silent)))) = omega (arith, is, small.0)
  file_not_device disk name bytes (inl (s, holds, inr (why, unread, said))) = told (reply.Refused (refusal_of why)) said.0
  file_not_device disk name bytes (inr refused) = turned refused.0 refused.2

  pub digest_not_device : (disk name digest : List ℕ) → IsDigestAnswered disk name digest text answer status → ⊥
  digest_not_device disk name digest (inl (s, holds, inl (file, has, same, done, uncounted, silent))) = omega (arith, is, done)
  digest_not_device disk name digest (inl (s, holds, inr (why, unread, said))) = told (reply.Refused (refusal_of why)) said.0
  digest_not_device disk name digest (inr refused) = turned refused.0 refused.2

  pub info_not_device : (disk : List ℕ) (information : Information) → IsInfoAnswered disk information text answer status → ⊥
  info_not_device disk information (inl said) = omega (arith, is, said.0)
  info_not_device disk information (inr refused) = turned refused.0 refused.2

  pub check_not_device : (disk : List ℕ) (findings : List FindingPlace) (names : List ℕ) → IsCheckAnswered disk findings names text answer status → ⊥
  check_not_device disk findings names (inl (s, holds, inl (inl given, count, unlisted, unbound, silent))) = omega (arith, is, given.0)
  check_not_device disk findings names (inl (s, holds, inl (inr lacks, count, unlisted, unbound, silent))) = omega (arith, is, lacks.0)
  check_not_device disk findings names (inl (s, holds, inr (wants, uncounted))) = omega (arith, is, wants.status)
  check_not_device disk findings names (inr refused) = turned refused.0 refused.2

  pub bindings_not_device : (disk program : List ℕ) (base : ℕ) (bytes : List ℕ) → IsBindingsAnswered disk program base bytes text answer status → ⊥
  bindings_not_device disk program base bytes (inl (s, holds, only, inl (number, said, of, (inl put, size, count, unlisted, unbound, silent)))) =
      bound_number_not_device (binding_refusal s program base) (sym of.number_is ∙ sym put.0 ∙ is)
  bindings_not_device disk program base bytes (inl (s, holds, only, inl (number, said, of, (inr small, size, count, unlisted, unbound, silent)))) = omega (arith, is, small.0)
  bindings_not_device disk program base bytes (inl (s, holds, only, inr (why, untold, said))) = told (reply.Refused why) said.0
  bindings_not_device disk program base bytes (inr refused) = turned refused.0 refused.2

  bound_told : (r : Reply) (bytes : List ℕ) → IsBoundTold r bytes text answer status → ⊥
  bound_told reply.Done bytes said = told reply.Done said.0
  bound_told (reply.Listing l) bytes said = told (reply.Listing l) said.0
  bound_told (reply.Bound image) bytes (inl (file, of, (inl put, size, count, unlisted, unbound, silent))) = omega (arith, is, put.0)
  bound_told (reply.Bound image) bytes (inl (file, of, (inr small, size, count, unlisted, unbound, silent))) = omega (arith, is, small.0)
  bound_told (reply.Bound image) bytes (inr (why, of, (inl tells, uncounted))) = no_file_not_device why (sym tells.status ∙ is)
  bound_told (reply.Bound image) bytes (inr (why, of, (inr wants, uncounted))) = omega (arith, is, wants.status)
  bound_told (reply.Refused why) bytes said = told (reply.Refused why) said.0

  pub executable_not_device : (disk : List ℕ) (request : Request) (bytes : List ℕ) → IsExecutableAnswered disk request bytes text answer status → ⊥
  executable_not_device disk request bytes (inl asked) = bound_told asked.1 bytes asked.4
  executable_not_device disk request bytes (inr unopened) = turned unopened.0 unopened.2
