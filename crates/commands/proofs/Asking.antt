-- Lemmas about how a command of a registry on a disk ends.
use Rattle.std.proofs.Common.{◌≡◌, ℕ, List, Option, Some, Result, Ok, Err, ap, refl, sym, subst, inl, inr}
use Rattle.std.specs.Prelude.{is_some, false, ◌⊎◌, codes, OnOk}
use Rattle.std.specs.Io.KnownBytes.{Appends}
use Rattle.image.specs.declared.refusal.BindRefusal.TheVariants as bind_refusal
use Rattle.requests.specs.Request.{Request}
use Rattle.requests.specs.Request as request
use Rattle.requests.specs.declared.refusal.Refusal.{Refusal}
use Rattle.requests.specs.declared.refusal.Refusal.TheVariants as refusal
use Rattle.requests.specs.declared.reply.Reply.{Reply}
use Rattle.requests.specs.declared.reply.Reply.TheVariants as reply
use Rattle.store.specs.Opened.{Opened}
use Rattle.store.specs.Step.{answer_of}
use Rattle.store.specs.declared.refusal.StoreRefusal.{StoreRefusal}
use Rattle.store.specs.declared.refusal.StoreRefusal.TheVariants as store
use Rattle.file_disk.specs.FileDisk.{file_facts, IsNew}
use Rattle.commands.specs.Disk.{disk_answer_text, IsOpenRefusal, IsFormatRefusal, IsUpgradeRefusal}
use Rattle.program_parts.specs.Refusal.{disk_refusal_text, memory_text}
use Rattle.commands.specs.OnDisk.{RequestEnds, FormatEnds, UpgradeEnds}
use Rattle.commands.specs.Opened.{SystemDisk, IsMade, IsUpgraded}
use Rattle.registry.specs.Opening.{EndsMaking, EndsUpgrading}
use Rattle.program_parts.specs.Told.{IsTold}
use Rattle.program_parts.specs.Reply.{command_refusal_text, reply_text}
use Rattle.commands.specs.Status.{disk_answer_status}
use Rattle.program_parts.specs.Status.{refusal_status, reply_status, disk_status}
use Rattle.program_parts.specs.declared.status.Status.{Status}
use Rattle.program_parts.specs.declared.status.Status.TheVariants.{Done, Refused, BadWords, Failed, NoMemory}
use Rattle.commands.specs.Outcome.{are_bad, Asks, CommandEnds, IsDone, IsRefused, LacksMemory, Replies, TurnsAway}
use Rattle.commands.specs.Script.{Streams}
use Rattle.commands.specs.Words.{CommandLine, install, replace, remove, preload, list}
use Rattle.commands.specs.declared.disk.NoRegistry.{NoRegistry}
use Rattle.commands.specs.declared.disk.NoRegistry.TheVariants as no
use Rattle.program_parts.specs.declared.file.FileFault.{FileFault}
use Rattle.program_parts.specs.declared.file.FileFault.TheVariants.{CannotRead, OutOfMemory}
use Rattle.commands.specs.declared.with_file.WithFile.TheVariants as with
use Rattle.commands.specs.inside.WithFile.{AsksWith}
use Rattle.commands.specs.inside.Ends.{BindEnds, IsFormatted, IsNoRegistry, IsNotRead, IsTurnedAway, IsWritten, Replied, IsUpgradedOver}
use Rattle.commands.proofs.Ending.{reply_answers}

-- a refusal whose status is NoMemory has the line for refused memory
memory_refusal : (r : Refusal) → refusal_status r ≡ NoMemory → command_refusal_text r ≡ memory_text
memory_refusal refusal.OutOfMemory h = refl
memory_refusal (refusal.Bind bind_refusal.OutOfMemory) h = refl
memory_refusal (refusal.Object e) h = cc
memory_refusal refusal.AlreadyInstalled h = cc
memory_refusal refusal.NotInstalled h = cc
memory_refusal refusal.InPreloads h = cc
memory_refusal refusal.RepeatedPreload h = cc
memory_refusal refusal.TooManyPreloads h = cc
memory_refusal refusal.NoSlot h = cc
memory_refusal refusal.NoSuchBinder h = cc
memory_refusal refusal.Device h = cc
memory_refusal refusal.Reopen h = cc
memory_refusal refusal.Damaged h = cc
memory_refusal refusal.Full h = cc
memory_refusal refusal.Fragmented h = cc
memory_refusal refusal.TooMany h = cc
memory_refusal refusal.GenerationEnd h = cc
memory_refusal (refusal.Bind (bind_refusal.Program e)) h = cc
memory_refusal (refusal.Bind bind_refusal.BadBase) h = cc
memory_refusal (refusal.Bind (bind_refusal.Missing needer name)) h = cc
memory_refusal (refusal.Bind bind_refusal.NoRoom) h = cc
memory_refusal (refusal.Bind (bind_refusal.Undefined object symbol)) h = cc

memory_reply : (r : Reply) → reply_status r ≡ NoMemory → reply_text r ≡ memory_text
memory_reply (reply.Refused r) h = memory_refusal r h
memory_reply reply.Done h = cc
memory_reply (reply.Listing listing) h = cc
memory_reply (reply.Bound bound) h = cc

-- the statuses Done, Refused, BadWords and NoMemory differ from Failed
done_fails : Done ≡ Failed → ⊥
done_fails h = cc

refused_fails : Refused ≡ Failed → ⊥
refused_fails h = cc

words_fail : BadWords ≡ Failed → ⊥
words_fail h = cc

memory_fails : NoMemory ≡ Failed → ⊥
memory_fails h = cc

-- the status of a disk's refusal is neither Done nor that of bad arguments; if it is NoMemory, the line
-- is the one for refused memory
disk_done : (r : StoreRefusal) → disk_status r ≡ Done → ⊥
disk_done store.Device h = cc
disk_done store.Reopen h = cc
disk_done store.NotFormatted h = cc
disk_done store.AlreadyFormatted h = cc
disk_done store.Damaged h = cc
disk_done store.BadGeometry h = cc
disk_done store.Full h = cc
disk_done store.Fragmented h = cc
disk_done store.TooMany h = cc
disk_done store.GenerationEnd h = cc
disk_done store.OutOfMemory h = cc
disk_done store.OldFormat h = cc

disk_words : (r : StoreRefusal) → disk_status r ≡ BadWords → ⊥
disk_words store.Device h = cc
disk_words store.Reopen h = cc
disk_words store.NotFormatted h = cc
disk_words store.AlreadyFormatted h = cc
disk_words store.Damaged h = cc
disk_words store.BadGeometry h = cc
disk_words store.Full h = cc
disk_words store.Fragmented h = cc
disk_words store.TooMany h = cc
disk_words store.GenerationEnd h = cc
disk_words store.OutOfMemory h = cc
disk_words store.OldFormat h = cc

disk_memory : (r : StoreRefusal) → disk_status r ≡ NoMemory → disk_refusal_text r ≡ memory_text
disk_memory store.Device h = cc
disk_memory store.Reopen h = cc
disk_memory store.NotFormatted h = cc
disk_memory store.AlreadyFormatted h = cc
disk_memory store.Damaged h = cc
disk_memory store.BadGeometry h = cc
disk_memory store.Full h = cc
disk_memory store.Fragmented h = cc
disk_memory store.TooMany h = cc
disk_memory store.GenerationEnd h = cc
disk_memory store.OutOfMemory h = refl
disk_memory store.OldFormat h = cc

-- the statuses Refused, BadWords and NoMemory differ from Done
done_refuses : Refused ≡ Done → ⊥
done_refuses h = cc

done_words : BadWords ≡ Done → ⊥
done_words h = cc

done_memory : NoMemory ≡ Done → ⊥
done_memory h = cc

module _ (before after : Option (List ℕ)) where
  -- if the line of a disk's refusal was written, `IsTurnedAway` holds for the end of the command
  pub told_away : (May : StoreRefusal → Type 0) (r : StoreRefusal) (status : Status) → May r → IsTold (disk_status r) (disk_refusal_text r) before after status → IsTurnedAway May before after status
  told_away May r Done may (inl h) = absurd (disk_done r (sym h.0))
  told_away May r Done may (inr h) = absurd (done_fails h)
  told_away May r Refused may (inl h) = (r, may, sym h.0, h.1)
  told_away May r Refused may (inr h) = absurd (refused_fails h)
  told_away May r BadWords may (inl h) = absurd (disk_words r (sym h.0))
  told_away May r BadWords may (inr h) = absurd (words_fail h)
  told_away May r Failed may h = tt
  told_away May r NoMemory may (inl h) = subst (Appends before after) (disk_memory r (sym h.0)) h.1
  told_away May r NoMemory may (inr h) = absurd (memory_fails h)

  -- if a reply was written, or the output failed, `Replied` holds for the end of the command
  written_as : (q : Request) (r : Reply) (made : (t : Status) → reply_status r ≡ t → Appends before after (reply_text r) → Replies (λ asked. asked ≡ q) t before after)
      → (status : Status) → IsWritten r before after status → Replied (λ asked. asked ≡ q) before after status
  written_as q r made Done (inl h) = made Done (sym h.0) h.1
  written_as q r made Done (inr h) = absurd (done_fails h)
  written_as q r made Refused (inl h) = inl (made Refused (sym h.0) h.1)
  written_as q r made Refused (inr h) = absurd (refused_fails h)
  written_as q r made BadWords (inl h) = absurd (reply_answers r (sym h.0))
  written_as q r made BadWords (inr h) = absurd (words_fail h)
  written_as q r made Failed h = tt
  written_as q r made NoMemory (inl h) = subst (Appends before after) (memory_reply r (sym h.0)) h.1
  written_as q r made NoMemory (inr h) = absurd (memory_fails h)

  -- if the disk was refused, `Replied` holds for the end of the command
  away_told : (IsAsked : Request → Type 0) (status : Status) → IsTurnedAway IsOpenRefusal before after status → Replied IsAsked before after status
  away_told IsAsked Done h = absurd h
  away_told IsAsked Refused h = inr h
  away_told IsAsked BadWords h = absurd h
  away_told IsAsked Failed h = tt
  away_told IsAsked NoMemory h = h

  -- if a request over a new disk has ended, `Replied` holds for the end of the command
  pub request_replied : (disk left : SystemDisk) (q : Request) (status : Status) → IsNew disk
      → RequestEnds file_facts disk q before after status left → Replied (λ asked. asked ≡ q) before after status
  request_replied disk left q status new (inl h) =
      written_as q h.0
      (λ t e w. record {
        asked = q;
        is_asked = refl;
        disk = disk;
        new = new;
        reply = h.0;
        left = left;
        answered = h.1;
        ends = e;
        written = w;
      })
      status h.2
  request_replied disk left q status new (inr h) =
      away_told (λ asked. asked ≡ q) status (told_away IsOpenRefusal h.0 status ((file_facts disk).sectors, h.1.on_any_disk.ends.refusals) h.2)

  -- if a registry was made, and `ok` was written, `IsFormatted` holds for the end of the command
  pub made_told : (n : ℕ) (disk : SystemDisk) (registry : Opened SystemDisk) (status : Status) → IsMade n disk registry
      → IsTold Done (codes "ok\n") before after status → IsFormatted n before after status
  made_told n disk registry Done made (inl h) = record { disk = disk; new = registry; made = made; written = h.1 }
  made_told n disk registry Done made (inr h) = absurd (done_fails h)
  made_told n disk registry Refused made (inl h) = absurd (done_refuses h.0)
  made_told n disk registry Refused made (inr h) = absurd (refused_fails h)
  made_told n disk registry BadWords made (inl h) = absurd (done_words h.0)
  made_told n disk registry BadWords made (inr h) = absurd (words_fail h)
  made_told n disk registry Failed made h = tt
  made_told n disk registry NoMemory made (inl h) = absurd (done_memory h.0)
  made_told n disk registry NoMemory made (inr h) = absurd (memory_fails h)

  -- if an upgrade of a new disk has ended, `IsUpgradedOver` holds for the end of the command
  ends_upgraded : (disk : SystemDisk) (registry : Opened SystemDisk) (status : Status) → IsUpgraded disk registry
      → IsTold Done (codes "ok\n") before after status → IsUpgradedOver before after status
  ends_upgraded disk registry Done is (inl h) = record { disk = disk; new = registry; upgraded = is; written = h.1 }
  ends_upgraded disk registry Done is (inr h) = absurd (done_fails h)
  ends_upgraded disk registry Refused is (inl h) = absurd (done_refuses h.0)
  ends_upgraded disk registry Refused is (inr h) = absurd (refused_fails h)
  ends_upgraded disk registry BadWords is (inl h) = absurd (done_words h.0)
  ends_upgraded disk registry BadWords is (inr h) = absurd (words_fail h)
  ends_upgraded disk registry Failed is h = tt
  ends_upgraded disk registry NoMemory is (inl h) = absurd (done_memory h.0)
  ends_upgraded disk registry NoMemory is (inr h) = absurd (memory_fails h)

  ends_not_upgraded : (status : Status) → IsTurnedAway IsUpgradeRefusal before after status → IsUpgradedOver before after status
  ends_not_upgraded Done h = absurd h
  ends_not_upgraded Refused h = h
  ends_not_upgraded BadWords h = absurd h
  ends_not_upgraded Failed h = tt
  ends_not_upgraded NoMemory h = h

  ends_upgrading : (disk : SystemDisk) (upgrading : Result (Opened SystemDisk) (StoreRefusal × SystemDisk)) (status : Status) → IsNew disk → EndsUpgrading file_facts disk upgrading
      → IsTold (disk_answer_status (answer_of upgrading)) (disk_answer_text (answer_of upgrading)) before after status → IsUpgradedOver before after status
  ends_upgrading disk (Ok registry) status new is h = ends_upgraded disk registry status (record { new = new; upgrading = is }) h
  ends_upgrading disk (Err e) status new is h = ends_not_upgraded status (told_away IsUpgradeRefusal e.0 status ((file_facts disk).sectors, is.on_any_disk.refusals) h)

  pub upgrade_told : (disk left : SystemDisk) (status : Status) → IsNew disk → UpgradeEnds file_facts disk before after status left → IsUpgradedOver before after status
  upgrade_told disk left status new h = ends_upgrading disk h.0 status new h.1 h.3

  -- if the registry can't be opened, `Replied` holds for the end of the command
  pub away_replied : (IsAsked : Request → Type 0) (why : NoRegistry) (status : Status) → IsNoRegistry IsOpenRefusal why → IsTurnedAway (λ r. why ≡ no.Refused r) before after status
      → Replied IsAsked before after status
  away_replied IsAsked why Done is h = absurd h
  away_replied IsAsked why Refused is h = inr (h.0, subst (IsNoRegistry IsOpenRefusal) h.1 is, h.2, h.3)
  away_replied IsAsked why BadWords is h = absurd h
  away_replied IsAsked why Failed is h = tt
  away_replied IsAsked why NoMemory is h = h

  -- if A implies B, a reply to a request for which A holds is a reply to one for which B holds
  also : (A B : Request → Type 0) → ((q : Request) → A q → B q) → (status : Status) → Replies A status before after → Replies B status before after
  also A B other status h = record {
    asked = h.asked;
    is_asked = other h.asked h.is_asked;
    disk = h.disk;
    new = h.new;
    reply = h.reply;
    left = h.left;
    answered = h.answered;
    ends = h.ends;
    written = h.written;
  }

  pub replied_also : (A B : Request → Type 0) → ((q : Request) → A q → B q) → (status : Status) → Replied A before after status → Replied B before after status
  replied_also A B other Done h = also A B other Done h
  replied_also A B other Refused (inl h) = inl (also A B other Refused h)
  replied_also A B other Refused (inr h) = inr h
  replied_also A B other BadWords h = absurd h
  replied_also A B other Failed h = tt
  replied_also A B other NoMemory h = h

  -- if `IsAsked` holds for a request, a reply to this request is a reply to one for which `IsAsked`
  -- holds
  pub replied_as : (IsAsked : Request → Type 0) (q : Request) (status : Status) → IsAsked q → Replied (λ asked. asked ≡ q) before after status → Replied IsAsked before after status
  replied_as IsAsked q status is h = replied_also (λ asked. asked ≡ q) IsAsked (λ asked e. subst IsAsked (sym e) is) status h

  -- if a file can't be read, or memory is refused, `Replied` holds for the end of the command
  pub memory_replied : (IsAsked : Request → Type 0) (status : Status) → IsTold NoMemory memory_text before after status → Replied IsAsked before after status
  memory_replied IsAsked status h = away_told IsAsked status (told_away IsOpenRefusal store.OutOfMemory status (8, refl) h)

  failed_replied : (IsAsked : Request → Type 0) (status : Status) → status ≡ Failed → Replied IsAsked before after status
  failed_replied IsAsked Failed h = tt
  failed_replied IsAsked Done h = absurd (done_fails h)
  failed_replied IsAsked Refused h = absurd (refused_fails h)
  failed_replied IsAsked BadWords h = absurd (words_fail h)
  failed_replied IsAsked NoMemory h = absurd (memory_fails h)

  pub unread_replied : (IsAsked : Request → Type 0) (fault : FileFault) (status : Status) → IsNotRead fault before after status → Replied IsAsked before after status
  unread_replied IsAsked CannotRead status h = failed_replied IsAsked status h.0
  unread_replied IsAsked OutOfMemory status h = memory_replied IsAsked status h

  -- if a registry can't be made, `IsFormatted` holds for the end of the command
  pub away_formatted : (n : ℕ) (why : NoRegistry) (status : Status) → IsNoRegistry IsFormatRefusal why
      → IsTurnedAway (λ r. why ≡ no.Refused r) before after status → IsFormatted n before after status
  away_formatted n why Done is h = absurd h
  away_formatted n why Refused is h = (h.0, subst (IsNoRegistry IsFormatRefusal) h.1 is, h.2, h.3)
  away_formatted n why BadWords is h = absurd h
  away_formatted n why Failed is h = tt
  away_formatted n why NoMemory is h = h

  -- if a registry can't be upgraded, `IsUpgradedOver` holds for the end of the command
  pub away_upgraded : (why : NoRegistry) (status : Status) → IsNoRegistry IsUpgradeRefusal why → IsTurnedAway (λ r. why ≡ no.Refused r) before after status → IsUpgradedOver before after status
  away_upgraded why Done is h = absurd h
  away_upgraded why Refused is h = (h.0, subst (IsNoRegistry IsUpgradeRefusal) h.1 is, h.2, h.3)
  away_upgraded why BadWords is h = absurd h
  away_upgraded why Failed is h = tt
  away_upgraded why NoMemory is h = h

  -- if the base of a bind could be read, `BindEnds` holds for the end of the command
  pub bind_ends : (at : ℕ) (asked : Option ℕ) (IsAsked : Request → Type 0) (status : Status) → asked ≡ Some at → Replied IsAsked before after status → BindEnds asked IsAsked before after status
  bind_ends at asked IsAsked Done e h = (ap is_some e, h)
  bind_ends at asked IsAsked Refused e h = (ap is_some e, h)
  bind_ends at asked IsAsked BadWords e h = absurd h
  bind_ends at asked IsAsked Failed e h = (ap is_some e, h)
  bind_ends at asked IsAsked NoMemory e h = (ap is_some e, h)

module _ (io : Streams) where
  -- if a command's request is the one of its arguments, `CommandEnds` holds for the end of the command
  ends_as : (line : CommandLine) → are_bad (Some line) ≡ false → (Replies (Asks line) Done io.before io.after → IsDone (Some line) io)
      → (Replies (Asks line) Refused io.before io.after ⊎ TurnsAway IsOpenRefusal Refused io.before io.after → IsRefused (Some line) io)
      → (Appends io.before io.after memory_text → LacksMemory (Some line) io) → (status : Status) → Replied (Asks line) io.before io.after status → CommandEnds (Some line) io status
  ends_as line good done refused lacks Done h = (good, done h)
  ends_as line good done refused lacks Refused h = (good, refused h)
  ends_as line good done refused lacks BadWords h = absurd h
  ends_as line good done refused lacks Failed h = good
  ends_as line good done refused lacks NoMemory h = (good, lacks h)

  pub install_ends : (disk file : List ℕ) (status : Status) → Replied (AsksWith with.Install) io.before io.after status → CommandEnds (Some (install disk file)) io status
  install_ends disk file status h = ends_as (install disk file) refl (λ k. k) (λ k. k) (λ k. k) status h

  pub replace_ends : (disk file : List ℕ) (status : Status) → Replied (AsksWith with.Replace) io.before io.after status → CommandEnds (Some (replace disk file)) io status
  replace_ends disk file status h = ends_as (replace disk file) refl (λ k. k) (λ k. k) (λ k. k) status h

  pub remove_ends : (disk name : List ℕ) (status : Status) → Replied (λ asked. asked ≡ request.remove name) io.before io.after status → CommandEnds (Some (remove disk name)) io status
  remove_ends disk name status h = ends_as (remove disk name) refl (λ k. k) (λ k. k) (λ k. k) status h

  pub preload_ends : (disk : List ℕ) (names : List (List ℕ)) (status : Status) → Replied (Asks (preload disk names)) io.before io.after status → CommandEnds (Some (preload disk names)) io status
  preload_ends disk names status h = ends_as (preload disk names) refl (λ k. k) (λ k. k) (λ k. k) status h

  pub list_ends : (disk : List ℕ) (status : Status) → Replied (λ asked. asked ≡ request.list) io.before io.after status → CommandEnds (Some (list disk)) io status
  list_ends disk status h = ends_as (list disk) refl (λ k. k) (λ k. k) (λ k. k) status h

-- the rules for commands whose arguments are only paths
pub ruleset commands_end = (install_ends, replace_ends, list_ends)

module _ (n : ℕ) (disk : SystemDisk) where
  made_as : (making : Result (Opened SystemDisk) (StoreRefusal × SystemDisk)) → IsNew disk → (file_facts disk).sectors ≡ n → EndsMaking file_facts disk making
      → OnOk (answer_of making) ((d : SystemDisk) × (registry : Opened SystemDisk) × IsMade n d registry)
  made_as (Ok registry) new sectors is = (disk, registry, record { new = new; sectors = sectors; making = is })
  made_as (Err e) new sectors is = tt

  -- if the answer to making a registry on a new disk of n sectors is Ok, a registry was made
  pub format_made : (answer : Result (Unit {0}) StoreRefusal) (left : SystemDisk) → IsNew disk → (file_facts disk).sectors ≡ n → FormatEnds file_facts disk answer left
      → OnOk answer ((d : SystemDisk) × (registry : Opened SystemDisk) × IsMade n d registry)
  format_made answer left new sectors h =
      subst (λ (a : Result (Unit {0}) StoreRefusal). OnOk a ((d : SystemDisk) × (registry : Opened SystemDisk) × IsMade n d registry)) (sym h.2) (made_as h.0 new sectors h.1)
