-- Lemmas about how a command ends.
use Rattle.std.proofs.Common.{◌≡◌, ◌≢◌, ◌<◌, ℕ, List, [], length, append-nil, Option, Some, None, Result, Ok, Err, ap, sym, subst, inl, inr, ⊎_elim, ◌∙◌}
use Rattle.std.specs.Prelude.{IfErr, IfOk, MatchResult, is_some}
use Rattle.std.specs.Io.KnownBytes.{Appends}
use Rattle.image.specs.declared.refusal.BindRefusal.TheVariants as bind_refusal
use Rattle.requests.specs.declared.refusal.Refusal.{Refusal}
use Rattle.requests.specs.declared.refusal.Refusal.TheVariants as refusal
use Rattle.requests.specs.declared.reply.Reply.{Reply}
use Rattle.requests.specs.declared.reply.Reply.TheVariants as reply
use Rattle.program_parts.specs.declared.file.FileFault.{FileFault}
use Rattle.program_parts.specs.declared.file.FileFault.TheVariants.{CannotRead, OutOfMemory}
use Rattle.program_parts.specs.declared.status.Status.{Status}
use Rattle.program_parts.specs.declared.status.Status.TheVariants.{Done, Refused, BadWords, Failed, NoMemory}
use Rattle.program_parts.specs.File.{read_limit}
use Rattle.program_parts.specs.Said.{AppendsFront}
use Rattle.program_parts.specs.Status.{reply_status, refusal_status}
use Rattle.commands.specs.RunImage.{Shows}
use Rattle.commands.specs.Status.{status_of}
use Rattle.scripts.specs.declared.fault.ScriptFault.{ScriptFault}
use Rattle.scripts.specs.declared.fault.ScriptFault.TheVariants as fault
use Rattle.commands.specs.declared.show.Shown.{Shown}
use Rattle.commands.specs.declared.show.Shown.TheVariants as shown
use Rattle.commands.specs.inside.Ends.{ImageEnds, IsShown, IsNotRead, IsSaid}

-- if a command showed an image, `IsShown` holds for its end
pub image_shown : (file : List ℕ) (base : ℕ) (before after : Option (List ℕ)) (r : Result Shown ScriptFault) → IfOk r (Shows file base before after)
    → IfErr r (λ why. why ≡ fault.Write) → IsShown file base before after (status_of r)
image_shown file base before after (Ok shown.Image) ok err = ok
image_shown file base before after (Ok shown.Refused) ok err = ok
image_shown file base before after (Ok shown.NoMemory) ok err = ok
image_shown file base before after (Err fault.Read) ok err = tt
image_shown file base before after (Err fault.Write) ok err = tt
image_shown file base before after (Err fault.OutOfMemory) ok err = absurd (cc err)

shown_ends : (file : List ℕ) (base : ℕ) (asked : Option ℕ) (before after : Option (List ℕ)) (status : Status) → asked ≡ Some base
    → length file < read_limit → IsShown file base before after status → ImageEnds asked before after status
shown_ends file base asked before after Done e short h = (base, e, (file, short, h))
shown_ends file base asked before after Refused e short h = (base, e, (file, short, h))
shown_ends file base asked before after BadWords e short h = absurd h
shown_ends file base asked before after Failed e short h = ap is_some e
shown_ends file base asked before after NoMemory e short h = (ap is_some e, h.1)

unread_ends : (fault : FileFault) (base : ℕ) (asked : Option ℕ) (before after : Option (List ℕ)) (status : Status) → asked ≡ Some base
    → IsNotRead fault before after status → ImageEnds asked before after status
unread_ends CannotRead base asked before after Failed e h = ap is_some e
unread_ends CannotRead base asked before after Done e h = let no = h.0 in cc
unread_ends CannotRead base asked before after Refused e h = let no = h.0 in cc
unread_ends CannotRead base asked before after BadWords e h = let no = h.0 in cc
unread_ends CannotRead base asked before after NoMemory e h = let no = h.0 in cc
unread_ends OutOfMemory base asked before after NoMemory e (inl h) = (ap is_some e, h.1)
unread_ends OutOfMemory base asked before after NoMemory e (inr h) = let no = h in cc
unread_ends OutOfMemory base asked before after Failed e h = ap is_some e
unread_ends OutOfMemory base asked before after Done e (inl h) = let no = h.0 in cc
unread_ends OutOfMemory base asked before after Done e (inr h) = let no = h in cc
unread_ends OutOfMemory base asked before after Refused e (inl h) = let no = h.0 in cc
unread_ends OutOfMemory base asked before after Refused e (inr h) = let no = h in cc
unread_ends OutOfMemory base asked before after BadWords e (inl h) = let no = h.0 in cc
unread_ends OutOfMemory base asked before after BadWords e (inr h) = let no = h in cc

-- if a file was read and shown, or couldn't be read, `ImageEnds` holds for the end of the command
pub read_ends : {V : Type 0} (items : V → List ℕ) (read : Result V FileFault) (base : ℕ) (asked : Option ℕ) (before after : Option (List ℕ)) (status : Status)
    → asked ≡ Some base → IfOk read (λ v. length (items v) < read_limit)
    → MatchResult read (λ v. IsShown (items v) base before after status) (λ f. IsNotRead f before after status)
    → ImageEnds asked before after status
read_ends items (Ok v) base asked before after status e short h = shown_ends (items v) base asked before after status e short h
read_ends items (Err f) base asked before after status e short h = unread_ends f base asked before after status e h

-- a stream to which nothing is written holds the same bytes as before
nothing_said : (known : Option (List ℕ)) → Appends known known []
nothing_said None = tt
nothing_said (Some bytes) = sym (append-nil bytes)

pub said_front : (text : List ℕ) (before after errors errors' : Option (List ℕ)) (status : Status) → IsSaid text before after errors errors' status → status ≡ BadWords
    → AppendsFront errors errors' text
said_front text before after errors errors' status (inl same) is = (0, subst (λ k. Appends errors k []) (sym same) (nothing_said errors))
said_front text before after errors errors' status (inr said) is = ⊎_elim (λ front. front.1) (λ failed. absurd (cc (sym is ∙ failed))) said.1

-- the status of a refusal or of a reply isn't that of bad arguments
refusal_answers : (r : Refusal) → refusal_status r ≢ BadWords
refusal_answers refusal.OutOfMemory h = cc
refusal_answers (refusal.Bind bind_refusal.OutOfMemory) h = cc
refusal_answers (refusal.Object e) h = cc
refusal_answers refusal.AlreadyInstalled h = cc
refusal_answers refusal.NotInstalled h = cc
refusal_answers refusal.InPreloads h = cc
refusal_answers refusal.RepeatedPreload h = cc
refusal_answers refusal.TooManyPreloads h = cc
refusal_answers refusal.NoSlot h = cc
refusal_answers refusal.NoSuchBinder h = cc
refusal_answers refusal.Device h = cc
refusal_answers refusal.Reopen h = cc
refusal_answers refusal.Damaged h = cc
refusal_answers refusal.Full h = cc
refusal_answers refusal.Fragmented h = cc
refusal_answers refusal.TooMany h = cc
refusal_answers refusal.GenerationEnd h = cc
refusal_answers (refusal.Bind (bind_refusal.Program e)) h = cc
refusal_answers (refusal.Bind bind_refusal.BadBase) h = cc
refusal_answers (refusal.Bind (bind_refusal.Missing needer name)) h = cc
refusal_answers (refusal.Bind bind_refusal.NoRoom) h = cc
refusal_answers (refusal.Bind (bind_refusal.Undefined object symbol)) h = cc

pub reply_answers : (r : Reply) → reply_status r ≢ BadWords
reply_answers (reply.Refused r) h = refusal_answers r h
reply_answers reply.Done h = cc
reply_answers (reply.Listing listing) h = cc
reply_answers (reply.Bound bound) h = cc
