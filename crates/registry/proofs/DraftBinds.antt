-- Lemmas about a bind that reads the files of a draft.
use Rattle.std.proofs.Common.{◌≡◌, inl, ℕ, List, length, get_or, map, sum_by, Result, Ok, Err, refl, sym, ap, subst, ◌∙◌, ⊎_elim}
use Rattle.std.specs.Prelude.{All, IfErr}
use Rattle.std.specs.Global.{Vec}
use Rattle.std.specs.Int.{div_ceil}
use Rattle.sector_disk.specs.Disk.{AreCallsAtMost, AreCallsExactly, DiskFacts, Mixture, Sector, sector_bytes}
use Rattle.sector_disk.proofs.Moments.{weaken}
use Rattle.roots.specs.declared.version.Version.TheVariants.{Two}
use Rattle.states.specs.State.{Library, State}
use Rattle.store.specs.Draft.{Drafted, IsDraftedAt, ReadsDraft, StaysBeside, listing}
use Rattle.store.specs.Opened.{Opened}
use Rattle.store.specs.Reads.{ReadsBlob}
use Rattle.store.specs.Stands.{HaveOwnNames, Stands, library_of}
use Rattle.store.specs.declared.refusal.StoreRefusal.{StoreRefusal}
use Rattle.store.proofs.DraftReads.{preloads_drafted}
use Rattle.store.proofs.IsReadLemmas.{read_more, read_none, read_one}
use Rattle.store.proofs.UsedAlone.{no_entry}
use Rattle.requests.specs.Library.{IsLibrary}
use Rattle.requests.specs.Request.{bind}
use Rattle.requests.specs.Step.{Leads}
use Rattle.requests.specs.declared.reply.Reply.{Reply}
use Rattle.registry.specs.Binding.{data_sectors}
use Rattle.registry.specs.Drafting.{AppliesDraft, DraftStep, draft_phase}
use Rattle.registry.specs.declared.needs.Needs.{Needs}
use Rattle.registry.specs.inside.Drafting.{IsDraftReadRefusal, ReadsBeside}
use Rattle.registry.specs.inside.Reading.{IsReadRefusal}
use Rattle.registry.specs.inside.Source.{AreNamesOf}
use Rattle.registry.specs.inside.Walked.{IsAmong, IsWalked}
use Rattle.registry.proofs.Files.{refused_more}
use Rattle.registry.proofs.Keeping.{keeps_held_read}
use Rattle.registry.proofs.Planning.{draft_same}
use Rattle.registry.proofs.StateNames.{names_of_entries, numbers_of}

-- a refusal of reading a byte string is a refusal of a read
pub blob_refusal : {D : Type 0} {facts : D → DiskFacts} {old new : Opened D} {position : ℕ} (result : Result (Vec ℕ) StoreRefusal) → ReadsBlob Two facts old new position result
    → IfErr result (IsReadRefusal facts old new)
blob_refusal (Ok bytes) read = tt
blob_refusal {facts = facts} {old = old} {new = new} (Err refusal) read = ⊎_elim
    (λ device. subst (IsReadRefusal facts old new) (sym device) (read.device device))
    (λ other. ⊎_elim
    (λ reopen. subst (IsReadRefusal facts old new) (sym reopen) (read.reopen.0 (ap Err reopen)))
    (λ memory. subst (IsReadRefusal facts old new) (sym memory) tt)
    other)
    read.refusals

module _ {D : Type 0} {facts : D → DiskFacts} where
  -- if nothing is read, the draft's files count as read
  pub reads_none : (u : Drafted D) → ReadsBeside facts u u
  reads_none u = record { read = read_none (listing u); same = λ s d at. at; stands = refl; draft = draft_same facts u }

  -- reading one byte string is a read of the draft's files
  pub reads_one : {old new : Drafted D} {position : ℕ} {result : Result (Vec ℕ) StoreRefusal} → ReadsDraft facts old new position result → ReadsBeside facts old new
  reads_one reads = record { read = read_one reads.read; same = reads.same; stands = reads.stands; draft = reads.draft }

  -- reading one byte string makes at most one call for each of its sectors
  pub one_most : {old new : Drafted D} {position : ℕ} {result : Result (Vec ℕ) StoreRefusal} → ReadsDraft facts old new position result → (size : ℕ)
      → (get_or old.entries position no_entry).entry.file_length ≡ size → AreCallsAtMost (div_ceil size sector_bytes) (facts old.store.disk) (facts new.store.disk)
  one_most {old = old} {new = new} reads size is = subst (λ n. AreCallsAtMost (div_ceil n sector_bytes) (facts old.store.disk) (facts new.store.disk)) is (reads.read.calls no_entry)

  -- two reads of the draft's files, one after the other, are one read of its files
  pub reads_more : {start mid new : Drafted D} → ReadsBeside facts start mid → ReadsBeside facts mid new → ReadsBeside facts start new
  reads_more first second = record {
    read = read_more first.read second.read;
    same = λ s d at. second.same s d (first.same s d at);
    stands = second.stands ∙ first.stands;
    draft = record {
      entries = second.draft.entries ∙ first.draft.entries;
      preloads = second.draft.preloads ∙ first.draft.preloads;
      touched = second.draft.touched ∙ first.draft.touched;
    };
  }

  -- a read leaves the current state and the held byte strings unchanged
  pub reads_beside : {old new : Drafted D} → ReadsBeside facts old new → StaysBeside facts old new
  reads_beside {old = old} {new = new} reads = record {
    any_moment = λ s at. weaken (Mixture (facts old.store.disk)) (λ m. Stands m s) (λ m mixture. (old.store.root, old.store.entries, at.stands m mixture)) (reads.read.leaves at.honest);
    root = reads.read.root;
    entries = reads.stands;
    table = reads.read.held;
    held = keeps_held_read facts (listing old) (listing new) reads.read;
  }

  -- a read leaves the draft's phase in the same state
  pub reads_lead : {old new : Drafted D} {d : State} → ReadsBeside facts old new → Leads (draft_phase facts old d) d (draft_phase facts new d)
  reads_lead reads = record { sectors = reads.read.calls.sectors; failed = reads.read.failed; state = refl }

  -- a bind that only reads is applied to the draft
  pub draft_bound : {old new : Drafted D} {s d : State} → ReadsBeside facts old new → IsDraftedAt facts old s d → (program : List ℕ) (base : ℕ) (answer : Reply)
      → DraftStep (draft_phase facts old d) (bind program base) answer (draft_phase facts new d) → AppliesDraft facts old new s d (bind program base) answer
  draft_bound {s = s} {d = d} reads at program base answer step = (
    d,
    record { step = step; any_moment = (reads_beside reads).any_moment s at.stands; kept = inl (reads.same s d at) },
  )

  -- the names and preloads of a draft's entries are those of its state
  pub draft_names : {u : Drafted D} {s d : State} → IsDraftedAt facts u s d → HaveOwnNames u.entries → AreNamesOf d u.entries (u.entries ≡ u.entries) u.preloads
  draft_names {u = u} {d = d} at own =
      let now : List Sector = (facts u.store.disk).now in
      let libraries : d.libraries ≡ map (library_of now) u.entries = ap (λ (t : State). t.libraries) at.is in
      record {
        has = refl;
        own = own;
        names = names_of_entries now u.entries d libraries;
        preloads = λ inside. numbers_of now u.entries d libraries u.preloads (preloads_drafted facts at) own inside;
      }

-- the refusal of a later read is a refusal of all reads together
pub reads_refused : {D : Type 0} {facts : D → DiskFacts} {start mid : Drafted D} (new : Drafted D) (e : StoreRefusal) → ReadsBeside facts start mid → IsDraftReadRefusal facts mid new e → IsDraftReadRefusal facts start new e
reads_refused new e first is = refused_more (listing new) e first.read is

-- How far a bind's walk through the files of a draft has come.
pub record HasComeBeside {D : Type 0} (facts : D → DiskFacts) (program : List ℕ) (start now : Drafted D) (needs : Needs) (files : List Library) : Type 0 where
  pub among : IsAmong (length start.entries) needs files
  pub walked : (s d : State) → IsDraftedAt facts start s d → IsWalked program d needs files
  pub libraries : All IsLibrary files
  pub own : HaveOwnNames start.entries
  pub read : ReadsBeside facts start now
  pub calls : AreCallsExactly (sum_by (λ file. data_sectors file.bytes) files) (facts start.store.disk) (facts now.store.disk)
