-- What a source offers to a walk, while files are read.
use Rattle.std.proofs.Common.{◌≡◌, ℕ, ◌+◌, ◌<◌, List, [], ◌∷◌, ◌++◌, length, sum_by, get_or, IsTrue, Result, Ok, Err, refl, sym, ap, subst, ◌∙◌, arith}
use Rattle.std.specs.Prelude.{All, IfOk, OnOk}
use Rattle.std.specs.Global.{Vec}
use Rattle.std.proofs.lemmas.List.Sums.{sum_by-append, sum_by-cons}
use Rattle.sector_disk.specs.Disk.{DiskFacts, HoldsNow, AreCallsExactly}
use Rattle.sector_disk.proofs.Moments.{exactly_sum}
use Rattle.roots.specs.Root.{listed_preloads}
use Rattle.roots.specs.declared.root.Root.{Root}
use Rattle.states.specs.State.{Library, State}
use Rattle.store.specs.declared.holds.HeldRow.{HeldRow}
use Rattle.store.specs.declared.placed_entry.PlacedEntry.{PlacedEntry}
use Rattle.store.specs.Opened.{Opened, IsAt}
use Rattle.store.specs.Stands.{HaveOwnNames, no_library}
use Rattle.snapshots.specs.Snapshot.{IsTakenOf, AreHeldAs}
use Rattle.requests.specs.Binding.{preload_numbers}
use Rattle.requests.specs.Library.{IsLibrary}
use Rattle.registry.specs.Binding.{data_sectors}
use Rattle.registry.specs.declared.needs.Needs.{Needs}
use Rattle.registry.specs.declared.source.Source.{Source}
use Rattle.registry.specs.declared.source.Source.TheVariants.{Current, Held}
use Rattle.store.specs.IsRead.{IsRead}
use Rattle.registry.specs.inside.Source.{AreNamesOf, HasEntries, HasFiles, Offers, offered, offered_preloads}
use Rattle.registry.specs.inside.Walked.{IsAmong, IsWalked}
use Rattle.store.proofs.IsReadLemmas.{read_more}
use Rattle.registry.proofs.Keeping.{keeps_held_read}
use Rattle.registry.proofs.StateNames.{names_are, numbers_are}

module _ {D : Type 0} (facts : D → DiskFacts) where
  -- the names that a source offers are those of the state
  pub are_names : (source : Source) (entries : List PlacedEntry) (s : State) (store : Opened D) → Offers facts source entries s store
      → AreNamesOf s entries (HasEntries source store entries) (offered_preloads source store)
  are_names source entries s store offers = record { has = offers.has; own = offers.own; names = offers.names; preloads = offers.preloads }

  -- a store at a state offers the libraries and preloads of this state
  pub offers_current : (store : Opened D) (s : State) → (IsTrue (facts store.disk).honest → HoldsNow (facts store.disk)) → HaveOwnNames store.entries → IsAt facts store s
      → Offers facts Current store.entries s store
  offers_current store s holds own at = record {
    has = refl;
    own = own;
    names = names_are facts store s holds at;
    preloads = numbers_are facts store s holds at own;
    files = at;
  }

  module _ (old new : Opened D) (read : IsRead facts old new) where
    -- A read keeps the files of a source.
    pub files_read : (source : Source) (s : State) → HasFiles facts source old s → HasFiles facts source new s
    files_read Current s has = read.same s has
    files_read (Held snapshot) s has =
        let held : AreHeldAs facts new snapshot.now.handles s.libraries = record {
          count = has.1.count;
          each = λ i lt. (keeps_held_read facts old new read).bytes has.0 (get_or snapshot.now.handles i 0) (get_or s.libraries i no_library) (has.1.each i lt);
        } in
        (subst IsTrue (sym read.calls.honest) has.0, held)

    -- a read keeps the entries of a source
    pub entries_read : (source : Source) (entries : List PlacedEntry) → HasEntries source old entries → HasEntries source new entries
    entries_read Current entries has = read.entries ∙ has
    entries_read (Held snapshot) entries has = subst (λ (held : List HeldRow). IsTakenOf held snapshot.now entries) (sym read.held) has

    -- a read keeps the preloads of a source
    pub preloads_read : (source : Source) → offered_preloads source new ≡ offered_preloads source old
    preloads_read Current = ap (λ (r : Root). listed_preloads r) read.root
    preloads_read (Held snapshot) = refl

    -- a read keeps the number of files of a source
    pub count_read : (source : Source) → offered source new ≡ offered source old
    count_read Current = ap length read.entries
    count_read (Held snapshot) = refl

    -- a read keeps all that a source offers
    pub offers_read : (source : Source) {entries : List PlacedEntry} {s : State} → Offers facts source entries s old → Offers facts source entries s new
    offers_read source {entries = entries} {s = s} offers = record {
      has = entries_read source entries offers.has;
      own = offers.own;
      names = offers.names;
      preloads = subst (λ (ps : List ℕ). All (λ p. p < length entries) ps → preload_numbers s ≡ ps) (sym (preloads_read source)) offers.preloads;
      files = files_read source s offers.files;
    }

-- the sectors of the files and of one more file are those of the longer list
pub one_more : (files : List Library) (file : Library) → sum_by (λ l. data_sectors l.bytes) files + data_sectors file.bytes ≡ sum_by (λ l. data_sectors l.bytes) (files ++ file ∷ [])
one_more files file =
    omega (arith, sum_by-append (λ (l : Library). data_sectors l.bytes) files (file ∷ []), sum_by-cons (λ (l : Library). data_sectors l.bytes) file [])

-- How far a bind's walk through the files of a store has come.
pub record HasCome {D : Type 0} (facts : D → DiskFacts) (program : List ℕ) (start now : Opened D) (needs : Needs) (files : List Library) : Type 0 where
  pub among : IsAmong (length start.entries) needs files
  pub walked : (s : State) → IsAt facts start s → IsWalked program s needs files
  pub libraries : All IsLibrary files
  pub own : HaveOwnNames start.entries
  pub read : IsRead facts start now
  pub calls : AreCallsExactly (sum_by (λ file. data_sectors file.bytes) files) (facts start.disk) (facts now.disk)

module _ {D : Type 0} (facts : D → DiskFacts) {program : List ℕ} {start : Opened D} where
  pub come_offers : {now : Opened D} {needs : Needs} {files : List Library} → (IsTrue (facts start.disk).honest → HoldsNow (facts start.disk)) → HasCome facts program start now needs files
      → (s : State) → IsAt facts start s → Offers facts Current start.entries s now
  come_offers {now = now} holds come s at = offers_read facts start now come.read Current (offers_current facts start s holds come.own at)

  pub come_more : {now new : Opened D} {needs more : Needs} {files : List Library} → HasCome facts program start now needs files → IsRead facts now new
      → (file : Library) → All IsLibrary (files ++ file ∷ []) → IsAmong (length start.entries) more (files ++ file ∷ [])
      → ((s : State) → IsAt facts start s → IsWalked program s more (files ++ file ∷ [])) → AreCallsExactly (data_sectors file.bytes) (facts now.disk) (facts new.disk)
      → HasCome facts program start new more (files ++ file ∷ [])
  come_more {files = files} come read file libraries among walked calls = record {
    among = among;
    walked = walked;
    libraries = libraries;
    own = come.own;
    read = read_more come.read read;
    calls = exactly_sum come.calls calls (one_more files file);
  }

-- a fact about the known length holds for the length of the bytes
pub sized : {E : Type 0} (P : ℕ → Type 0) (n : ℕ) (result : Result (Vec ℕ) E) → IfOk result (λ bytes. length bytes.items ≡ n) → OnOk result (P n) → IfOk result (λ bytes. P (length bytes.items))
sized P n (Ok bytes) size said = subst P (sym size) said
sized P n (Err e) size said = tt
