-- Lemmas about a library of a state, found by its position and by its name.
use Rattle.std.proofs.Common.{◌≡◌, ◌≢◌, ◌↔◌, ℕ, ◌<◌, List, length, get_or, All, Option, Some, None, Result, Ok, Err, refl, sym, ap, subst, ◌∙◌}
use Rattle.std.specs.Prelude.{Contains, IfOk, OnOk}
use Rattle.std.specs.Global.{Vec}
use Rattle.std.proofs.lemmas.List.{get_or_default}
use Rattle.store.specs.declared.placed_entry.PlacedEntry.{PlacedEntry}
use Rattle.states.specs.State.{Library, State}
use Rattle.store.specs.Stands.{HaveOwnNames, name_of, no_library}
use Rattle.store.proofs.Drafts.{same_name}
use Rattle.contents.specs.File.{HasFile}

-- `found` is the position of a name, as the store's contract states it
abbrev pub IsPosition : State → List ℕ → Option ℕ → Type 0
IsPosition s name found = (i : ℕ) → (found ≡ Some i) ↔ ((i < length s.libraries) × ((get_or s.libraries i no_library).name ≡ name))

-- the library at a name's position has the name
pub named_at : (s : State) (name : List ℕ) (position : ℕ) → IsPosition s name (Some position) → (position < length s.libraries) × ((get_or s.libraries position no_library).name ≡ name)
named_at s name position is = (is position).0 refl

-- The bytes at a name's position are the library's.
pub has_file : {E : Type 0} (s : State) (name : List ℕ) (position : ℕ) (result : Result (Vec ℕ) E) → IsPosition s name (Some position)
    → IfOk result (λ bytes. bytes.items ≡ (get_or s.libraries position no_library).bytes) → IfOk result (λ bytes. HasFile s name bytes.items)
has_file s name position (Err e) is read = tt
has_file s name position (Ok bytes) is read =
    let at = named_at s name position is in
    let file : Library = record { name = name; bytes = bytes.items } in
    let same : get_or s.libraries position no_library ≡ file = λ i. record { name = at.1 i; bytes = sym read i } in
    (position, at.0, get_or_default s.libraries position file no_library at.0 ∙ same)

-- The library at a name's position has no other bytes.
pub no_other : {E : Type 0} (s : State) (name : List ℕ) (position : ℕ) (result : Result (Vec ℕ) E) → IsPosition s name (Some position)
    → IfOk result (λ bytes. bytes.items ≡ (get_or s.libraries position no_library).bytes) → IfOk result (λ bytes. (other : List ℕ) → HasFile s name other → other ≡ bytes.items)
no_other s name position (Err e) is read = tt
no_other s name position (Ok bytes) is read = λ other has.
    let file : Library = record { name = name; bytes = other } in
    let its : get_or s.libraries has.0 no_library ≡ file = get_or_default s.libraries has.0 no_library file has.1 ∙ has.2 in
    let found : ◌≡◌ {A = Option ℕ} (Some position) (Some has.0) = (is has.0).1 (has.1, ap (λ (l : Library). l.name) its) in
    let same : position ≡ has.0 = cc in
    sym (ap (λ (l : Library). l.bytes) its) ∙ ap (λ k. (get_or s.libraries k no_library).bytes) (sym same) ∙ sym read

-- if a name has no position, no library has the name
pub none_named : (s : State) (name : List ℕ) → IsPosition s name None → All (λ (library : Library). library.name ≢ name) s.libraries
none_named s name is k d lt named =
    let found : ◌≡◌ {A = Option ℕ} None (Some k) = (is k).1 (lt, ap (λ (l : Library). l.name) (get_or_default s.libraries k no_library d lt) ∙ named) in
    absurd cc

-- a fact about the length in an entry is a fact about the length of the bytes
pub of_length : {E : Type 0} (P : ℕ → Type 0) (size : ℕ) (result : Result (Vec ℕ) E) → OnOk result (P size)
    → IfOk result (λ bytes. length bytes.items ≡ size) → IfOk result (λ bytes. P (length bytes.items))
of_length P size (Err e) holds is = tt
of_length P size (Ok bytes) holds is = subst P (sym is) holds

-- the entry at a name's position is the one that has the name
pub entry_at : (entries : List PlacedEntry) (name : List ℕ) (position : ℕ) (placed : PlacedEntry) → HaveOwnNames entries
    → (position < length entries) × ((d : PlacedEntry) → name_of (get_or entries position d).entry ≡ name)
    → Contains entries placed × (name_of placed.entry ≡ name) → get_or entries position placed ≡ placed
entry_at entries name position placed own at has =
    let k : ℕ = has.0.0 in
    let named : name_of (get_or entries position placed).entry ≡ name_of (get_or entries k placed).entry = at.1 placed ∙ sym has.1 ∙ ap (λ (p : PlacedEntry). name_of p.entry) (sym has.0.2) in
    ap (λ i. get_or entries i placed) (same_name entries own position k placed at.0 has.0.1 named) ∙ has.0.2
