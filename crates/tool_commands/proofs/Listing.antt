-- Lemmas about the libraries that a store lists.
use Rattle.std.proofs.Common.{◌≡◌, ℕ, ◌<◌, List, length, map, get_or, sym, ap, ◌∙◌, ⊎_elim}
use Rattle.std.proofs.lemmas.List.{get_or-map, length-map, length-replicate}
use Rattle.sector_disk.specs.Disk.{DiskFacts}
use Rattle.states.specs.State.{Library, State}
use Rattle.store.specs.Opened.{IsAt, Opened}
use Rattle.store.specs.Stands.{name_of, no_library}
use Rattle.store.specs.declared.placed_entry.PlacedEntry.{PlacedEntry}
use Rattle.store.proofs.UsedAlone.{no_entry}
use Rattle.tool_commands.specs.inside.Listed.{AreListed, Lists, as_listed}

module _ {D : Type 0} (facts : D → DiskFacts) (store : Opened D) (libraries : List Library) (lists : Lists facts store libraries) where
  -- the number of entries is the number of the libraries
  pub count_listed : (n : ℕ) → n ≡ length store.entries → ((s : State) → IsAt facts store s → n ≡ length s.libraries) → n ≡ length libraries
  count_listed n value state = ⊎_elim (λ h. state h.0 h.1 ∙ ap length h.2) (λ h. value ∙ h.count) lists

  -- the name at a position is the name of the library there
  pub name_listed : (i : ℕ) (name : List ℕ) → i < length store.entries → ((d : PlacedEntry) → name ≡ name_of (get_or store.entries i d).entry)
      → ((s : State) → IsAt facts store s → name ≡ (get_or s.libraries i no_library).name) → name ≡ (get_or libraries i no_library).name
  name_listed i name lt value state =
      ⊎_elim (λ h. state h.0 h.1 ∙ ap (λ ls. (get_or ls i no_library).name) h.2) (λ h. value no_entry ∙ h.name i lt no_entry) lists

  -- the length at a position is the length of the library there
  pub length_listed : (i n : ℕ) → i < length store.entries → ((d : PlacedEntry) → n ≡ (get_or store.entries i d).entry.file_length)
      → ((s : State) → IsAt facts store s → n ≡ length (get_or s.libraries i no_library).bytes) → n ≡ length (get_or libraries i no_library).bytes
  length_listed i n lt value state =
      ⊎_elim (λ h. state h.0 h.1 ∙ ap (λ ls. length (get_or ls i no_library).bytes) h.2) (λ h. value no_entry ∙ h.size i lt no_entry) lists

-- entries have the names and lengths of the libraries that are made from them
pub are_listed : (entries : List PlacedEntry) → AreListed entries (map as_listed entries)
are_listed entries = record {
  count = sym (length-map entries as_listed);
  name = λ i lt d. ap (λ l. l.name) (sym (get_or-map as_listed entries i d no_library lt));
  size = λ i lt d.
      sym (length-replicate (get_or entries i d).entry.file_length 0) ∙ ap (λ l. length l.bytes) (sym (get_or-map as_listed entries i d no_library lt));
}
