-- The tests that apply to the requests of a dump.
use Rattle.std.proofs.Common.{◌≡◌, ◌<◌, ◌≤◌, ℕ, ◌+◌, ◌-◌, ◌*◌, Bool, true, false, List, [], ◌∷◌, ◌++◌}
use Rattle.std.proofs.Common.{length, length-append, Option, None, Some, refl, sym, ap, subst, ◌∙◌, arith, inl, inr, ne_eqb}
use Rattle.std.specs.Prelude.{◌≢◌, ◌==◌, ◌⊎◌, not, nat_le, nat_lt, All, AllPairs, sum_by}
use Rattle.std.specs.Int.{div_ceil}
use Rattle.std.specs.List.{list_any}
use Rattle.std.specs.Option.{option_map}
use Rattle.std.proofs.Math.Seq.{get_or-append_seam}
use Rattle.std.proofs.lemmas.Bool.Decides.{nat_tests}
use Rattle.std.proofs.lemmas.List.{length-map}
use Rattle.elf_file.specs.FirstOf.{◌when◌, first_of}
use Rattle.hash_check.specs.declared.file_refusal.FileRefusal.{FileRefusal}
use Rattle.sector_disk.specs.Disk.{sector_bytes}
use Rattle.extents.specs.Limits.{root_sectors}
use Rattle.states.specs.Cost.{catalogues_for, catalogue_cost, taken_by}
use Rattle.states.specs.Limits.{last_generation, most_libraries, most_preloads}
use Rattle.states.specs.Room.{has_most, is_fragmented, is_full, is_last}
use Rattle.states.specs.State.{Library, State, has_name, names_of}
use Rattle.requests.specs.Library.{IsLibrary, library_refusal, name_of}
use Rattle.requests.specs.Phase.{Phase, table_of}
use Rattle.requests.specs.Request.{install, set_preloads}
use Rattle.requests.specs.State.{IsState}
use Rattle.requests.specs.Step.{refusal_at}
use Rattle.requests.specs.Table.{Table}
use Rattle.requests.specs.Tests.{first_refusal, has_repeat, is_installed}
use Rattle.requests.specs.declared.refusal.Refusal.{Refusal}
use Rattle.requests.specs.declared.refusal.Refusal.TheVariants.{Object, AlreadyInstalled, NotInstalled, RepeatedPreload}
use Rattle.requests.specs.declared.refusal.Refusal.TheVariants.{TooManyPreloads, Full, Fragmented, TooMany, GenerationEnd}
use Rattle.requests.proofs.Sonames.{name_is}
use Rattle.replays.specs.Replay.{LacksRoomAtMost, sectors_for}
use Rattle.replays.proofs.Names.{no_earlier, no_repeat, none_missing}
use Rattle.replays.proofs.Rooms.{install_taken, last_taken, size, too_little, too_small}

-- ---- the tests, one after the other

-- if no earlier test refuses an install, only the tests for lack of room are left
tests_left : (t : Table) (bytes : List ℕ) → library_refusal bytes ≡ None → is_installed t (name_of bytes) ≡ false → has_most (length t.names) ≡ false → is_last t.generation ≡ false
    → first_refusal t (install bytes) ≡ first_of ((Full when is_full t.free (catalogue_cost (length t.names)) (length bytes)) ∷ (Fragmented when is_fragmented t.longest (length bytes)) ∷ [])
tests_left t bytes file new few early =
    let rest = (Full when is_full t.free (catalogue_cost (length t.names)) (length bytes)) ∷ (Fragmented when is_fragmented t.longest (length bytes)) ∷ [] in
    by (library_refusal bytes) (is_installed t (name_of bytes)) (has_most (length t.names)) (is_last t.generation) rest file new few early
  where
    by : (o : Option FileRefusal) (a b c : Bool) (rest : List (Option Refusal)) → o ≡ None → a ≡ false → b ≡ false → c ≡ false
        → first_of (option_map Object o ∷ (AlreadyInstalled when a) ∷ (TooMany when b) ∷ (GenerationEnd when c) ∷ rest) ≡ first_of rest
    by None false false false rest file new few early = refl
    by (Some r) a b c rest file new few early = cc file
    by None true b c rest file new few early = cc new
    by None false true c rest file new few early = cc few
    by None false false true rest file new few early = cc early

-- no test refuses these preloads
preloads_taken : (t : Table) (names : List (List ℕ)) → nat_lt most_preloads (length names) ≡ false → has_repeat names ≡ false
    → list_any (λ name. not (is_installed t name)) names ≡ false → is_last t.generation ≡ false → first_refusal t (set_preloads names) ≡ None
preloads_taken t names few once there early = by (nat_lt most_preloads (length names)) (has_repeat names) (list_any (λ name. not (is_installed t name)) names) (is_last t.generation) few once there early
  where
    by : (a b c d : Bool) → a ≡ false → b ≡ false → c ≡ false → d ≡ false
        → first_of ((TooManyPreloads when a) ∷ (RepeatedPreload when b) ∷ (NotInstalled when c) ∷ (GenerationEnd when d) ∷ []) ≡ None
    by false false false false few once there early = refl
    by true b c d few once there early = cc few
    by false true c d few once there early = cc once
    by false false true d few once there early = cc there
    by false false false true few once there early = cc early

-- the refusal of the tests for lack of room: S7 if `full` is true, otherwise S8 if `short` is true
abbrev room_left : Bool → Bool → Option Refusal
room_left full short = first_of ((Full when full) ∷ (Fragmented when short) ∷ [])

room_only : (full short : Bool) → (room_left full short ≡ None) ⊎ (room_left full short ≡ Some Full) ⊎ (room_left full short ≡ Some Fragmented)
room_only true short = inr (inl refl)
room_only false true = inr (inr refl)
room_only false false = inl refl

is_for_room : (full short : Bool) → room_left full short ≡ Some Full → full ≡ true
is_for_room true short h = refl
is_for_room false true h = cc h
is_for_room false false h = cc h

is_for_runs : (full short : Bool) → room_left full short ≡ Some Fragmented → short ≡ true
is_for_runs true short h = cc h
is_for_runs false true h = refl
is_for_runs false false h = cc h

-- ---- in the state of only some libraries

-- the state after these libraries were installed, before the preloads are set
abbrev pub of_libraries : List Library → State
of_libraries libraries = record { generation = length libraries; libraries = libraries; preloads = [] }

-- the phase with this state
abbrev pub at_state : Phase → State → Phase
at_state p s = record p { state = s }

not_most : (n : ℕ) → n < most_libraries → nat_le most_libraries n ≡ false
not_most n lt = grind (arith, nat_tests)

pub not_last : (n : ℕ) → n ≤ most_libraries + 1 → (n == last_generation) ≡ false
not_last n le = ne_eqb n last_generation (λ e. omega (arith, e, le))

few_enough : (n : ℕ) → n ≤ most_preloads → nat_lt most_preloads n ≡ false
few_enough n le = grind (arith, nat_tests)

too_short : (longest size : ℕ) → nat_lt longest (div_ceil size sector_bytes + 1 - 1) ≡ true → longest < div_ceil size sector_bytes
too_short longest size h = grind (arith, nat_tests, h)

module _ (s : State) (h : IsState s) (p : Phase) where
  -- The library `l` is the next to be installed.
  module _ (done rest : List Library) (l : Library) (all : done ++ l ∷ rest ≡ s.libraries) where
    is : IsLibrary l
    is = subst IsLibrary (get_or-append_seam done l rest l) (subst (All IsLibrary) (sym all) h.libraries (length done) l (omega (arith, length-append done (l ∷ rest))))

    named : name_of l.bytes ≡ l.name
    named = sym (name_is l.bytes l.name is.named)

    few : length done < most_libraries
    few = omega (arith, h.few, ap length all, length-append done (l ∷ rest))

    new : has_name (names_of done) (name_of l.bytes) ≡ false
    new = ap (has_name (names_of done)) named ∙ no_earlier done rest l (subst (AllPairs (λ a b. a.name ≢ b.name)) (sym all) h.own_names)

    count : length (names_of done) ≡ length done
    count = length-map done (λ (l : Library). l.name)

    refused : refusal_at (at_state p (of_libraries done)) (install l.bytes)
        ≡ room_left (is_full (table_of (at_state p (of_libraries done))).free (catalogue_cost (length (names_of done))) (length l.bytes)) (is_fragmented (table_of (at_state p (of_libraries done))).longest (length l.bytes))
    refused =
        tests_left (table_of (at_state p (of_libraries done))) l.bytes is.accepted new (ap (nat_le most_libraries) count ∙ not_most (length done) few)
        (not_last (length done) (omega (arith, few)))

    room_for_all : sum_by size done + 2 * catalogues_for (length done) + (size l + catalogue_cost (length done)) ≤ taken_by s
    room_for_all =
        subst (λ ls. sum_by size done + 2 * catalogues_for (length done) + (size l + catalogue_cost (length done)) ≤ sum_by size ls + 2 * catalogues_for (length ls)) all
        (install_taken done rest l)

    pub install_lacks : LacksRoomAtMost s (at_state p (of_libraries done)) (install l.bytes)
    install_lacks =
        let full = is_full (table_of (at_state p (of_libraries done))).free (catalogue_cost (length (names_of done))) (length l.bytes) in
        let short = is_fragmented (table_of (at_state p (of_libraries done))).longest (length l.bytes) in
        record {
          only = subst (λ (o : Option Refusal). (o ≡ None) ⊎ (o ≡ Some Full) ⊎ (o ≡ Some Fragmented)) (sym refused) (room_only full short);
          full = λ e.
              too_small p.sectors p.lone (taken_by (of_libraries done)) (size l + catalogue_cost (length done)) (taken_by s) room_for_all
              (subst (λ n. nat_lt (p.sectors - p.lone - root_sectors - taken_by (of_libraries done)) (size l + catalogue_cost n) ≡ true) count (is_for_room full short (sym refused ∙ e)));
          fragmented = λ e. too_short p.longest (length l.bytes) (is_for_runs full short (sym refused ∙ e));
        }

  -- The library `l` is the last to be installed, and the disk is smaller than the state needs.
  module _ (done : List Library) (l : Library) (all : done ++ l ∷ [] ≡ s.libraries) (small : p.sectors < sectors_for s + p.lone) where
    too_full : is_full (table_of (at_state p (of_libraries done))).free (catalogue_cost (length (names_of done))) (length l.bytes) ≡ true
    too_full =
        let is : taken_by (of_libraries done) + (size l + catalogue_cost (length done)) ≡ taken_by s =
        last_taken done l ∙ ap (λ (ls : List Library). sum_by size ls + 2 * catalogues_for (length ls)) all in
        subst (λ n. nat_lt (p.sectors - p.lone - root_sectors - taken_by (of_libraries done)) (size l + catalogue_cost n) ≡ true) (sym (count done [] l all))
        (too_little p.sectors p.lone (taken_by (of_libraries done)) (size l + catalogue_cost (length done)) (taken_by s) is (omega arith) small)

    pub last_refused : refusal_at (at_state p (of_libraries done)) (install l.bytes) ≡ Some Full
    last_refused = refused done [] l all ∙ ap (λ full. room_left full (is_fragmented (table_of (at_state p (of_libraries done))).longest (length l.bytes))) too_full

  -- The preloads are set after all libraries were installed.
  module _ (name : List ℕ) (names : List (List ℕ)) (all : name ∷ names ≡ s.preloads) where
    unrefused : refusal_at (at_state p (of_libraries s.libraries)) (set_preloads (name ∷ names)) ≡ None
    unrefused =
        preloads_taken (table_of (at_state p (of_libraries s.libraries))) (name ∷ names) (few_enough (length (name ∷ names)) (subst (λ ps. length ps ≤ most_preloads) (sym all) h.few_preloads))
        (no_repeat (name ∷ names) (subst (AllPairs (λ a b. a ≢ b)) (sym all) h.once))
        (none_missing (names_of s.libraries) (name ∷ names) (subst (All (λ n. has_name (names_of s.libraries) n ≡ true)) (sym all) h.installed))
        (not_last (length s.libraries) (omega (arith, h.few)))

    pub preloads_lack : LacksRoomAtMost s (at_state p (of_libraries s.libraries)) (set_preloads (name ∷ names))
    preloads_lack = record {
      only = inl unrefused;
      full = λ e. cc (sym unrefused ∙ e);
      fragmented = λ e. cc (sym unrefused ∙ e);
    }
