-- The blocks of the index of the PT_LOADs.
use Rattle.std.proofs.Common.{◌≡◌, ℕ, ◌<◌, ◌≤◌, ◌+◌, ◌-◌, ◌*◌, true, false, List, length, arith, sym, ap, ◌∙◌, inl, inr, get_or, set, subst, get_or-set_same, get_or-set_other}
use Rattle.std.proofs.lemmas.Bool.Decides.{nat_tests}
use Rattle.std.proofs.Math.ListN.{length-set}
use Rattle.std.proofs.lemmas.Bool.{cases_lt}
use Rattle.elf_file.specs.Header.{header_count}
use Rattle.elf_file.specs.Segment.{program_header, is_load, has_bad_order}
use Rattle.elf_file.specs.inside.Index.{is_spanned, with_block, InBlock, Indexes, AllAbove, IsBlockAt, BeginsBy}
use Rattle.elf_file.specs.declared.load_index.LoadIndex.{LoadIndex}
use Rattle.elf_file.specs.declared.load_index.TheConstants.{BLOCK, BLOCKS}
use Rattle.elf_file.proofs.LoadNumbers.{loads_apart, loads_rise}

-- the header number of a block's first PT_LOAD
abbrev pub first_of_block : LoadIndex → ℕ → ℕ
first_of_block index b = get_or index.first b 0

-- the address of a block's first PT_LOAD
abbrev pub block_address : List ℕ → LoadIndex → ℕ → ℕ
block_address file index b = (program_header file (first_of_block index b)).address

-- later blocks begin at later program headers
pub firsts_rise : (file : List ℕ) (n : ℕ) (index : LoadIndex) (a b : ℕ) → Indexes file n index → a ≤ b → b < index.blocks → first_of_block index a ≤ first_of_block index b
firsts_rise file n index a b has le lt =
    elim (cases_lt a b) [
      | inl less ↦ omega (arith, has.apart a b less lt)
      | inr ge ↦ let e : a ≡ b = omega arith in omega (arith, ap (first_of_block index) e)
    ]

-- if the first block begins above an address, all PT_LOADs begin above it
pub all_above : (file : List ℕ) (index : LoadIndex) (address : ℕ) → has_bad_order file ≡ false → Indexes file (header_count file) index
    → (0 < index.blocks → address < block_address file index 0) → AllAbove file address 0
all_above file index address order has above j low lt is =
    let b = has.all j lt is in
    let some : 0 < index.blocks = omega (arith, b.stands) in
    let le : first_of_block index 0 ≤ j = omega (arith, firsts_rise file (header_count file) index 0 b.block has (omega arith) b.stands, b.from) in
    omega (arith, above some, loads_rise file (first_of_block index 0) j order le lt (has.load 0 some) is)

-- `IsBlockAt` is true of the first PT_LOAD of the last block that begins at or below an address
pub block_at_by : (file : List ℕ) (index : LoadIndex) (address c : ℕ) → has_bad_order file ≡ false → Indexes file (header_count file) index
    → c < index.blocks → block_address file index c ≤ address → (c + 1 < index.blocks → address < block_address file index (c + 1))
    → IsBlockAt file address (first_of_block index c)
block_at_by file index address c order has stands below above = (
  has.within c stands,
  (λ j lt is. omega (arith, below, loads_apart file j (first_of_block index c) order lt (has.within c stands) is (has.load c stands))),
  (λ j low lt is.
      let b = has.all j lt is in
      elim (cases_lt c b.block) [
        | inl later ↦
            let more : c + 1 < index.blocks = omega (arith, later, b.stands) in
            let le : first_of_block index (c + 1) ≤ j = omega (arith, firsts_rise file (header_count file) index (c + 1) b.block has (omega (arith, later)) b.stands, b.from) in
            omega (arith, above more, loads_rise file (first_of_block index (c + 1)) j order le lt (has.load (c + 1) more) is)
        | inr earlier ↦ absurd (omega (arith, low, b.to, firsts_rise file (header_count file) index b.block c has earlier stands))
      ]),
)

-- if the last block doesn't span a program header, the header comes after this block
pub behind : (file : List ℕ) (n : ℕ) (index : LoadIndex) (i : ℕ) → is_spanned index i ≡ false → 0 < index.blocks → first_of_block index (index.blocks - 1) + BLOCK ≤ i
behind file n index i free some = grind (arith, nat_tests)

-- if the last block doesn't span the next program header, there is room for one more block
pub block_fits : (file : List ℕ) (index : LoadIndex) (i : ℕ) → Indexes file i index → i < 65536 → is_spanned index i ≡ false → index.blocks < BLOCKS
block_fits file index i has most free =
    elim (cases_lt 0 index.blocks) [
      | inl some ↦ omega (arith, has.room (index.blocks - 1) (omega (arith, some)), behind file i index i free some, most)
      | inr none ↦ omega (arith, none)
    ]

in-next : (file : List ℕ) (i : ℕ) (index : LoadIndex) → Indexes file i index → (is_load (program_header file i) ≡ true → InBlock index i)
    → (j : ℕ) → j < i + 1 → is_load (program_header file j) ≡ true → InBlock index j
in-next file i index has here j lt is =
    elim (cases_lt j i) [
      | inl low ↦ has.all j low is
      | inr at ↦ let e : i ≡ j = omega arith in subst (λ (k : ℕ). InBlock index k) e (here (ap (λ k. is_load (program_header file k)) e ∙ is))
    ]

-- if the next program header isn't a PT_LOAD, the index is right with it, unchanged
pub index_other : (file : List ℕ) (i : ℕ) (index : LoadIndex) → Indexes file i index → is_load (program_header file i) ≡ false → Indexes file (i + 1) index
index_other file i index has is = record {
  first_size = has.first_size;
  fits = has.fits;
  load = has.load;
  within = λ b lt. omega (arith, has.within b lt);
  room = has.room;
  apart = has.apart;
  all = in-next file i index has (λ t. let f = sym is ∙ t in cc);
}

-- if the last block spans the next PT_LOAD, the index is right with it, unchanged
pub index_spanned : (file : List ℕ) (i : ℕ) (index : LoadIndex) → Indexes file i index → is_load (program_header file i) ≡ true → is_spanned index i ≡ true
    → Indexes file (i + 1) index
index_spanned file i index has is spanned =
    let some : 0 < index.blocks = grind (arith, nat_tests) in
    let to : i < first_of_block index (index.blocks - 1) + BLOCK = grind (arith, nat_tests) in
    let last : index.blocks - 1 < index.blocks = omega (arith, some) in
    record {
      first_size = has.first_size;
      fits = has.fits;
      load = has.load;
      within = λ b lt. omega (arith, has.within b lt);
      room = has.room;
      apart = has.apart;
      all = λ j lt load.
          let at = in-next file i index has (λ t. record { block = index.blocks - 1; stands = last; from = omega (arith, has.within (index.blocks - 1) last); to = to }) j lt load in
          record { block = at.block; stands = at.stands; from = at.from; to = at.to };
    }

-- if a fact is true of the first n elements of a list and of a new value, writing the value at n makes
-- it true of the first n + 1 elements
set-facts : (xs : List ℕ) (n v : ℕ) (P : ℕ → ℕ → Type 0) → n < length xs → ((b : ℕ) → b < n → P b (get_or xs b 0)) → P n v
    → (b : ℕ) → b < n + 1 → P b (get_or (set xs n v) b 0)
set-facts xs n v P room low top b lt =
    elim (cases_lt b n) [
      | inl less ↦ subst (P b) (sym (get_or-set_other xs n b v 0 (omega (arith, less)))) (low b less)
      | inr ge ↦
          let e : n ≡ b = omega (arith, ge, lt) in
          subst (λ (k : ℕ). P k (get_or (set xs n v) k 0)) e (subst (P n) (sym (get_or-set_same xs n v 0 room)) top)
    ]

-- if the last block doesn't span a program header, the header comes at least a block's length after the
-- beginning of each block
far : (file : List ℕ) (i : ℕ) (index : LoadIndex) (a : ℕ) → Indexes file i index → is_spanned index i ≡ false → a < index.blocks → first_of_block index a + BLOCK ≤ i
far file i index a has free lt =
    let last : index.blocks - 1 < index.blocks = omega (arith, lt) in
    omega (arith, behind file i index i free (omega (arith, lt)), firsts_rise file i index a (index.blocks - 1) has (omega (arith, lt)) last)

-- if the last block doesn't span the next PT_LOAD, the index is right with a new block that begins there
pub index_block : (file : List ℕ) (i : ℕ) (index : LoadIndex) → Indexes file i index → is_load (program_header file i) ≡ true → is_spanned index i ≡ false → index.blocks < BLOCKS
    → Indexes file (i + 1) (with_block index i)
index_block file i index has is free room =
    let n : ℕ = index.blocks in
    let in1 : n < length index.first = omega (arith, room, has.first_size) in
    let first = λ (b : ℕ) (lt : b < n). get_or-set_other index.first n b i 0 (omega (arith, lt)) in
    let here : get_or (set index.first n i) n 0 ≡ i = get_or-set_same index.first n i 0 in1 in
    record {
      first_size = length-set index.first n i ∙ has.first_size;
      fits = omega (arith, room);
      load = set-facts index.first n i (λ b f. is_load (program_header file f) ≡ true) in1 has.load is;
      within = set-facts index.first n i (λ b f. f < i + 1) in1 (λ b lt. omega (arith, has.within b lt)) (omega arith);
      room = set-facts index.first n i (λ b f. BLOCK * b ≤ f) in1 has.room
          (elim (cases_lt 0 n) [
            | inl some ↦
                let last : n - 1 < n = omega (arith, some) in
                omega (arith, has.room (n - 1) last, far file i index (n - 1) has free last)
            | inr none ↦ omega (arith, none)
          ]);
      apart = λ a b less lt.
          set-facts index.first n i (λ k f. a < k → get_or (set index.first n i) a 0 + BLOCK ≤ f) in1
          (λ k low under. omega (arith, has.apart a k under low, first a (omega (arith, under, low))))
          (λ under. omega (arith, far file i index a has free under, first a under)) b lt less;
      all = λ j lt load.
          elim (cases_lt j i) [
            | inl low ↦
                let at = has.all j low load in
                record {
                  block = at.block;
                  stands = omega (arith, at.stands);
                  from = omega (arith, at.from, first at.block at.stands);
                  to = omega (arith, at.to, first at.block at.stands);
                }
            | inr ge ↦ record { block = n; stands = omega arith; from = omega (arith, here, ge); to = omega (arith, here, lt) }
          ];
    }

-- `IsBlockAt` stays true of a later PT_LOAD that begins at or below the address
pub block_later : (file : List ℕ) (address low next : ℕ) → has_bad_order file ≡ false → IsBlockAt file address low → low ≤ next → BeginsBy file address next → IsBlockAt file address next
block_later file address low next order block le begins = (
  begins.0,
  (λ j lt is. omega (arith, loads_apart file j next order lt begins.0 is begins.1, begins.2)),
  (λ j ge lt is. block.2 j (omega (arith, le, ge)) lt is),
)
