-- A file of pieces loads the pieces and its own headers, and nothing else.
use Rattle.std.proofs.Common.{◌≡◌, ℕ, ◌+◌, ◌-◌, ◌*◌, ◌<◌, ◌≤◌, Bool, true, false, List, [], ◌∷◌, ◌++◌, length, map, take, drop, replicate, refl, sym, ap, ◌∙◌, arith, append_assoc, filter}
use Rattle.std.specs.Prelude.{◌%◌, ◌^◌, ◌==◌, ◌||◌, nat_lt}
use Rattle.std.specs.Int.{next_multiple_of}
use Rattle.std.specs.List.{flat_map, range_with_len}
use Rattle.std.proofs.lemmas.List.{length-append, length-replicate, append-nil}
use Rattle.std.proofs.lemmas.List.Elements.{filter-append}
use Rattle.byteorder.specs.Numbers.{little_number-reads_back}
use Rattle.elf_file.specs.Number.{number_at}
use Rattle.elf_file.specs.Constant.{PROGRAM_HEADER_SIZE, PN_XNUM}
use Rattle.elf_file.specs.Header.{headers_offset, header_count, entry_address, has_bad_magic, has_bad_class, has_bad_data, has_bad_version, has_bad_os_abi, has_bad_machine, has_bad_header_size}
use Rattle.std.proofs.Math.Seq.{take-append_seam}
use Rattle.std.proofs.lemmas.Bool.Decides.{nat_tests}
use Rattle.elf_file.specs.Segment.{program_header, program_headers, header_at, is_load, loads}
use Rattle.elf_file.specs.declared.segment.ProgramHeader.{ProgramHeader}
use Rattle.image.specs.Constant.{MEMORY_LIMIT, PAGE}
use Rattle.image.specs.Loading.{Loaded, loaded_at}
use Rattle.executable.specs.Constant.{MOST_HEADERS}
use Rattle.executable.specs.File.{file_header, header_bytes, padded, piece_bytes, load_headers, own_header, table_header, stack_header, is_below, put_in_order, table_of, front_of, file_with}
use Rattle.executable.specs.Meaning.{IsExecutable, loaded_by}
use Rattle.executable.specs.Piece.{end_of}
use Rattle.executable.specs.Place.{header_count_of, headers_size}
use Rattle.executable.proofs.Reading.{HeaderFits, AllHeadersFit, table-reads}
use Rattle.executable.proofs.Loading.{AllPermissions, pieces-loaded, own-loaded, map-put_in_order, loads-put_in_order}
use Rattle.executable.proofs.Fine.{Fine, permissions-of}
use Rattle.executable.proofs.Lengths.{length-front_of, length-table_of, length-padded, short-piece}

-- the headers of the file as a piece, mapped at address `place`
abbrev pub own_piece : ℕ → ℕ → List ℕ → Loaded
own_piece place n front = record { heading = record { address = place; permissions = 4; size = headers_size n }; contents = front }

fit-append : (xs ys : List ProgramHeader) → AllHeadersFit xs → AllHeadersFit ys → AllHeadersFit (xs ++ ys)
fit-append [] ys p q = q
fit-append (x ∷ xs) ys p q = (p.0, fit-append xs ys p.1 q)

fit-in-order : (b : Bool) (x : ProgramHeader) (xs : List ProgramHeader) → HeaderFits x → AllHeadersFit xs → AllHeadersFit (put_in_order b x xs)
fit-in-order true x xs p q = (p, q)
fit-in-order false x xs p q = fit-append xs (x ∷ []) q (p, tt)

loads-fit : (from at : ℕ) (pieces : List Loaded) → Fine from pieces → at + 2 ^ 48 * length pieces ≤ 2 ^ 63 → AllHeadersFit (load_headers at pieces)
loads-fit from at [] fine h = tt
loads-fit from at (p ∷ rest) fine h =
    let f = fine.0 in
    let low = f.low in
    let short = f.short in
    let small = f.permissions in
    let l = short-piece p (omega (arith, low, short)) in (
      record {
        kind = omega arith;
        flags = omega (arith, small);
        offset = omega (arith, h);
        address = omega (arith, low);
        file_size = omega (arith, low, short);
        memory_size = omega (arith, low);
        alignment = omega arith;
      },
      loads-fit (end_of p) (at + length (piece_bytes p)) rest fine.1 (omega (arith, h, l)),
    )

own-fits : (place n : ℕ) → place ≤ MEMORY_LIMIT → n ≤ MOST_HEADERS → HeaderFits (own_header place n)
own-fits place n p q = record {
  kind = omega arith;
  flags = omega arith;
  offset = omega arith;
  address = omega (arith, p);
  file_size = omega (arith, q);
  memory_size = omega (arith, q);
  alignment = omega arith;
}

table-fits : (place n : ℕ) → place ≤ MEMORY_LIMIT → n ≤ MOST_HEADERS → HeaderFits (table_header place n)
table-fits place n p q = record {
  kind = omega arith;
  flags = omega arith;
  offset = omega arith;
  address = omega (arith, p);
  file_size = omega (arith, q);
  memory_size = omega (arith, q);
  alignment = omega arith;
}

stack-fits : HeaderFits stack_header
stack-fits = record { kind = omega arith; flags = omega arith; offset = omega arith; address = omega arith; file_size = omega arith; memory_size = omega arith; alignment = omega arith }

-- the offset at which the pages of the pieces begin
abbrev pub start_of : List Loaded → ℕ
start_of pieces = length (padded (replicate (headers_size (header_count_of pieces)) 0))

start-is : (pieces : List Loaded) → header_count_of pieces ≤ MOST_HEADERS → start_of pieces ≤ 2 ^ 20
start-is pieces h =
    let l = length-padded (replicate (headers_size (header_count_of pieces)) 0) in
    let k = length-replicate {A = ℕ} (headers_size (header_count_of pieces)) 0 in
    omega (arith, l, k, h)

all-fit : (from place : ℕ) (pieces : List Loaded) → Fine from pieces → place ≤ MEMORY_LIMIT → header_count_of pieces ≤ MOST_HEADERS → AllHeadersFit (table_of place pieces)
all-fit from place pieces fine low few =
    let n = header_count_of pieces in
    let s = start-is pieces few in (
      table-fits place n low few,
      fit-append (put_in_order (is_below place pieces) (own_header place n) (load_headers (start_of pieces) pieces)) (stack_header ∷ [])
          (fit-in-order (is_below place pieces) (own_header place n) (load_headers (start_of pieces) pieces) (own-fits place n low few)
          (loads-fit from (start_of pieces) pieces fine (omega (arith, s, few))))
          (stack-fits, tt),
    )

-- the file has these parts, one after the other
record Parts (F : List ℕ) (entry : ℕ) (table : List ProgramHeader) (pieces : List Loaded) : Type 0 where
  is : F ≡ file_header entry (length table) ++ (flat_map header_bytes table ++ (replicate ((PAGE - length (front_of entry table) % PAGE) % PAGE) 0 ++ flat_map piece_bytes pieces))

parts : (entry : ℕ) (table : List ProgramHeader) (pieces : List Loaded) → Parts (file_with (front_of entry table) pieces) entry table pieces
unfolding file_with front_of
parts entry table pieces = record { is = simp append_assoc }

begins : (entry count : ℕ) (rest : List ℕ) → entry < 2 ^ 64 → entry_address (file_header entry count ++ rest) ≡ entry
unfolding number_at
begins entry count rest h = little_number-reads_back 8 entry (drop 32 (file_header entry count ++ rest)) h

counted : (entry count : ℕ) (rest : List ℕ) → count < 2 ^ 16 → header_count (file_header entry count ++ rest) ≡ count
unfolding number_at
counted entry count rest h = little_number-reads_back 2 count (drop 58 (file_header entry count ++ rest)) h

offset-is : (entry count : ℕ) (rest : List ℕ) → headers_offset (file_header entry count ++ rest) ≡ 64
unfolding number_at
offset-is entry count rest = refl

headers-of : (F : List ℕ) (entry : ℕ) (table : List ProgramHeader) (rest : List ℕ) → F ≡ file_header entry (length table) ++ (flat_map header_bytes table ++ rest)
    → length table < 2 ^ 16 → AllHeadersFit table → program_headers F ≡ table
unfolding program_header
headers-of F entry table rest e few fit =
    let off : headers_offset F ≡ 64 = ap headers_offset e ∙ offset-is entry (length table) (flat_map header_bytes table ++ rest) in
    let cnt : header_count F ≡ length table = ap header_count e ∙ counted entry (length table) (flat_map header_bytes table ++ rest) few in
    ap (λ (b : ℕ). map (λ i. header_at F (b + PROGRAM_HEADER_SIZE * i)) (range_with_len 0 (header_count F))) off
    ∙ ap (λ (m : ℕ). map (λ i. header_at F (64 + PROGRAM_HEADER_SIZE * i)) (range_with_len 0 m)) cnt
    ∙ table-reads F (file_header entry (length table)) rest table 0 64 e refl fit

loads-of : (F : List ℕ) (place : ℕ) (pieces : List Loaded) → program_headers F ≡ table_of place pieces
    → loads F ≡ put_in_order (is_below place pieces) (own_header place (header_count_of pieces)) (load_headers (start_of pieces) pieces)
unfolding loads
loads-of F place pieces e =
    let n = header_count_of pieces in
    let xs : List ProgramHeader = put_in_order (is_below place pieces) (own_header place n) (load_headers (start_of pieces) pieces) in
    ap (filter is_load) e
    ∙ filter-append is_load xs (stack_header ∷ [])
    ∙ append-nil (filter is_load xs)
    ∙ loads-put_in_order (is_below place pieces) place n (start_of pieces) pieces

own-here : (F front : List ℕ) (pieces : List Loaded) (place n : ℕ) → F ≡ file_with front pieces → length front ≡ headers_size n → loaded_at 0 F (own_header place n) ≡ own_piece place n front
unfolding file_with
own-here F front pieces place n e long =
    own-loaded F front (replicate ((PAGE - length front % PAGE) % PAGE) 0 ++ flat_map piece_bytes pieces) place n (e ∙ simp append_assoc) long

pieces-here : (F front : List ℕ) (pieces : List Loaded) (n : ℕ) → F ≡ file_with front pieces → length front ≡ headers_size n → AllPermissions pieces → header_count_of pieces ≡ n
    → map (loaded_at 0 F) (load_headers (start_of pieces) pieces) ≡ pieces
unfolding file_with
pieces-here F front pieces n e long perms count =
    let same : length (padded front) ≡ start_of pieces =
    length-padded front ∙ ap (λ m. next_multiple_of m PAGE) (long ∙ ap headers_size (sym count) ∙ sym (length-replicate {A = ℕ} (headers_size (header_count_of pieces)) 0))
    ∙ sym (length-padded (replicate (headers_size (header_count_of pieces)) 0)) in
    pieces-loaded F (padded front) pieces (start_of pieces) e same perms

few-headers : (size n off count : ℕ) → n ≡ count → off ≡ 64 → 0 < count → count ≤ MOST_HEADERS → 64 + 56 * count ≤ size
    → ((n == 0) || (n == PN_XNUM) || nat_lt size (off + PROGRAM_HEADER_SIZE * n)) ≡ false
few-headers size n off count e f some few long = grind (arith, nat_tests)

executable-front : (F : List ℕ) (entry count : ℕ) (rest : List ℕ) → F ≡ file_header entry count ++ rest → 0 < count → count ≤ MOST_HEADERS → 64 + 56 * count ≤ length F → IsExecutable F
unfolding number_at
executable-front F entry count rest e some few long =
    let cnt : header_count F ≡ count = ap header_count e ∙ counted entry count rest (omega (arith, few)) in
    let off : headers_offset F ≡ 64 = ap headers_offset e ∙ offset-is entry count rest in
    record {
      whole = (omega (arith, long), omega (arith, cnt, off, long));
      magic = ap has_bad_magic e;
      bits = ap has_bad_class e;
      endian = ap has_bad_data e;
      version = ap has_bad_version e;
      os_abi = ap has_bad_os_abi e;
      kind = ap (λ f. number_at 2 f 16) e;
      machine = ap has_bad_machine e;
      header_size = ap has_bad_header_size e;
      headers = few-headers (length F) (header_count F) (headers_offset F) count cnt off some few long;
    }

long-enough : (F front : List ℕ) (pieces : List Loaded) (n : ℕ) → F ≡ file_with front pieces → length front ≡ headers_size n → 64 + 56 * n ≤ length F
unfolding file_with
long-enough F front pieces n e long =
    let l = length-append (padded front) (flat_map piece_bytes pieces) in
    let k = length-append front (replicate ((PAGE - length front % PAGE) % PAGE) 0) in
    omega (arith, ap length e, l, k, long)

front-taken : (F front : List ℕ) (pieces : List Loaded) (n : ℕ) → F ≡ file_with front pieces → length front ≡ n → take n F ≡ front
unfolding file_with
front-taken F front pieces n e long =
    let zeros : List ℕ = replicate ((PAGE - length front % PAGE) % PAGE) 0 in
    ap (λ s. take n s) (e ∙ append_assoc front zeros (flat_map piece_bytes pieces))
    ∙ ap (λ k. take k (front ++ (zeros ++ flat_map piece_bytes pieces))) (sym long)
    ∙ take-append_seam front (zeros ++ flat_map piece_bytes pieces)

-- the file has the program headers of these pieces, and loads exactly the pieces and its own headers
pub record Made (F : List ℕ) (entry place : ℕ) (pieces : List Loaded) : Type 0 where
  pub headers : program_headers F ≡ table_of place pieces
  pub loads : loads F ≡ put_in_order (is_below place pieces) (own_header place (header_count_of pieces)) (load_headers (start_of pieces) pieces)
  pub loaded : loaded_by F ≡ put_in_order (is_below place pieces) (own_piece place (header_count_of pieces) (front_of entry (table_of place pieces))) pieces
  pub begins : entry_address F ≡ entry
  pub executable : IsExecutable F
  pub front : take (headers_size (header_count_of pieces)) F ≡ front_of entry (table_of place pieces)

pub made : (entry place : ℕ) (pieces : List Loaded) → Fine 0 pieces → place ≤ MEMORY_LIMIT → entry ≤ MEMORY_LIMIT → header_count_of pieces ≤ MOST_HEADERS
    → Made (file_with (front_of entry (table_of place pieces)) pieces) entry place pieces
made entry place pieces fine low small few =
    let table = table_of place pieces in
    let front = front_of entry table in
    let F = file_with front pieces in
    let n = header_count_of pieces in
    let count : length table ≡ n = length-table_of place pieces in
    let p = (parts entry table pieces).is in
    let hs : program_headers F ≡ table = headers-of F entry table _ p (omega (arith, count, few)) (all-fit 0 place pieces fine low few) in
    let ls = loads-of F place pieces hs in
    let long : length front ≡ headers_size n = length-front_of entry table ∙ ap headers_size count in
    record {
      headers = hs;
      loads = ls;
      loaded =
          ap (map (loaded_at 0 F)) ls
          ∙ map-put_in_order (loaded_at 0 F) (is_below place pieces) (own_header place n) (load_headers (start_of pieces) pieces)
          ∙ ap (λ x. put_in_order (is_below place pieces) x (map (loaded_at 0 F) (load_headers (start_of pieces) pieces))) (own-here F front pieces place n refl long)
          ∙ ap (λ xs. put_in_order (is_below place pieces) (own_piece place n front) xs) (pieces-here F front pieces n refl long (permissions-of 0 pieces fine) refl);
      begins = ap entry_address p ∙ begins entry (length table) _ (omega (arith, small));
      executable = executable-front F entry (length table) _ p (omega (arith, count)) (omega (arith, count, few)) (long-enough F front pieces (length table) refl (length-front_of entry table));
      front = front-taken F front pieces (headers_size n) refl long;
    }
