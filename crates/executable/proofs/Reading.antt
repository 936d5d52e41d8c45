-- The program headers that are read from a file are those that were written.
use Rattle.std.proofs.Common.{◌≡◌, ℕ, ◌+◌, ◌*◌, ◌<◌, List, [], ◌∷◌, ◌++◌, length, map, drop, refl, sym, ap, ◌∙◌, arith, append_assoc}
use Rattle.std.specs.Prelude.{◌^◌}
use Rattle.std.specs.List.{flat_map, range_with_len}
use Rattle.std.proofs.Math.Seq.{drop-append-add}
use Rattle.std.proofs.lemmas.List.{length-append}
use Rattle.byteorder.specs.Endian.{little_number}
use Rattle.byteorder.specs.Numbers.{little_number-reads_back}
use Rattle.elf_file.specs.Number.{number_at}
use Rattle.elf_file.specs.Constant.{PROGRAM_HEADER_SIZE}
use Rattle.elf_file.specs.Segment.{header_at}
use Rattle.elf_file.specs.declared.segment.ProgramHeader.{ProgramHeader}
use Rattle.executable.specs.File.{header_bytes}

-- each field of a program header fits into its bytes
pub record HeaderFits (h : ProgramHeader) : Type 0 where
  pub kind : h.kind < 256 ^ 4
  pub flags : h.flags < 256 ^ 4
  pub offset : h.offset < 256 ^ 8
  pub address : h.address < 256 ^ 8
  pub file_size : h.file_size < 256 ^ 8
  pub memory_size : h.memory_size < 256 ^ 8
  pub alignment : h.alignment < 256 ^ 8

abbrev pub AllHeadersFit : List ProgramHeader → Type 0
AllHeadersFit [] = Unit {0}
AllHeadersFit (h ∷ rest) = HeaderFits h × AllHeadersFit rest

-- a number at an offset after `pre` is the number at the rest of this offset in the bytes after `pre`
behind : (F pre xs : List ℕ) (n at k : ℕ) → F ≡ pre ++ xs → length pre ≡ at → number_at n F (at + k) ≡ little_number n (drop k xs)
unfolding number_at
behind F pre xs n at k e f = ap (little_number n) (ap (λ s. drop (at + k) s) e ∙ ap (λ m. drop (m + k) (pre ++ xs)) (sym f) ∙ drop-append-add pre xs k)

same-headers : (a b c d e f g a' b' c' d' e' f' g' : ℕ) → a ≡ a' → b ≡ b' → c ≡ c' → d ≡ d' → e ≡ e' → f ≡ f' → g ≡ g'
    → (let h : ProgramHeader = record { kind = a; flags = b; offset = c; address = d; file_size = e; memory_size = f; alignment = g } in h)
    ≡ (let h : ProgramHeader = record { kind = a'; flags = b'; offset = c'; address = d'; file_size = e'; memory_size = f'; alignment = g' } in h)
same-headers a b c d e f g a' b' c' d' e' f' g' p q r s t u v = cc

-- a program header that was written is read back unchanged
pub header-reads : (F pre post : List ℕ) (h : ProgramHeader) (at : ℕ) → F ≡ pre ++ (header_bytes h ++ post) → length pre ≡ at → HeaderFits h → header_at F at ≡ h
unfolding header_bytes
header-reads F pre post h at e f fit =
    let xs : List ℕ = header_bytes h ++ post in
    let start : at ≡ at + 0 = omega arith in
    same-headers _ _ _ _ _ _ _ h.kind h.flags h.offset h.address h.file_size h.memory_size h.alignment
    (ap (number_at 4 F) start ∙ behind F pre xs 4 at 0 e f ∙ little_number-reads_back 4 h.kind (drop 4 xs) fit.kind)
    (behind F pre xs 4 at 4 e f ∙ little_number-reads_back 4 h.flags (drop 8 xs) fit.flags)
    (behind F pre xs 8 at 8 e f ∙ little_number-reads_back 8 h.offset (drop 16 xs) fit.offset)
    (behind F pre xs 8 at 16 e f ∙ little_number-reads_back 8 h.address (drop 24 xs) fit.address)
    (behind F pre xs 8 at 32 e f ∙ little_number-reads_back 8 h.file_size (drop 40 xs) fit.file_size)
    (behind F pre xs 8 at 40 e f ∙ little_number-reads_back 8 h.memory_size (drop 48 xs) fit.memory_size)
    (behind F pre xs 8 at 48 e f ∙ little_number-reads_back 8 h.alignment (drop 56 xs) fit.alignment)

pub length-header_bytes : (h : ProgramHeader) → length (header_bytes h) ≡ 56
unfolding header_bytes
length-header_bytes h = refl

-- program headers that were written one after the other are read back unchanged
pub table-reads : (F pre post : List ℕ) (hs : List ProgramHeader) (a b : ℕ) → F ≡ pre ++ (flat_map header_bytes hs ++ post) → length pre ≡ b + PROGRAM_HEADER_SIZE * a
    → AllHeadersFit hs → map (λ i. header_at F (b + PROGRAM_HEADER_SIZE * i)) (range_with_len a (length hs)) ≡ hs
table-reads F pre post [] a b e f fit = refl
table-reads F pre post (h ∷ rest) a b e f fit =
    let more : List ℕ = flat_map header_bytes rest ++ post in
    let here : header_at F (b + PROGRAM_HEADER_SIZE * a) ≡ h =
    header-reads F pre more h (b + PROGRAM_HEADER_SIZE * a) (e ∙ ap (λ s. pre ++ s) (append_assoc (header_bytes h) (flat_map header_bytes rest) post)) f fit.0 in
    let there : map (λ i. header_at F (b + PROGRAM_HEADER_SIZE * i)) (range_with_len (a + 1) (length rest)) ≡ rest =
    table-reads F (pre ++ header_bytes h) post rest (a + 1) b
    (e ∙ ap (λ s. pre ++ s) (append_assoc (header_bytes h) (flat_map header_bytes rest) post) ∙ sym (append_assoc pre (header_bytes h) more))
    (let l = length-append pre (header_bytes h) in omega (arith, l, length-header_bytes h, f)) fit.1 in
    ap (λ x. x ∷ map (λ i. header_at F (b + PROGRAM_HEADER_SIZE * i)) (range_with_len (a + 1) (length rest))) here ∙ ap (λ xs. h ∷ xs) there
