-- The tests of headers, segments and tags, in the order in which they are made. Each test is stated
-- for the whole file.
use Rattle.std.specs.Prelude.{ℕ, List, [], ◌∷◌, ◌++◌, Option}
use Rattle.elf_file.specs.FirstOf.{◌when◌, first_of}
use Rattle.elf_file.specs.Header.{is_too_short, has_bad_magic, has_bad_class, has_bad_data, has_bad_version, has_bad_os_abi}
use Rattle.elf_file.specs.Header.{has_bad_type, has_bad_machine, has_bad_header_size, has_bad_program_headers}
use Rattle.elf_file.specs.Segment.{has_tls_segment, has_bad_segment, is_too_large, has_bad_order}
use Rattle.elf_file.specs.Dynamic.{has_bad_dynamic, has_duplicate_tag, has_symbol_versions, has_unsupported_tag}
use Rattle.elf_file.specs.Dynamic.{has_no_hash_table, has_missing_tag, has_bad_entry_size}
use Rattle.elf_file.specs.declared.refusal.ObjectRefusal.{ObjectRefusal}
use Rattle.elf_file.specs.declared.refusal.ObjectRefusal.TheVariants.{TooShort, BadMagic, BadClass, BadData, BadVersion, BadOsAbi, BadType}
use Rattle.elf_file.specs.declared.refusal.ObjectRefusal.TheVariants.{BadMachine, BadHeaderSize, BadProgramHeaders, TlsSegment, BadSegment}
use Rattle.elf_file.specs.declared.refusal.ObjectRefusal.TheVariants.{TooLarge, SegmentOrder, BadDynamic, DuplicateTag, SymbolVersions}
use Rattle.elf_file.specs.declared.refusal.ObjectRefusal.TheVariants.{UnsupportedTag, NoHashTable, MissingTag, BadEntrySize}

-- the tests of the file header and the place of the program headers, E1 to E10, in their order
abbrev pub header_tests : List ℕ → List (Option ObjectRefusal)
header_tests file =
    (TooShort when is_too_short file)
    ∷ (BadMagic when has_bad_magic file)
    ∷ (BadClass when has_bad_class file)
    ∷ (BadData when has_bad_data file)
    ∷ (BadVersion when has_bad_version file)
    ∷ (BadOsAbi when has_bad_os_abi file)
    ∷ (BadType when has_bad_type file)
    ∷ (BadMachine when has_bad_machine file)
    ∷ (BadHeaderSize when has_bad_header_size file)
    ∷ (BadProgramHeaders when has_bad_program_headers file)
    ∷ []

-- the first of E1 to E10 that applies, or none
unfoldable pub header_refusal : List ℕ → Option ObjectRefusal
header_refusal file = first_of (header_tests file)

-- the tests of the program headers, E11 to E14, in their order
abbrev pub segment_tests : List ℕ → List (Option ObjectRefusal)
segment_tests file =
    (TlsSegment when has_tls_segment file)
    ∷ (BadSegment when has_bad_segment file)
    ∷ (TooLarge when is_too_large file)
    ∷ (SegmentOrder when has_bad_order file)
    ∷ []

-- the first of E11 to E14 that applies, or none
unfoldable pub segment_refusal : List ℕ → Option ObjectRefusal
segment_refusal file = first_of (segment_tests file)

-- the tests of the dynamic section and its tags, E15 to E21, in their order
abbrev pub tag_tests : List ℕ → List (Option ObjectRefusal)
tag_tests file =
    (BadDynamic when has_bad_dynamic file)
    ∷ (DuplicateTag when has_duplicate_tag file)
    ∷ (SymbolVersions when has_symbol_versions file)
    ∷ (UnsupportedTag when has_unsupported_tag file)
    ∷ (NoHashTable when has_no_hash_table file)
    ∷ (MissingTag when has_missing_tag file)
    ∷ (BadEntrySize when has_bad_entry_size file)
    ∷ []

-- the first of E15 to E21 that applies, or none
unfoldable pub tag_refusal : List ℕ → Option ObjectRefusal
tag_refusal file = first_of (tag_tests file)

-- the first of E1 to E21 that applies, or none
unfoldable pub file_refusal : List ℕ → Option ObjectRefusal
file_refusal file = first_of (header_tests file ++ segment_tests file ++ tag_tests file)
