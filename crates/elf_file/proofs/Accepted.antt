-- Facts about a file that no test refuses.
use Rattle.std.proofs.Common.{◌≡◌, ℕ, ◌+◌, ◌*◌, ◌≤◌, Bool, true, false, List, ◌++◌, length, arith, None, nat_lt}
use Rattle.std.specs.Prelude.{◌||◌, ◌==◌, not}
use Rattle.std.proofs.lemmas.Bool.Decides.{nat_tests}
use Rattle.elf_file.specs.Constant.{FILE_HEADER_SIZE, PROGRAM_HEADER_SIZE, PN_XNUM}
use Rattle.elf_file.specs.Header.{headers_offset, header_count, is_too_short, has_bad_program_headers, HasHeaders}
use Rattle.elf_file.specs.Segment.{has_load, has_bad_load, has_bad_segment, is_too_large, has_bad_order}
use Rattle.elf_file.specs.Dynamic.{has_bad_dynamic}
use Rattle.elf_file.specs.Refusal.{header_tests, header_refusal, segment_tests, segment_refusal, tag_tests, file_refusal}
use Rattle.elf_file.specs.inside.Index.{HasSegments}
use Rattle.elf_file.specs.declared.refusal.ObjectRefusal.TheVariants.{TooShort, BadProgramHeaders, BadSegment, TooLarge, SegmentOrder, BadDynamic}
use Rattle.elf_file.proofs.FirstOf.{none_at, when_none, none_first, none_behind}

or-false_right : (a b : Bool) → (a || b) ≡ false → b ≡ false
or-false_right true b h = cc
or-false_right false b h = h

long-by : (n : ℕ) → nat_lt n FILE_HEADER_SIZE ≡ false → FILE_HEADER_SIZE ≤ n
long-by n h = grind (arith, nat_tests)

within-by : (count size end : ℕ) → ((count == 0) || (count == PN_XNUM) || nat_lt size end) ≡ false → end ≤ size
within-by count size end h = grind (arith, nat_tests)

-- if E1 to E10 don't refuse a file, its headers lie within the file
pub has_headers : (file : List ℕ) → header_refusal file ≡ None → HasHeaders file
unfolding header_refusal
has_headers file h = (
  long-by (length file) (when_none TooShort (is_too_short file) (none_at (header_tests file) 0 h)),
  within-by (header_count file) (length file) (headers_offset file + PROGRAM_HEADER_SIZE * header_count file)
      (when_none BadProgramHeaders (has_bad_program_headers file) (none_at (header_tests file) 9 h)),
)

-- if E11 to E14 don't refuse a file, its PT_LOADs follow the rules, and each begins at or above the end
-- of the one before it
pub has_segments : (file : List ℕ) → segment_refusal file ≡ None → HasSegments file
unfolding segment_refusal
has_segments file h = record {
  loads_fit = or-false_right (not (has_load file)) (has_bad_load file) (when_none BadSegment (has_bad_segment file) (none_at (segment_tests file) 1 h));
  low = when_none TooLarge (is_too_large file) (none_at (segment_tests file) 2 h);
  in_order = when_none SegmentOrder (has_bad_order file) (none_at (segment_tests file) 3 h);
}

-- if E1 to E21 don't refuse a file, E1 to E10 don't refuse its headers
pub headers_accepted : (file : List ℕ) → file_refusal file ≡ None → header_refusal file ≡ None
unfolding file_refusal header_refusal
headers_accepted file h = none_first (header_tests file) (segment_tests file ++ tag_tests file) h

-- if E1 to E21 don't refuse a file, E11 to E14 don't refuse its segments
pub segments_accepted : (file : List ℕ) → file_refusal file ≡ None → segment_refusal file ≡ None
unfolding file_refusal segment_refusal
segments_accepted file h = none_first (segment_tests file) (tag_tests file) (none_behind (header_tests file) (segment_tests file ++ tag_tests file) h)

-- if E1 to E21 don't refuse a file, its dynamic section isn't bad
pub section_accepted : (file : List ℕ) → file_refusal file ≡ None → has_bad_dynamic file ≡ false
unfolding file_refusal
section_accepted file h = when_none BadDynamic (has_bad_dynamic file) (none_at (header_tests file ++ segment_tests file ++ tag_tests file) 14 h)
