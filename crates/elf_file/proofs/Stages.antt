-- A file is tested in three stages. Its refusal is that of the first stage that refuses it.
use Rattle.std.proofs.Common.{◌≡◌, ℕ, List, ◌++◌, Some, None, refl, sym, subst, ◌∙◌}
use Rattle.elf_file.specs.FirstOf.{first_of}
use Rattle.elf_file.specs.Refusal.{header_tests, header_refusal, segment_tests, segment_refusal, tag_tests, tag_refusal, file_refusal}
use Rattle.elf_file.specs.declared.refusal.ObjectRefusal.{ObjectRefusal}
use Rattle.elf_file.proofs.FirstOf.{of_first, of_others}

-- if the stage of the headers refuses the file, this is the file's refusal
pub header_refuses : (file : List ℕ) (refusal : ObjectRefusal) → header_refusal file ≡ Some refusal → file_refusal file ≡ Some refusal
unfolding header_refusal file_refusal
header_refuses file refusal h = of_first (header_tests file) (segment_tests file ++ tag_tests file) refusal h

-- if the headers pass, the refusal is that of the other two stages
behind_headers : (file : List ℕ) → header_refusal file ≡ None → file_refusal file ≡ first_of (segment_tests file ++ tag_tests file)
unfolding header_refusal file_refusal
behind_headers file h = of_others (header_tests file) (segment_tests file ++ tag_tests file) h

pub segment_refuses : (file headers : List ℕ) (refusal : ObjectRefusal) → headers ≡ file → header_refusal file ≡ None → segment_refusal headers ≡ Some refusal
    → file_refusal file ≡ Some refusal
unfolding segment_refusal
segment_refuses file headers refusal same fine h =
    behind_headers file fine ∙ of_first (segment_tests file) (tag_tests file) refusal (subst (λ f. segment_refusal f ≡ Some refusal) same h)

-- if the headers and the segments pass, the refusal is that of the last stage
pub behind_segments : (file headers segments : List ℕ) → headers ≡ file → segments ≡ headers → header_refusal file ≡ None → segment_refusal headers ≡ None
    → file_refusal file ≡ tag_refusal segments
unfolding segment_refusal tag_refusal
behind_segments file headers segments same also fine taken =
    behind_headers file fine
    ∙ of_others (segment_tests file) (tag_tests file) (subst (λ f. segment_refusal f ≡ None) same taken)
    ∙ subst (λ f. tag_refusal file ≡ tag_refusal f) (sym (also ∙ same)) refl

pub ruleset stages = (header_refuses, segment_refuses, behind_segments)
