-- An object is tested in four stages. Its refusal is that of the first stage that refuses it.
use Rattle.std.proofs.Common.{◌≡◌, ℕ, List, ◌++◌, Some, None, refl, sym, subst, ◌∙◌}
use Rattle.elf_file.specs.FirstOf.{first_of}
use Rattle.elf_file.specs.Refusal.{header_tests, segment_tests, tag_tests, file_refusal}
use Rattle.elf_dynamic.specs.Refusal.{table_tests, table_refusal, symbol_tests, symbol_refusal, relocation_tests, relocation_refusal, first_refusal}
use Rattle.elf_file.specs.declared.refusal.ObjectRefusal.{ObjectRefusal}
use Rattle.elf_file.proofs.FirstOf.{of_first, of_others}

-- if the stage of the headers, segments and tags refuses the file, this is the file's refusal
pub file_refuses : (file : List ℕ) (refusal : ObjectRefusal) → file_refusal file ≡ Some refusal → first_refusal file ≡ Some refusal
unfolding file_refusal first_refusal
file_refuses file refusal h =
    of_first (header_tests file ++ segment_tests file ++ tag_tests file) (table_tests file ++ symbol_tests file ++ relocation_tests file) refusal h

behind_file : (file : List ℕ) → file_refusal file ≡ None → first_refusal file ≡ first_of (table_tests file ++ symbol_tests file ++ relocation_tests file)
unfolding file_refusal first_refusal
behind_file file h = of_others (header_tests file ++ segment_tests file ++ tag_tests file) (table_tests file ++ symbol_tests file ++ relocation_tests file) h

-- if the first stage passes and the stage of the tables refuses the file, this is the file's refusal
pub table_refuses : (file dynamic : List ℕ) (refusal : ObjectRefusal) → dynamic ≡ file → file_refusal file ≡ None → table_refusal dynamic ≡ Some refusal
    → first_refusal file ≡ Some refusal
unfolding table_refusal
table_refuses file dynamic refusal same fine h =
    behind_file file fine ∙ of_first (table_tests file) (symbol_tests file ++ relocation_tests file) refusal (subst (λ f. table_refusal f ≡ Some refusal) same h)

behind_tables : (file dynamic : List ℕ) → dynamic ≡ file → file_refusal file ≡ None → table_refusal dynamic ≡ None
    → first_refusal file ≡ first_of (symbol_tests file ++ relocation_tests file)
unfolding table_refusal
behind_tables file dynamic same fine h =
    behind_file file fine ∙ of_others (table_tests file) (symbol_tests file ++ relocation_tests file) (subst (λ f. table_refusal f ≡ None) same h)

-- if the first two stages pass and the stage of the symbols refuses the file, this is the file's refusal
pub symbol_refuses : (file dynamic tables : List ℕ) (refusal : ObjectRefusal) → dynamic ≡ file → tables ≡ dynamic → file_refusal file ≡ None
    → table_refusal dynamic ≡ None → symbol_refusal tables ≡ Some refusal → first_refusal file ≡ Some refusal
unfolding symbol_refusal
symbol_refuses file dynamic tables refusal same also fine found h =
    behind_tables file dynamic same fine found
    ∙ of_first (symbol_tests file) (relocation_tests file) refusal (subst (λ f. symbol_refusal f ≡ Some refusal) (also ∙ same) h)

-- if the first three stages pass, the refusal of the file is that of its relocations
pub behind_symbols : (file dynamic tables : List ℕ) → dynamic ≡ file → tables ≡ dynamic → file_refusal file ≡ None → table_refusal dynamic ≡ None
    → symbol_refusal tables ≡ None → first_refusal file ≡ relocation_refusal tables
unfolding symbol_refusal relocation_refusal
behind_symbols file dynamic tables same also fine found h =
    behind_tables file dynamic same fine found
    ∙ of_others (symbol_tests file) (relocation_tests file) (subst (λ f. symbol_refusal f ≡ None) (also ∙ same) h)
    ∙ subst (λ f. relocation_refusal file ≡ relocation_refusal f) (sym (also ∙ same)) refl

pub ruleset stages = (file_refuses, behind_symbols)
