use Rattle.std.proofs.Common.{ap, sym, ◌∙◌, ◌≡◌, List, ℕ, Bool, true, false}
use Rattle.std.specs.List.{list_any}
use Rattle.elf_dynamic.specs.Relocation.{relocations_in, rela_table, jmprel_table, relocations, is_misplaced, has_bad_place}
use Rattle.elf_dynamic.proofs.TableEntries.{any_both}
use Rattle.elf_dynamic.proofs.tables.Tables.has_bad_place.Goals as goal

in-part : (file same part table : List ℕ) (r : Bool) → r ≡ list_any (is_misplaced same) (relocations_in part) → same ≡ file → part ≡ table
    → list_any (is_misplaced file) (relocations_in table) ≡ r
in-part file same part table r is e f =
    sym (is ∙ ap (λ g. list_any (is_misplaced g) (relocations_in part)) e ∙ ap (λ t. list_any (is_misplaced file) (relocations_in t)) f)

pub returns-then-has_misplaced_in : goal.returns-then-has_misplaced_in
unfolding has_bad_place relocations
returns-then-has_misplaced_in c =
    let file = c.args.self.now in
    let first = in-part file c.indexed-segments.result c.rela.result.now (rela_table file)
    c.has_misplaced_in.result c.has_misplaced_in.ensures (c.indexed-segments.ensures ∙ c.segments.ensures) c.rela.ensures in
    c.if-has_misplaced_in.true ∙ sym (any_both (is_misplaced file) (rela_table file) (jmprel_table file) true (first ∙ c.if-has_misplaced_in.true))

pub returns-else-has_misplaced_in : goal.returns-else-has_misplaced_in
unfolding has_bad_place relocations
returns-else-has_misplaced_in c =
    let file = c.args.self.now in
    let first = in-part file c.indexed-segments.result c.rela.result.now (rela_table file)
    c.has_misplaced_in.result c.has_misplaced_in.ensures (c.indexed-segments.ensures ∙ c.segments.ensures) c.rela.ensures in
    let second = in-part file c.indexed-segments.result c.jmprel.result.now (jmprel_table file)
    c.has_misplaced_in-else-has_misplaced_in.result c.has_misplaced_in-else-has_misplaced_in.ensures (c.indexed-segments.ensures ∙ c.segments.ensures) c.jmprel.ensures in
    sym (any_both (is_misplaced file) (rela_table file) (jmprel_table file) false (first ∙ c.if-has_misplaced_in.false) ∙ second)
