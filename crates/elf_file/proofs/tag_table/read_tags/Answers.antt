use Rattle.std.proofs.Common.{◌≡◌, ◌≢◌, arith, sym, ap, ◌∙◌, get_or, subst, List, refl}
use Rattle.elf_file.specs.Constant.{DT_NULL}
use Rattle.elf_file.specs.Dynamic.{entry}
use Rattle.elf_file.specs.inside.Tags.{slot_and, IsTable}
use Rattle.elf_file.specs.declared.entry.Entry.{Entry}
use Rattle.elf_file.proofs.TagTables.{table-more, table-small, none-more, ended, not_ended}
use Rattle.elf_file.proofs.tag_table.read_tags.Goals as goal

pub loop-i-init : goal.loop-i-init
loop-i-init c = record { none = refl; slots = c.empty-table.ensures }

pub returns-then-entry-eq-DT_NULL : goal.returns-then-entry-eq-DT_NULL
returns-then-entry-eq-DT_NULL c =
    let section = c.args.section.now in
    let i = c.loop-i.i in
    let null : (entry section i).tag ≡ DT_NULL = ap (λ e. e.tag) (sym c.nth_entry-entry.ensures) ∙ c.if-entry-eq-DT_NULL.true in
    let end = ended section i (omega arith) c.loop-i.invariant.none null in
    (end.0, record { entries = sym end.1; within = omega arith; table = subst (λ (es : List Entry). IsTable es c.loop-i.table.slots) end.1 c.loop-i.invariant.slots })

pub add-requires : goal.add-requires
add-requires c = λ n k d at. omega (arith, table-small c.args.section.now c.loop-i.i c.loop-i.table.slots c.loop-i.invariant.slots n k d at)

pub loop-i-preserved : goal.loop-i-preserved
loop-i-preserved c =
    let section = c.args.section.now in
    let i = c.loop-i.i in
    let other : (entry section i).tag ≢ DT_NULL = subst (λ (e : Entry). e.tag ≢ DT_NULL) c.nth_entry-entry.ensures c.if-entry-eq-DT_NULL.false in
    record {
      none = none-more section i c.loop-i.invariant.none other;
      slots = table-more section i c.loop-i.table.slots c.add.new.self.slots c.loop-i.invariant.slots
          (λ n k d at. c.add.ensures n k d at ∙ ap (λ e. slot_and n e (get_or c.loop-i.table.slots k d)) c.nth_entry-entry.ensures);
    }

pub returns : goal.returns
returns c = not_ended c.args.section.now c.loop-i.i (omega arith) c.loop-i.invariant.none
