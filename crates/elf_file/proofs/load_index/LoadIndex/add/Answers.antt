use Rattle.std.proofs.Common.{◌≡◌, ◌<◌, ◌+◌, ◌∙◌, sym, arith, true, false, subst}
use Rattle.elf_file.specs.Segment.{is_load, program_header}
use Rattle.elf_file.specs.inside.Index.{is_spanned, Indexes}
use Rattle.elf_file.specs.declared.load_index.LoadIndex.{LoadIndex}
use Rattle.elf_file.proofs.Blocks.{block_fits, index_other, index_spanned, index_block}
use Rattle.elf_file.proofs.load_index.LoadIndex.add.Goals as goal

pub returns-then-not-is_load : goal.returns-then-not-is_load
returns-then-not-is_load c =
    index_other c.args.headers.now c.args.i c.args.self.now c.requires.indexes (sym c.is_load.ensures ∙ c.if-not-is_load.true)

pub begin_block-requires : goal.begin_block-requires
begin_block-requires c =
    let small : c.args.i < 65536 = omega arith in
    let free : is_spanned c.args.self.now c.args.i ≡ false = sym c.spans.ensures ∙ c.if-not-spans.true in
    record {
      room = block_fits c.args.headers.now c.args.self.now c.args.i c.requires.indexes small free;
      header = small;
    }

pub returns-then-not-spans : goal.returns-then-not-spans
returns-then-not-spans c =
    let file = c.args.headers.now in
    let i = c.args.i in
    let old = c.args.self.now in
    let is : is_load (program_header file i) ≡ true = sym c.is_load.ensures ∙ c.if-not-is_load.false in
    let free : is_spanned old i ≡ false = sym c.spans.ensures ∙ c.if-not-spans.true in
    subst (λ (index : LoadIndex). Indexes file (i + 1) index) (sym c.begin_block.ensures)
    (index_block file i old c.requires.indexes is free (block_fits file old i c.requires.indexes (omega arith) free))

pub returns-else-not-spans : goal.returns-else-not-spans
returns-else-not-spans c =
    let file = c.args.headers.now in
    let i = c.args.i in
    let is : is_load (program_header file i) ≡ true = sym c.is_load.ensures ∙ c.if-not-is_load.false in
    let full : is_spanned c.args.self.now i ≡ true = sym c.spans.ensures ∙ c.if-not-spans.false in
    index_spanned file i c.args.self.now c.requires.indexes is full
