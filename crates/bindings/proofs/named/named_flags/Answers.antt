use Rattle.std.proofs.Common.{◌≡◌, ◌+◌, ◌++◌, ◌∷◌, [], Bool, List, length, drop, take, ap, sym, subst, ◌∙◌, arith}
use Rattle.std.proofs.Math.Seq.{take-append_seam}
use Rattle.elf_dynamic.specs.Relocation.{relocations}
use Rattle.elf_dynamic.specs.Symbol.{symbols}
use Rattle.elf_dynamic.specs.declared.relocation.Relocation.{Relocation}
use Rattle.image.proofs.Landing.{symbol-there}
use Rattle.image.proofs.Placing.{take_next}
use Rattle.bindings.specs.inside.Flags.{AreFlags}
use Rattle.bindings.proofs.named.named_flags.Goals as goal

pub note-requires : goal.note-requires
note-requires c = λ uses.
    let obj = c.args.object.now in
    let r : Relocation = c.rela-relocation.result in
    omega (
      arith,
      symbol-there obj c.loop-i.i r c.rela-relocation.ensures.accepted c.rela-relocation.ensures.relocation uses,
      c.loop-i.invariant.counted,
      c.symbol_count.ensures.count,
      c.symbol_count.ensures.chains,
      ap length c.deref_mut.ensures.value,
    )

pub loop-i-preserved : goal.loop-i-preserved
loop-i-preserved c =
    let rs : List Relocation = relocations c.args.object.now in
    let i = c.loop-i.i in
    let r : Relocation = c.rela-relocation.result in
    let n = length (symbols c.args.object.now) in
    let noted : AreFlags n (take i rs ++ r ∷ []) c.note.new.flags =
    c.note.ensures n (take i rs) (subst (AreFlags n (take i rs)) (sym c.deref_mut.ensures.value) c.loop-i.invariant) in
    let size : c.loop-i.flags.len ≡ length c.note.new.flags = omega (arith, c.note.auto.flags, c.deref_mut.ensures.len) in
    let whole : take c.loop-i.flags.len (c.note.new.flags ++ drop (length c.note.new.flags) c.loop-i.flags.items) ≡ c.note.new.flags =
    ap (λ k. take k (c.note.new.flags ++ drop (length c.note.new.flags) c.loop-i.flags.items)) size
    ∙ take-append_seam c.note.new.flags (drop (length c.note.new.flags) c.loop-i.flags.items) in
    subst (λ (l : List Bool). AreFlags n (take (i + 1) rs) l) (sym whole)
    (subst (λ (l : List Relocation). AreFlags n l c.note.new.flags) (sym (take_next rs i r c.rela-relocation.ensures.relocation)) noted)
