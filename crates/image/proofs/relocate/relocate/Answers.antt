use Rattle.std.proofs.Common.{◌≡◌, ◌+◌, ◌++◌, [], ◌∷◌, List, map, take, ap, ◌∙◌, sym, refl, subst, arith}
use Rattle.std.specs.Prelude.{IfSome}
use Rattle.std.specs.List.{filter_map}
use Rattle.std.proofs.lemmas.List.{take_all}
use Rattle.elf_file.specs.Segment.{loads}
use Rattle.elf_dynamic.specs.Relocation.{relocations}
use Rattle.elf_dynamic.specs.declared.relocation.Relocation.{Relocation}
use Rattle.image.specs.Bound.{value_in}
use Rattle.image.specs.Heading.{Heading}
use Rattle.image.specs.Image.{segments_byte}
use Rattle.image.specs.Loading.{heading_at}
use Rattle.image.specs.Relocating.{last_write_at, write_with, written_or}
use Rattle.image.specs.inside.Segments.{Lands, Rising, after}
use Rattle.image.proofs.Landing.{relocation-lands}
use Rattle.image.proofs.Placing.{loads-rising, take_next}
use Rattle.image.proofs.Relocating.{written_or-more}
use Rattle.image.proofs.Stacking.{rising-weaken}
use Rattle.image.proofs.relocate.relocate.Goals as goal

pub loop-i-init : goal.loop-i-init
loop-i-init c = record {
  headings = refl;
  bytes = λ a. refl;
}

pub relocate_one-requires-clause-rising : goal.relocate_one-requires-clause-rising
relocate_one-requires-clause-rising c =
    let base = c.args.base in
    let file = c.args.object.now in
    let hs : List Heading = map (heading_at base) (loads file) in
    subst (Rising 0) (sym (c.loop-i.invariant.headings ∙ c.requires.headings))
    (rising-weaken 0 base hs (omega arith) (loads-rising base file c.rela-relocation.ensures.accepted))

pub relocate_one-requires-clause-lands : goal.relocate_one-requires-clause-lands
relocate_one-requires-clause-lands c =
    let base = c.args.base in
    let values = value_in c.args.values.now in
    let r : Relocation = c.rela-relocation.result in
    subst (λ (hs : List Heading). IfSome (write_with base values r) (Lands hs)) (sym (c.loop-i.invariant.headings ∙ c.requires.headings))
    (relocation-lands base c.args.object.now values c.loop-i.i r c.requires.fits c.rela-relocation.ensures.accepted c.rela-relocation.ensures.relocation)

pub loop-i-preserved : goal.loop-i-preserved
loop-i-preserved c =
    let i = c.loop-i.i in
    let r : Relocation = c.rela-relocation.result in
    let all : List Relocation = relocations c.args.object.now in
    let done : List Relocation = take i all in
    let more : take (i + 1) all ≡ done ++ r ∷ [] = take_next all i r c.rela-relocation.ensures.relocation in
    let f = write_with c.args.base (value_in c.args.values.now) in
    record {
      headings = c.relocate_one.ensures.headings ∙ c.loop-i.invariant.headings;
      bytes = λ a.
          let start = segments_byte c.args.segments.now a in
          c.in_ok-near.ensures.bytes a ∙ ap (λ o. after (f r) o a) (c.loop-i.invariant.bytes a)
          ∙ sym (written_or-more f done r start a) ∙ ap (λ (l : List Relocation). written_or (last_write_at (filter_map f l) a) start a) (sym more);
    }

pub returns-clause-bytes : goal.returns-clause-bytes
returns-clause-bytes c =
    let all : List Relocation = relocations c.args.object.now in
    λ a.
    let start = segments_byte c.args.segments.now a in
    c.loop-i.invariant.bytes a
    ∙ ap (λ (l : List Relocation). written_or (last_write_at (filter_map (write_with c.args.base (value_in c.args.values.now)) l) a) start a)
    (take_all c.loop-i.i all (omega (arith, c.rela_count-i-end.ensures.count)))
