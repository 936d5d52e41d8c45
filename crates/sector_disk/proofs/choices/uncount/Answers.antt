use Rattle.std.proofs.Common.{◌≡◌, ◌+◌, ◌-◌, ◌<◌, ℕ, [], ◌∷◌, List, All, length, get_or, take, drop, refl, sym, ◌∙◌, ap, subst, arith, get_or-take, length-take}
use Rattle.std.proofs.lemmas.List.{drop_all, drop_more, get_or-drop, take_rest, length-set}
use Rattle.sector_disk.specs.declared.written.Written.{Written}
use Rattle.sector_disk.specs.Written.{written_to}
use Rattle.sector_disk.specs.inside.WrittenLaws.{written_to_same}
use Rattle.sector_disk.proofs.Settling.{counted_less}
use Rattle.sector_disk.proofs.choices.uncount.Goals as goal

-- the writes that the loop goes over
abbrev loose : List Written → ℕ → List Written
loose writes start = take (length writes - start) (drop start writes)

abbrev none : Written
none = record { at = 0; content = [] }

in_range : (writes : List Written) (start i sectors : ℕ) → All (λ write. write.at < sectors) writes → i < length (loose writes start) → (get_or (loose writes start) i none).at < sectors
in_range writes start i sectors all lt =
    let from : List Written = drop start writes in
    let left : i < length writes - start = omega (arith, lt, length-take (length writes - start) from) in
    subst (λ write. write.at < sectors) (sym (get_or-take (length writes - start) from i none left ∙ get_or-drop start writes i none)) (all (start + i) none (omega arith))

-- the writes from number `i` on are write number `i`, followed by those after it, so the count is the same
next_counted : (writes : List Written) (i k count : ℕ) → i < length writes → count ≡ length (written_to k (drop i writes)) → count ≡ length (written_to k (get_or writes i none ∷ drop (i + 1) writes))
next_counted writes i k count lt counted = counted ∙ ap (λ ws. length (written_to k ws)) (drop_more writes i none lt)

pub loop-write-init : goal.loop-write-init
loop-write-init c k lt = c.requires.counted k lt ∙ ap (λ ws. length (written_to k ws)) (sym (take_rest c.args.writes.now c.args.start))

pub bounds-counts-write : goal.bounds-counts-write
bounds-counts-write c = omega (arith, in_range c.args.writes.now c.args.start c.loop-write.write-index (length c.args.counts.now) c.requires.in_range c.loop-write-test.true)

pub bounds-counts-write-in-loop-write : goal.bounds-counts-write-in-loop-write
bounds-counts-write-in-loop-write c =
    omega (arith, in_range c.args.writes.now c.args.start c.loop-write.write-index (length c.args.counts.now) c.requires.in_range c.loop-write-test.true, c.loop-write.auto.counts)

pub overflow_sub-counts : goal.overflow_sub-counts
overflow_sub-counts c =
    let i = c.loop-write.write-index in
    let writes = loose c.args.writes.now c.args.start in
    let write : Written = get_or writes i none in
    let inside : write.at < length c.loop-write.counts = omega (arith, in_range c.args.writes.now c.args.start i (length c.args.counts.now) c.requires.in_range c.loop-write-test.true) in
    omega (arith, next_counted writes i write.at _ c.loop-write-test.true (c.loop-write.invariant write.at inside), ap length (written_to_same write.at write (drop (i + 1) writes) refl))

pub loop-write-preserved : goal.loop-write-preserved
loop-write-preserved c k lt =
    let i = c.loop-write.write-index in
    let counts = c.loop-write.counts in
    let writes = loose c.args.writes.now c.args.start in
    let write : Written = get_or writes i none in
    let inside : write.at < length counts = omega (arith, in_range c.args.writes.now c.args.start i (length c.args.counts.now) c.requires.in_range c.loop-write-test.true) in
    let known : k < length counts = omega (arith, lt, length-set counts write.at (get_or counts write.at 0 - 1)) in
    counted_less counts write (drop (i + 1) writes) inside k (next_counted writes i k _ c.loop-write-test.true (c.loop-write.invariant k known))

pub returns : goal.returns
returns c =
    let none_left = drop_all c.loop-write.write-index (loose c.args.writes.now c.args.start) c.loop-write-test.false in
    record { zero = λ k lt. c.loop-write.invariant k (omega arith) ∙ ap (λ ws. length (written_to k ws)) none_left }
