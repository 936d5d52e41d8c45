use Rattle.std.proofs.Common.{◌≡◌, ◌+◌, ◌-◌, ◌<◌, ◌++◌, length, take, drop, ap, ◌∙◌, arith}
use Rattle.std.proofs.lemmas.List.{length-drop, length-take-le}
use Rattle.extents.proofs.run_list.RunList.remove.Goals as goal
use Rattle.extents.proofs.Vacant.{taken_out, moved_up, written}

pub returns-then-place-len-clause-items : goal.returns-then-place-len-clause-items
returns-then-place-len-clause-items c =
    let v = c.self.inside.vacant in
    let p = c.args.place in
    let xs = c.deref_mut.result.now in
    let ys = c.rotate_right.new.self in
    let k = v + p + 1 - v in
    let size : length xs ≡ c.self.inside.list.len = c.deref_mut.ensures.len in
    let lt : v + p < length xs = omega (arith, size) in
    let more : k ≡ p + 1 = omega arith in
    let middle : length (take k (drop v xs)) ≡ k = length-take-le k (drop v xs) (omega (arith, more, lt, length-drop v xs)) in
    ap (drop (v + 1)) (written v k c.self.inside.list.len xs ys _ (omega (arith, more, lt)) (c.rotate_right.ensures.len ∙ middle) size)
    ∙ moved_up v p k (length (take k (drop v xs)) - 1) xs ys lt more (omega (arith, middle, more)) c.rotate_right.ensures.after
    ∙ ap (λ l. take p (drop v l) ++ drop (p + 1) (drop v l)) c.deref_mut.ensures.value
    ∙ ap (λ runs. take p runs.items ++ drop (p + 1) runs.items) c.self.view_is

pub returns-else-place-len-clause-items : goal.returns-else-place-len-clause-items
returns-else-place-len-clause-items c =
    let v = c.self.inside.vacant in
    let xs = c.self.inside.list.items in
    let lt : v + c.args.place < length xs = omega (arith, c.requires, ap (λ runs. length runs.items) c.self.view_is, length-drop v xs) in
    ap (drop v) c.remove.ensures.by_index.2
    ∙ taken_out v c.args.place xs lt
    ∙ ap (λ runs. take c.args.place runs.items ++ drop (c.args.place + 1) runs.items) c.self.view_is
