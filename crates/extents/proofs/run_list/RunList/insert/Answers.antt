use Rattle.std.proofs.Common.{◌≡◌, ◌+◌, ◌-◌, ◌<◌, ◌≤◌, ◌++◌, ◌∷◌, length, take, drop, set, ap, ◌∙◌, rules, arith}
use Rattle.std.specs.List.{insert}
use Rattle.std.proofs.lemmas.List.{length-drop, length-take-le}
use Rattle.extents.proofs.run_list.RunList.insert.Goals as goal
use Rattle.extents.proofs.Vacant.{put_in, moved_down, written}

pub returns-then-is_high-clause-items : goal.returns-then-is_high-clause-items
returns-then-is_high-clause-items c =
    let v = c.self.inside.vacant in
    let xs = c.self.inside.list.items in
    let le : v + c.args.place ≤ length xs = omega (arith, c.requires.within, ap (λ runs. length runs.items) c.self.view_is, length-drop v xs) in
    let is : c.insert.new.self.items ≡ insert xs (v + c.args.place) c.args.run = search rules in
    ap (drop v) is
    ∙ put_in v c.args.place xs c.args.run le
    ∙ ap (λ runs. take c.args.place runs.items ++ c.args.run ∷ drop c.args.place runs.items) c.self.view_is

pub returns-else-is_high-clause-items : goal.returns-else-is_high-clause-items
returns-else-is_high-clause-items c =
    let v = c.self.inside.vacant in
    let w = v - 1 in
    let p = c.args.place in
    let run = c.args.run in
    let xs = c.deref_mut.result.now in
    let ys = c.rotate_left.new.self in
    let k = v + p - w in
    let next : w + 1 ≡ v = omega arith in
    let size : length xs ≡ c.self.inside.list.len = c.deref_mut.ensures.len in
    let items = c.self.inside.list.items in
    let lt : w + p < length xs = omega (arith, size, next, c.requires.within, ap (λ runs. length runs.items) c.self.view_is, length-drop v items) in
    let more : k ≡ p + 1 = omega (arith, next) in
    let at : v + p - 1 ≡ w + p = omega (arith, next) in
    let middle : length (take k (drop w xs)) ≡ k = length-take-le k (drop w xs) (omega (arith, more, lt, length-drop w xs)) in
    ap (λ l. drop w (set l (v + p - 1) run)) (written w k c.self.inside.list.len xs ys _ (omega (arith, more, lt)) (c.rotate_left.ensures.len ∙ middle) size)
    ∙ ap (λ i. drop w (set (take w xs ++ (ys ++ drop k (drop w xs))) i run)) at
    ∙ moved_down v w p k xs ys run next lt more c.rotate_left.ensures.after
    ∙ ap (λ l. take p (drop v l) ++ run ∷ drop p (drop v l)) c.deref_mut.ensures.value
    ∙ ap (λ runs. take p runs.items ++ run ∷ drop p runs.items) c.self.view_is
