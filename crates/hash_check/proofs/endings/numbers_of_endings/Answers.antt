use Rattle.std.proofs.Common.{◌≡◌, ◌∙◌, ◌<◌, ◌++◌, ℕ, List, length, take, drop, replicate, arith, ap, sym, subst, rules, inl, inr}
use Rattle.std.specs.List.{All}
use Rattle.std.proofs.Math.Seq.{take-append_seam}
use Rattle.std.proofs.lemmas.Bool.{cases_lt}
use Rattle.std.proofs.lemmas.List.{get_or-replicate, get_or_past, length-replicate}
use Rattle.std.proofs.lemmas.Cmp.{nat_list_cmp_total}
use Rattle.hash_check.specs.Numbers.{AreNumbers}
use Rattle.hash_check.specs.declared.endings.Ending.{Ending}
use Rattle.hash_check.specs.inside.Endings.{string_back, AreNone}
use Rattle.hash_check.proofs.Holding.{endings-moved}
use Rattle.hash_check.proofs.Sorting.{IsSortedBy-from_sort_by}
use Rattle.hash_check.proofs.endings.numbers_of_endings.Goals as goal

-- a list of zeros has no numbers
none-yet : (n : ℕ) → AreNone (replicate n 0)
none-yet n = λ k. elim (cases_lt k n) [ inl lt ↦ get_or-replicate n k 0 0 lt | inr past ↦ get_or_past (replicate n 0) k 0 (omega (arith, length-replicate {A = ℕ}, past)) ]

pub number_all-requires-clause-few : goal.number_all-requires-clause-few
number_all-requires-clause-few c = omega arith

pub number_all-requires-clause-endings : goal.number_all-requires-clause-endings
number_all-requires-clause-endings c = rw c.deref-2.ensures.value (record {
  are = endings-moved c.args.names.now c.args.endings.items c.sort_unstable_by.new.self.items c.sort_unstable_by.ensures.permutation c.requires;
  sorted = IsSortedBy-from_sort_by nat_list_cmp_total string_back c.sort_unstable_by.new.self.items c.sort_unstable_by.ensures.sorted (λ a r f k. search rules);
})

pub number_all-requires-clause-room : goal.number_all-requires-clause-room
number_all-requires-clause-room c = λ k d lt.
    let same : c.deref.result.now ≡ c.deref-2.result.now = c.deref.ensures.value ∙ sym c.deref-2.ensures.value in
    let below : All (λ (e : Ending). length e.string.now < c.count_of_lengths.result) c.deref-2.result.now =
    subst (All (λ (e : Ending). length e.string.now < c.count_of_lengths.result)) same c.count_of_lengths.ensures in
    omega (arith, below k d lt, c.deref_mut.ensures.len, c.in_ok-marks.ensures.len)

pub number_all-requires-clause-marks : goal.number_all-requires-clause-marks
number_all-requires-clause-marks c =
    subst AreNone (sym (c.deref_mut.ensures.value ∙ c.in_ok-marks.ensures.items_if_clones_equal (λ x e. e))) (none-yet c.count_of_lengths.result)

pub number_all-requires-clause-numbers : goal.number_all-requires-clause-numbers
number_all-requires-clause-numbers c =
    subst AreNone (sym (c.deref_mut-2.ensures.value ∙ c.in_ok-numbers.ensures.items_if_clones_equal (λ x e. e))) (none-yet (length c.args.names.now))

pub number_all-requires-clause-size : goal.number_all-requires-clause-size
number_all-requires-clause-size c = omega (arith, c.deref_mut-2.ensures.len, c.in_ok-numbers.ensures.len)

pub returns : goal.returns
returns c =
    let new : List ℕ = c.number_all.new.numbers in
    let rest : List ℕ = drop (length c.number_all.new.numbers) c.in_ok-numbers.numbers.items in
    let size : c.in_ok-numbers.numbers.len ≡ length c.number_all.new.numbers = omega (arith, c.number_all.auto.numbers, c.deref_mut-2.ensures.len) in
    subst (AreNumbers c.args.names.now) (sym (ap (λ n. take n (new ++ rest)) size ∙ take-append_seam new rest)) c.number_all.ensures
