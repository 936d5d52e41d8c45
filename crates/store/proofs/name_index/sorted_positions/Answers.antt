use Rattle.std.proofs.Common.{◌≡◌, subst, rules, List, ℕ, sym, ap, ◌∙◌}
use Rattle.std.specs.List.{range_with_len}
use Rattle.std.specs.List.Sorted.{IsPermutation}
use Rattle.std.proofs.lemmas.Cmp.{nat_list_cmp_total}
use Rattle.store.specs.NameOrder.{entry_names, name_at, name_order}
use Rattle.std.specs.Ordering.{is_lt}
use Rattle.std.proofs.lemmas.Fn.{always_returns_same}
use Rattle.std.proofs.lemmas.List.Sorted.{ranks_by}
use Rattle.store.proofs.NameIndex.{entry_count}
use Rattle.store.proofs.name_index.sorted_positions.Goals as goal

pub returns : goal.returns
returns c =
    let all = c.in_ok-positions.ensures ∙ ap (range_with_len 0) (sym (entry_count c.args.entries.now)) in
    record {
      moved = subst (λ (l : List ℕ). IsPermutation l c.sort_unstable_by.new.self.items) all c.sort_unstable_by.ensures.permutation;
      sorted = c.sort_unstable_by.ensures.sorted (λ a b. is_lt (name_order (entry_names c.args.entries.now) a b)) (ranks_by nat_list_cmp_total (name_at (entry_names c.args.entries.now)))
          (always_returns_same _ (λ a r. is_lt r ≡ is_lt (name_order (entry_names c.args.entries.now) a.0.now a.1.0.now)) _ (λ a r f k. search rules));
    }
