use Rattle.std.proofs.Common.{◌≡◌, ◌∙◌, ◌≤◌, ◌+◌, ◌∷◌, ◌++◌, ℕ, List, [], length, take, drop, get_or, ap, sym, subst, arith}
use Rattle.std.proofs.lemmas.List.{length-append}
use Rattle.std.proofs.Math.Seq.{take-append_seam}
use Rattle.hash_check.specs.inside.NameTable.{IsPut, Stands}
use Rattle.hash_check.proofs.Tabling.{stand-more}
use Rattle.hash_check.proofs.name_table.numbers_in_table.Goals as goal

pub put-requires-clause-few : goal.put-requires-clause-few
put-requires-clause-few c = λ k. subst (λ l. get_or l k 0 ≤ c.loop-number.number) (sym c.deref_mut.ensures.value) (c.loop-number.invariant.few k)

pub loop-number-preserved : goal.loop-number-preserved
loop-number-preserved c =
    let names : List (List ℕ) = c.args.names.now in
    let number : ℕ = c.loop-number.number in
    let new : List ℕ = c.put.new.cells in
    let rest : List ℕ = drop (length c.put.new.cells) c.loop-number.cells.items in
    let size : c.loop-number.cells.len ≡ length c.put.new.cells = omega (arith, c.put.auto.cells, c.deref_mut.ensures.len) in
    let whole : take c.loop-number.cells.len (c.put.new.cells ++ drop (length c.put.new.cells) c.loop-number.cells.items) ≡ c.put.new.cells =
    ap (λ n. take n (new ++ rest)) size ∙ take-append_seam new rest in
    let put : IsPut c.args.names.now c.loop-number.cells.items c.put.new.cells c.loop-number.number c.in-Some.told =
    subst (λ l. IsPut names l new number c.in-Some.told) c.deref_mut.ensures.value c.in-Some.ensures in
    let more : c.push_reserved.new.self.items ≡ c.loop-number.numbers.items ++ c.in-Some.told ∷ [] = c.push_reserved.ensures.items in
    record {
      size = omega (arith, ap length whole, c.loop-number.invariant.size, size, c.deref_mut.ensures.len, ap length c.deref_mut.ensures.value);
      few = λ k. subst (λ l. get_or l k 0 ≤ number + 1) (sym whole) (put.few k);
      long = ap length more ∙ omega (arith, length-append c.loop-number.numbers.items (c.in-Some.told ∷ []), c.loop-number.invariant.long);
      room = omega (arith, c.push_reserved.ensures.capacity, c.loop-number.invariant.room);
      stand = λ k lt. subst (λ l. Stands names l k (get_or c.push_reserved.new.self.items k 0)) (sym whole)
          (subst (λ (l : List ℕ). Stands names new k (get_or l k 0)) (sym more)
          (stand-more names c.loop-number.cells.items new c.loop-number.numbers.items number c.in-Some.told put c.loop-number.invariant.long
          c.loop-number.invariant.stand k lt));
    }

pub returns-in-None : goal.returns-in-None
returns-in-None c = tt
