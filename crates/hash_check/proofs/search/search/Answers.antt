use Rattle.std.proofs.Common.{◌≡◌, ◌≢◌, ◌<◌, ◌^◌, ℕ, List, length, arith, sym, ap, subst, ◌∙◌}
use Rattle.std.specs.Prelude.{slice_index}
use Rattle.elf_dynamic.specs.HashTable.{buckets, chains}
use Rattle.hash_check.specs.Definition.{is_exported_as}
use Rattle.hash_check.specs.Walk.{walk, Ends}
use Rattle.hash_check.specs.HashTable.{bucket_of}
use Rattle.hash_check.specs.Admission.{walked}
use Rattle.hash_check.proofs.Walks.{walk-zero, walk-next}
use Rattle.hash_check.proofs.Searching.{searching-more, compared-some, compared-most, compared-hit, compared-miss}
use Rattle.hash_check.proofs.Definitions.{bucket-within, bucket-ends, definition-one, definition-none}
use Rattle.hash_check.proofs.search.search.Goals as goal

pub loop-at-init : goal.loop-at-init
loop-at-init c =
    let from : ℕ = bucket_of (buckets c.args.object.now) c.args.hash in
    let word : c.of_hash-at.result ≡ from = rw c.new.ensures at c.of_hash-at.ensures in
    record {
      at = word ∙ sym (walk-zero (chains c.args.object.now) from);
      within = omega (arith, word, bucket-within c.args.object.now c.args.hash c.requires.table);
      search = record { before = λ k lt. absurd (omega arith); missed = λ k lt. absurd (omega arith) };
    }

pub overflow_add-compared : goal.overflow_add-compared
overflow_add-compared c =
    let file : List ℕ = c.args.object.now in
    let from : ℕ = bucket_of (buckets file) c.args.hash in
    let lt : from < length (chains file) = bucket-within file c.args.hash c.requires.table in
    let ends : Ends (chains file) from = bucket-ends file c.args.hash c.requires.table in
    let some : walk (chains file) from c.loop-at.compared ≢ 0 = λ z. c.loop-at-test.true (c.loop-at.invariant.at ∙ z) in
    let less : c.loop-at.compared < length (walked (chains file) from) =
    compared-some (chains file) from c.loop-at.compared
    (is_exported_as file c.args.name.now) c.requires.table.words.chain_words lt ends c.loop-at.invariant.search some in
    let few : length (chains file) < 2 ^ 32 = subst (λ l. length l < 2 ^ 32) c.new-chains.ensures.words c.new-chains.ensures.few in
    omega (arith, less, few, compared-most (chains file) from c.requires.table.words.chain_words lt ends)

pub loop-at-smaller : goal.loop-at-smaller
loop-at-smaller c =
    let file : List ℕ = c.args.object.now in
    let from : ℕ = bucket_of (buckets file) c.args.hash in
    let lt : from < length (chains file) = bucket-within file c.args.hash c.requires.table in
    let ends : Ends (chains file) from = bucket-ends file c.args.hash c.requires.table in
    let some : walk (chains file) from c.loop-at.compared ≢ 0 = λ z. c.loop-at-test.true (c.loop-at.invariant.at ∙ z) in
    let less : c.loop-at.compared < length (walked (chains file) from) =
    compared-some (chains file) from c.loop-at.compared
    (is_exported_as file c.args.name.now) c.requires.table.words.chain_words lt ends c.loop-at.invariant.search some in
    omega (arith, less)

pub loop-at-preserved : goal.loop-at-preserved
loop-at-preserved c =
    let file : List ℕ = c.args.object.now in
    let from : ℕ = bucket_of (buckets file) c.args.hash in
    let some : walk (chains file) from c.loop-at.compared ≢ 0 = λ z. c.loop-at-test.true (c.loop-at.invariant.at ∙ z) in
    let missed = sym (subst (λ i. c.is_exported_as.result ≡ is_exported_as file c.args.name.now i) c.loop-at.invariant.at c.is_exported_as.ensures) ∙ c.if-is_exported_as.false in
    let next : c.next-at.result ≡ slice_index (chains file) c.loop-at.at = rw c.new-chains.ensures.words at c.next-at.ensures in
    record {
      at = next ∙ ap (slice_index (chains file)) c.loop-at.invariant.at ∙ sym (walk-next (chains file) from c.loop-at.compared);
      within = omega (arith, next, c.requires.table.words.chain_words c.loop-at.at 0 c.loop-at.invariant.within);
      search = searching-more (chains file) from c.loop-at.compared (is_exported_as file c.args.name.now) c.loop-at.invariant.search some missed;
    }

pub returns-then-is_exported_as-clause-symbol : goal.returns-then-is_exported_as-clause-symbol
returns-then-is_exported_as-clause-symbol c =
    definition-one c.args.object.now c.args.name.now c.loop-at.at c.requires.unique (sym c.is_exported_as.ensures ∙ c.if-is_exported_as.true)

pub returns-then-is_exported_as-clause-compared : goal.returns-then-is_exported_as-clause-compared
returns-then-is_exported_as-clause-compared c =
    let file : List ℕ = c.args.object.now in
    let from : ℕ = bucket_of (buckets file) c.args.hash in
    let lt : from < length (chains file) = bucket-within file c.args.hash c.requires.table in
    let ends : Ends (chains file) from = bucket-ends file c.args.hash c.requires.table in
    let some : walk (chains file) from c.loop-at.compared ≢ 0 = λ z. c.loop-at-test.true (c.loop-at.invariant.at ∙ z) in
    compared-hit (chains file) from c.loop-at.compared (is_exported_as file c.args.name.now) c.requires.table.words.chain_words lt ends c.loop-at.invariant.search some
    (sym (subst (λ i. c.is_exported_as.result ≡ is_exported_as file c.args.name.now i) c.loop-at.invariant.at c.is_exported_as.ensures) ∙ c.if-is_exported_as.true)

pub returns-clause-symbol : goal.returns-clause-symbol
returns-clause-symbol c =
    definition-none c.args.object.now c.args.name.now c.args.hash c.loop-at.compared c.requires.table c.requires.hash c.loop-at.invariant.search (sym c.loop-at.invariant.at ∙ c.loop-at-test.false)

pub returns-clause-compared : goal.returns-clause-compared
returns-clause-compared c =
    let file : List ℕ = c.args.object.now in
    let from : ℕ = bucket_of (buckets file) c.args.hash in
    compared-miss (chains file) from c.loop-at.compared (is_exported_as file c.args.name.now) c.requires.table.words.chain_words
    (bucket-within file c.args.hash c.requires.table) c.loop-at.invariant.search (sym c.loop-at.invariant.at ∙ c.loop-at-test.false)
