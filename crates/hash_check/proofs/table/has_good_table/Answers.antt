use Rattle.std.proofs.Common.{◌<◌, length, arith, ap}
use Rattle.std.specs.List.{All}
use Rattle.elf_dynamic.specs.HashTable.{buckets, chains}
use Rattle.hash_check.specs.Walk.{Ends}
use Rattle.hash_check.specs.HashTable.{HasBucket, HasIndexWords}
use Rattle.hash_check.specs.inside.Places.{Placed}
use Rattle.hash_check.proofs.Starting.{all-ends}
use Rattle.hash_check.proofs.table.has_good_table.Goals as goal

pub returns-then-not-has_index_words-clause-ok : goal.returns-then-not-has_index_words-clause-ok
returns-then-not-has_index_words-clause-ok c = (
  λ t. let f = t in absurd (cc),
  λ good. let words = c.has_index_words.ensures.1 (good.some_bucket, good.words) in absurd (cc),
)

pub whole-requires-clause-whole : goal.whole-requires-clause-whole
whole-requires-clause-whole c = c.requires.whole

pub follow_all-requires-clause-some : goal.follow_all-requires-clause-some
follow_all-requires-clause-some c =
    let words : HasBucket c.args.object.now × HasIndexWords c.args.object.now = c.has_index_words.ensures.0 c.if-not-has_index_words.false in
    let some : 0 < length (buckets c.args.object.now) = omega (arith, words.0) in
    omega (arith, words.1.bucket_words 0 0 some, ap length c.new-2.ensures.words)

pub follow_all-requires-clause-buckets : goal.follow_all-requires-clause-buckets
follow_all-requires-clause-buckets c =
    let words : HasBucket c.args.object.now × HasIndexWords c.args.object.now = c.has_index_words.ensures.0 c.if-not-has_index_words.false in
    rw (c.new.ensures, c.new-2.ensures.words) words.1.bucket_words

pub follow_all-requires-clause-words : goal.follow_all-requires-clause-words
follow_all-requires-clause-words c =
    let words : HasBucket c.args.object.now × HasIndexWords c.args.object.now = c.has_index_words.ensures.0 c.if-not-has_index_words.false in
    rw c.new-2.ensures.words words.1.chain_words

pub meets_exports-requires-clause-places : goal.meets_exports-requires-clause-places
meets_exports-requires-clause-places c = rw c.deref.ensures.value (rw (c.in-Some.is, c.new.ensures, c.new-2.ensures.words) at c.in_ok-places.ensures)

pub meets_exports-requires-clause-exports : goal.meets_exports-requires-clause-exports
meets_exports-requires-clause-exports c = c.in_ok-all.ensures.exports

pub meets_exports-requires-clause-whole : goal.meets_exports-requires-clause-whole
meets_exports-requires-clause-whole c = c.in_ok-all.ensures.whole

pub returns-in-Some-clause-ok : goal.returns-in-Some-clause-ok
returns-in-Some-clause-ok c =
    let words : HasBucket c.args.object.now × HasIndexWords c.args.object.now = c.has_index_words.ensures.0 c.if-not-has_index_words.false in
    let placed : Placed (buckets c.args.object.now) (chains c.args.object.now) c.in-Some.places.items = rw (c.in-Some.is, c.new.ensures, c.new-2.ensures.words) at c.in_ok-places.ensures in (
      λ t. record {
        some_bucket = words.0;
        words = words.1;
        ends = all-ends (buckets c.args.object.now) (chains c.args.object.now) c.in-Some.places.items placed;
        met = c.meets_exports.ensures.0 t;
      },
      λ good. c.meets_exports.ensures.1 good.met,
    )

pub returns-clause-ok : goal.returns-clause-ok
returns-clause-ok c = (
  λ t. let f = t in absurd (cc),
  λ good.
      let endless : All (Ends (chains c.args.object.now)) (buckets c.args.object.now) → ⊥ = rw (c.in-None.is, c.new.ensures, c.new-2.ensures.words) at c.in_ok-places.ensures in
      absurd (endless good.ends),
)
