use Rattle.std.proofs.Common.{◌≡◌, ◌∙◌, ◌<◌, ℕ, List, true, length, arith, ap, sym, subst, get_or, below_more}
use Rattle.std.proofs.lemmas.List.{get_or_default, get_or-map, length-map}
use Rattle.elf_dynamic.specs.Strings.{name_of}
use Rattle.hash_check.specs.Export.{is_exported}
use Rattle.hash_check.specs.inside.Lanes.{IsMet}
use Rattle.hash_check.proofs.table.meets_exports.Goals as goal
use Rattle.hash_check.proofs.table.meets_exports.Goals.{else-not-is_met_by_all-via-then-not-is_met_by_all+else-not-test_by_name, else-not-is_met_by_all-via-else-not-is_met_by_all}

pub joint_of_all-joint-requires-clause-buckets : goal.joint_of_all-joint-requires-clause-buckets
joint_of_all-joint-requires-clause-buckets c = rw (c.new.ensures, c.new-2.ensures.words) c.requires.words.bucket_words

pub joint_of_all-joint-requires-clause-words : goal.joint_of_all-joint-requires-clause-words
joint_of_all-joint-requires-clause-words c = rw c.new-2.ensures.words c.requires.words.chain_words

pub joint_of_all-joint-requires-clause-places : goal.joint_of_all-joint-requires-clause-places
joint_of_all-joint-requires-clause-places c = rw (c.new.ensures, c.new-2.ensures.words) c.requires.places

pub is_met_by_all-requires-clause-joint : goal.is_met_by_all-requires-clause-joint
is_met_by_all-requires-clause-joint c = rw (c.new.ensures, c.new-2.ensures.words) at c.joint_of_all-joint.ensures

pub is_met_by_all-requires-clause-exported : goal.is_met_by_all-requires-clause-exported
is_met_by_all-requires-clause-exported c =
    subst (λ i. is_exported c.args.object.now i ≡ true) (sym c.index-i.ensures) (c.requires.exports.exported c.loop-k.k c.index-i.result.now (omega arith))

pub index-requires : goal.index-requires
index-requires c = omega (arith, ap length c.requires.exports.named, length-map c.args.exports.now.symbols.items (name_of c.args.object.now))

pub test_by_name-requires-clause-exported : goal.test_by_name-requires-clause-exported
test_by_name-requires-clause-exported c =
    subst (λ i. is_exported c.args.object.now i ≡ true) (sym c.index-i.ensures) (c.requires.exports.exported c.loop-k.k c.index-i.result.now (omega arith))

pub test_by_name-requires-clause-name : goal.test_by_name-requires-clause-name
test_by_name-requires-clause-name c =
    let file : List ℕ = c.args.object.now in
    c.bytes.ensures ∙ c.index.ensures ∙ ap (λ l. get_or l c.loop-k.k c.index.result.now) c.requires.exports.named
    ∙ get_or-map (name_of file) c.args.exports.now.symbols.items c.loop-k.k c.index-i.result.now c.index.result.now (omega arith) ∙ ap (name_of file) (sym c.index-i.ensures)

pub returns-then-not-test_by_name : goal.returns-then-not-test_by_name
returns-then-not-test_by_name c = (
  λ t. let f = t in absurd (cc),
  λ all. absurd (c.test_by_name.ensures.missed c.if-not-test_by_name.true all),
)

pub loop-k-preserved : goal.loop-k-preserved
loop-k-preserved c =
    let file : List ℕ = c.args.object.now in
    let symbols : List ℕ = c.args.exports.now.symbols.items in
    let lt : c.loop-k.k < length c.args.exports.now.symbols.items = omega arith in
    let at : c.index-i.result.now ≡ get_or c.args.exports.now.symbols.items c.loop-k.k 0 = c.index-i.ensures ∙ get_or_default symbols c.loop-k.k c.index-i.result.now 0 lt in
    elim c.else-not-is_met_by_all.branch [
      | else-not-is_met_by_all-via-then-not-is_met_by_all+else-not-test_by_name w ↦
          rw w.lanes-is (record {
            lanes = w.test_by_name.ensures.lanes;
            met = λ all. below_more (λ j. IsMet file (get_or symbols j 0)) c.loop-k.k (c.loop-k.invariant.met (w.test_by_name.ensures.others w.if-not-test_by_name.false all))
                (subst (IsMet file) at (w.test_by_name.ensures.taken w.if-not-test_by_name.false all));
          })
      | else-not-is_met_by_all-via-else-not-is_met_by_all w ↦
          rw w.lanes-is (record {
            lanes = c.loop-k.invariant.lanes;
            met = λ all. below_more (λ j. IsMet file (get_or symbols j 0)) c.loop-k.k (c.loop-k.invariant.met all) (subst (IsMet file) at (c.is_met_by_all.ensures w.if-not-is_met_by_all.false));
          })
    ]

pub loop-k-init : goal.loop-k-init
loop-k-init c = record { lanes = c.new-lanes.ensures c.args.object.now; met = λ all j lt. absurd (omega (arith, lt)) }

pub returns : goal.returns
returns c = (
  λ t i is.
      let s = c.requires.whole.stands i is in
      subst (IsMet c.args.object.now) s.2 (c.loop-k.invariant.met (c.are_met.ensures.0 t) s.0 (omega (arith, s.1))),
  λ h. c.are_met.ensures.1 (record { met = λ k lt some. h (get_or c.loop-k.lanes.symbols k 0) ((c.loop-k.invariant.lanes.each k lt).exported some) }),
)
