use Rattle.std.proofs.Common.{◌≡◌, ◌∙◌, ◌+◌, ◌∷◌, ◌++◌, [], ap, length, take, arith}
use Rattle.c_answers.specs.Listing.{names_in_row, place_of, preload_entries}
use Rattle.c_answers.proofs.Entries.{size_more, names_more, places_more, preload_more, preloads_le, lacks}
use Rattle.c_answers.proofs.Rows.{none_holds, none_given}
use Rattle.c_answers.proofs.listing.put_preloads.Goals as goal

pub returns-in_err-at-clause-small : goal.returns-in_err-at-clause-small
returns-in_err-at-clause-small c =
    let preloads = c.args.preloads.now in
    let i = c.loop-i.i in
    let name = c.index-preloads-i.result in
    let size = size_more c.args.from (preload_entries (take i preloads)) (name, 0) (preload_entries (take (i + 1) preloads)) (preload_more preloads i name (omega arith) c.index-preloads-i.is) in
    none_holds c.from_residual.result
    (lacks (length c.loop-i.entries) (length c.loop-i.names) (length c.args.entries.now) (length c.args.names.now) c.saturating_add.result
    (c.args.libraries + length preloads) c.loop-i.at (length name) (c.args.from + length (names_in_row (preload_entries preloads)))
    (omega (arith, c.loop-i.auto.entries)) (omega (arith, c.loop-i.auto.names)) (omega (arith, c.saturating_add.ensures))
    (omega (arith, c.loop-i.invariant.at, size, preloads_le preloads (i + 1)))
    c.in_err-at.ensures.small)

pub loop-i-preserved : goal.loop-i-preserved
loop-i-preserved c =
    let preloads = c.args.preloads.now in
    let i = c.loop-i.i in
    let name = c.index-preloads-i.result in
    let was = c.loop-i.invariant in
    let put = c.in_ok-at.ensures in
    let all = preload_entries (take i preloads) in
    let next = preload_entries (take (i + 1) preloads) in
    let more = preload_more preloads i name (omega arith) c.index-preloads-i.is in
    let index : c.saturating_add.result ≡ c.args.libraries + i = omega (arith, c.saturating_add.ensures, put.inside) in
    let behind : take (c.args.libraries + (i + 1)) c.put_entry.new.entries ≡ take (c.args.libraries + i) c.loop-i.entries ++ place_of c.loop-i.at (name, 0) ∷ [] =
    ap (λ n. take n c.put_entry.new.entries) (omega (arith, index)) ∙ put.entries ∙ ap (λ n. take n c.loop-i.entries ++ place_of c.loop-i.at (name, 0) ∷ []) index in
    record {
      at = omega (arith, was.at, put.end, size_more c.args.from all (name, 0) next more);
      entries = places_more c.args.from all (name, 0) next more (take c.args.libraries c.args.entries.now) c.loop-i.entries c.put_entry.new.entries
          (c.args.libraries + i) (c.args.libraries + (i + 1)) c.loop-i.at was.at was.entries behind;
      names = names_more c.args.from all (name, 0) next more (take c.args.from c.args.names.now) c.loop-i.names c.put_entry.new.names c.loop-i.at c.in_ok-at.at was.names put.names;
    }

pub returns-in_err-at-clause-end : goal.returns-in_err-at-clause-end
returns-in_err-at-clause-end c = none_given c.from_residual.result c.from_residual.ensures _

pub returns-in_err-at-clause-entries : goal.returns-in_err-at-clause-entries
returns-in_err-at-clause-entries c = none_given c.from_residual.result c.from_residual.ensures _

pub returns-in_err-at-clause-names : goal.returns-in_err-at-clause-names
returns-in_err-at-clause-names c = none_given c.from_residual.result c.from_residual.ensures _
