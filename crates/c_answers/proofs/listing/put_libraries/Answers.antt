use Rattle.std.proofs.Common.{◌+◌, [], length, take, arith}
use Rattle.c_answers.specs.Listing.{Entry, names_in_row}
use Rattle.c_answers.proofs.Entries.{row, size_more, names_more, places_more, library_more, lacks}
use Rattle.c_answers.proofs.Rows.{rows_le, none_holds, none_given}
use Rattle.c_answers.proofs.listing.put_libraries.Goals as goal

pub returns-in_err-at-clause-small : goal.returns-in_err-at-clause-small
returns-in_err-at-clause-small c =
    let libraries = c.args.libraries.now in
    let i = c.loop-i.i in
    let e : Entry = c.index-libraries-i.result in
    let size = size_more 0 (take i libraries) e (take (i + 1) libraries) (library_more libraries i e (omega arith) c.index-libraries-i.is) in
    none_holds c.from_residual.result
    (lacks (length c.loop-i.entries) (length c.loop-i.names) (length c.args.entries.now) (length c.args.names.now) i (length libraries) c.loop-i.at
    (length e.0) (length (names_in_row libraries)) (omega (arith, c.loop-i.auto.entries)) (omega (arith, c.loop-i.auto.names)) (omega arith)
    (omega (arith, c.loop-i.invariant.at, size, rows_le row libraries (i + 1)))
    c.in_err-at.ensures.small)

pub loop-i-preserved : goal.loop-i-preserved
loop-i-preserved c =
    let libraries = c.args.libraries.now in
    let i = c.loop-i.i in
    let e : Entry = c.index-libraries-i.result in
    let was = c.loop-i.invariant in
    let put = c.in_ok-at.ensures in
    let more = library_more libraries i e (omega arith) c.index-libraries-i.is in
    record {
      at = omega (arith, was.at, put.end, size_more 0 (take i libraries) e (take (i + 1) libraries) more);
      entries = places_more 0 (take i libraries) e (take (i + 1) libraries) more [] c.loop-i.entries c.put_entry.new.entries i (i + 1) c.loop-i.at (omega (arith, was.at)) was.entries put.entries;
      names = names_more 0 (take i libraries) e (take (i + 1) libraries) more [] c.loop-i.names c.put_entry.new.names c.loop-i.at c.in_ok-at.at was.names put.names;
    }

pub returns-in_err-at-clause-end : goal.returns-in_err-at-clause-end
returns-in_err-at-clause-end c = none_given c.from_residual.result c.from_residual.ensures _

pub returns-in_err-at-clause-entries : goal.returns-in_err-at-clause-entries
returns-in_err-at-clause-entries c = none_given c.from_residual.result c.from_residual.ensures _

pub returns-in_err-at-clause-names : goal.returns-in_err-at-clause-names
returns-in_err-at-clause-names c = none_given c.from_residual.result c.from_residual.ensures _
