use Rattle.std.proofs.Common.{◌∙◌, ap, arith}
use Rattle.std.proofs.lemmas.Option.{IfSome_then}
use Rattle.requests.specs.Table.{Listed}
use Rattle.c_answers.proofs.Entries.{places_both}
use Rattle.c_answers.proofs.listing.put_entries.Goals as goal

pub returns-clause-entries : goal.returns-clause-entries
returns-clause-entries c =
    let put = c.in_ok-at.ensures in
    let is = c.listing.view_is in
    IfSome_then c.put_preloads.result c.put_preloads.ensures.entries
    (λ end entries. places_both c.args.listing.now c.deref.result.now c.deref-2.result.now c.put_libraries.new.entries c.put_preloads.new.entries
    c.in_ok-at.at c.len.result
    (c.deref.ensures.value ∙ ap (λ (l : Listed). l.libraries) is)
    (c.deref-2.ensures.value ∙ ap (λ (l : Listed). l.preloads) is)
    put.end (omega (arith, c.deref.ensures.len, c.len.ensures)) put.entries entries)
