use Rattle.std.proofs.Common.{◌≡◌, ◌-◌, ◌<◌, ◌≤◌, ℕ, Bool, List, false, length, get_or, ap, sym, subst, ◌∙◌, arith, cond, []}
use Rattle.std.specs.Prelude.{is_some, ◌&&◌, filter}
use Rattle.std.specs.List.{flat_map, list_all, range_with_len}
use Rattle.std.specs.Io.KnownBytes.{Appends, append_known}
use Rattle.std.proofs.KnownBytes.{Appends-trans}
use Rattle.elf_dynamic.specs.HashTable.{chains}
use Rattle.elf_dynamic.specs.Refusal.{first_refusal}
use Rattle.elf_dynamic.specs.Symbol.{symbols}
use Rattle.image.specs.Placement.{Placed}
use Rattle.image.specs.Relocating.{file_at}
use Rattle.bindings.specs.Bindings.{symbol_line, target_at}
use Rattle.bindings.specs.Named.{is_named, named_symbols}
use Rattle.bindings.proofs.Texts.{passing, passing-all, passing-text}
use Rattle.bindings.proofs.Undefined.{bound-of}
use Rattle.bindings.proofs.symbols.put_symbols.Goals as goal

pub loop-symbol-preserved : goal.loop-symbol-preserved
loop-symbol-preserved g c =
    let w = g.W.Write.contents in
    let objects : List Placed = c.args.objects.now in
    let own : ℕ = c.args.own in
    let file = file_at objects own in
    let p = is_named file in
    let j : ℕ = c.loop-symbol.symbol in
    let inv = c.loop-symbol.invariant in
    let count : c.symbol_count-symbol-end.result ≡ length (symbols file) = c.symbol_count-symbol-end.ensures.count ∙ ap (λ f. length (symbols f)) c.object.ensures.file in
    let inside : j < length (symbols file) = omega (arith, c.loop-symbol-test.true, count) in
    let flag : Bool = get_or c.args.named.now j false in
    let is : p j ≡ flag = sym (c.requires.named.are j inside) in
    let start = append_known (w c.args.out.now) c.args.buffer.now.waiting in
    let before = append_known (w c.loop-symbol.out) c.loop-symbol.buffer.waiting in
    let after = append_known (w c.put_if_named.new.out) c.put_if_named.new.buffer.waiting in
    let line = symbol_line objects own in
    let q = λ (i : ℕ). is_some (target_at objects own i) in
    record {
      low = omega (arith, inv.low);
      few = omega (arith, inv.low, inside);
      text = subst (Appends start after) (sym (passing-text p line j flag inv.low is))
          (Appends-trans start before after (flat_map line (passing p j)) (cond flag (line j) []) inv.text c.in_ok-bound.ensures.text);
      bound =
          ap (λ b. b && c.in_ok-bound.field-0) inv.bound
          ∙ ap (λ b. list_all q (passing p j) && b) c.in_ok-bound.ensures.bound
          ∙ sym (passing-all p q j flag inv.low is);
    }

at-end : (file : List ℕ) (j n : ℕ) → 1 ≤ j → j - 1 ≤ length (symbols file) - 1 → n ≡ length (symbols file) → n ≤ j
    → passing (is_named file) j ≡ named_symbols file
unfolding named_symbols
at-end file j n low few count end =
    let e : j - 1 ≡ length (symbols file) - 1 = omega (arith, low, few, count, end) in
    ap (λ m. filter (is_named file) (range_with_len 1 m)) e

pub returns-clause-text : goal.returns-clause-text
returns-clause-text g c =
    let w = g.W.Write.contents in
    let objects : List Placed = c.args.objects.now in
    let file = file_at objects c.args.own in
    let inv = c.loop-symbol.invariant in
    let count : c.symbol_count-symbol-end.result ≡ length (symbols file) = c.symbol_count-symbol-end.ensures.count ∙ ap (λ f. length (symbols f)) c.object.ensures.file in
    let start = append_known (w c.args.out.now) c.args.buffer.now.waiting in
    let now = append_known (w c.loop-symbol.out) c.loop-symbol.buffer.waiting in
    subst (λ l. Appends start now (flat_map (symbol_line objects c.args.own) l))
    (at-end file c.loop-symbol.symbol c.symbol_count-symbol-end.result inv.low inv.few count c.loop-symbol-test.false) inv.text

pub returns-clause-bound : goal.returns-clause-bound
returns-clause-bound g c =
    let objects : List Placed = c.args.objects.now in
    let own : ℕ = c.args.own in
    let file = file_at objects own in
    let inv = c.loop-symbol.invariant in
    let count : c.symbol_count-symbol-end.result ≡ length (symbols file) = c.symbol_count-symbol-end.ensures.count ∙ ap (λ f. length (symbols f)) c.object.ensures.file in
    let chained : c.symbol_count-symbol-end.result ≡ length (chains file) = c.symbol_count-symbol-end.ensures.chains ∙ ap (λ f. length (chains f)) c.object.ensures.file in
    inv.bound
    ∙ ap (list_all (λ i. is_some (target_at objects own i))) (at-end file c.loop-symbol.symbol c.symbol_count-symbol-end.result inv.low inv.few count c.loop-symbol-test.false)
    ∙ bound-of objects own (ap first_refusal (sym c.object.ensures.file) ∙ c.symbol_count-symbol-end.ensures.accepted) (sym count ∙ chained)
