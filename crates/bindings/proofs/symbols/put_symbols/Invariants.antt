use Rattle.std.proofs.Common.{◌≡◌, ◌≤◌, ◌-◌, length}
use Rattle.std.specs.Prelude.{is_some}
use Rattle.std.specs.List.{flat_map, list_all}
use Rattle.elf_dynamic.specs.Symbol.{symbols}
use Rattle.image.specs.Relocating.{file_at}
use Rattle.text_output.specs.Sends.{Sends}
use Rattle.bindings.specs.Bindings.{symbol_line, target_at}
use Rattle.bindings.specs.Named.{is_named}
use Rattle.bindings.proofs.Texts.{passing}
use Rattle.bindings.proofs.symbols.put_symbols.Given as goal

abbrev pub invariant-loop-symbol : goal.invariant-loop-symbol
invariant-loop-symbol g l = record {
  low : 1 ≤ l.symbol;
  few : l.symbol - 1 ≤ length (symbols (file_at l.objects l.own)) - 1;
  text : Sends (g.W.Write.contents l.fn.out) l.fn.buffer (g.W.Write.contents l.out) l.buffer
      (flat_map (symbol_line l.objects l.own) (passing (is_named (file_at l.objects l.own)) l.symbol));
  bound : l.bound ≡ list_all (λ i. is_some (target_at l.objects l.own i)) (passing (is_named (file_at l.objects l.own)) l.symbol);
}
