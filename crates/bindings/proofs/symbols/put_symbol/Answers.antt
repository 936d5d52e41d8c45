use Rattle.std.proofs.Common.{◌≡◌, ℕ, List, Option, Some, codes, sym, ap, subst, ◌∙◌}
use Rattle.std.specs.Io.KnownBytes.{Appends, append_known}
use Rattle.elf_dynamic.specs.Strings.{name_of}
use Rattle.scope.specs.declared.target.Target.{Target}
use Rattle.scope.specs.declared.target.Target.TheVariants.{Zero}
use Rattle.image.specs.Relocating.{file_at}
use Rattle.image.proofs.Targets.{placed-there}
use Rattle.bindings.specs.Bindings.{name_line, symbol_line, target_at, target_line}
use Rattle.bindings.proofs.symbols.put_symbol.Goals as goal

pub own_address-value-requires-clause-object : goal.own_address-value-requires-clause-object
own_address-value-requires-clause-object g c =
    (placed-there c.args.objects.now c.args.own c.args.symbol c.in-Ok-At.object c.in-Ok-At.found c.requires.own (rw c.in-Ok-At.field-0-is at c.in-Ok-At.ensures)).0

pub own_address-value-requires-clause-symbol : goal.own_address-value-requires-clause-symbol
own_address-value-requires-clause-symbol g c =
    (placed-there c.args.objects.now c.args.own c.args.symbol c.in-Ok-At.object c.in-Ok-At.found c.requires.own (rw c.in-Ok-At.field-0-is at c.in-Ok-At.ensures)).1

pub name-requires : goal.name-requires
name-requires g c =
    (placed-there c.args.objects.now c.args.own c.args.symbol c.in-Ok-At.object c.in-Ok-At.found c.requires.own (rw c.in-Ok-At.field-0-is at c.in-Ok-At.ensures)).0

pub returns-in_ok-put_name_line-in-Ok-Zero-clause-text : goal.returns-in_ok-put_name_line-in-Ok-Zero-clause-text
unfolding symbol_line
returns-in_ok-put_name_line-in-Ok-Zero-clause-text g c =
    let w = g.W.Write.contents in
    let start = append_known (w c.args.out.now) c.args.buffer.now.waiting in
    let end = append_known (w c.put_name_line.new.out) c.put_name_line.new.buffer.waiting in
    let is : target_at c.args.objects.now c.args.own c.args.symbol ≡ Some Zero = rw c.in-Ok-Zero.field-0-is at c.in-Ok-Zero.ensures in
    let name : c.name_of-name.result.now ≡ name_of (file_at c.args.objects.now c.args.own) c.args.symbol =
    c.name_of-name.ensures.name ∙ ap (λ f. name_of f c.args.symbol) c.object.ensures.file in
    subst (λ (t : Option Target). Appends start end (target_line c.args.objects.now c.args.own (name_of (file_at c.args.objects.now c.args.own) c.args.symbol) t)) (sym is)
    (subst (λ (n : List ℕ). Appends start end (name_line (codes "unresolved ") n)) name c.in_ok-put_name_line-in-Ok-Zero.ensures)
