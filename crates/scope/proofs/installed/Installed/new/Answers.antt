use Rattle.std.proofs.Common.{◌≡◌, ◌++◌, ◌∷◌, [], ℕ, List, map, take, get_or, false, ap, sym, ◌∙◌, arith, if◌then◌else◌}
use Rattle.std.specs.List.{list_any}
use Rattle.std.specs.Str.{bytes_eq}
use Rattle.std.proofs.lemmas.Cmp.{nat_list_eq_equiv}
use Rattle.std.proofs.lemmas.List.{length-map, get_or-map, map_push, take_more}
use Rattle.scope.specs.Objects.{Named}
use Rattle.scope.specs.LoadOrder.{names_of}
use Rattle.scope.proofs.Naming.{list_any_of}
use Rattle.scope.proofs.Apart.{distinct-front}
use Rattle.scope.proofs.installed.Installed.new.Goals as goal

pub loop-library-preserved : goal.loop-library-preserved
loop-library-preserved c =
    let i : ℕ = c.loop-library.library-index in
    let names : List (List ℕ) = names_of c.args.libraries.now in
    let library : Named = c.library-item.result in
    let name : List ℕ = c.name.result.now in
    let lt = c.loop-library-test.true in
    let is : name ≡ get_or names i name = c.name.ensures ∙ ap (λ (o : Named). o.name) c.library-item.is ∙ sym (get_or-map (λ (o : Named). o.name) c.args.libraries.now i library name lt) in
    let fresh : list_any (λ k. bytes_eq name k.now) c.loop-library.names.keys ≡ false =
    sym (list_any_of (λ k. k.now) (bytes_eq name) c.loop-library.names.keys)
    ∙ ap (list_any (bytes_eq name)) c.loop-library.invariant
    ∙ ap (λ n. list_any (bytes_eq n) (take i names)) is
    ∙ distinct-front nat_list_eq_equiv names i name c.requires (omega (arith, length-map c.args.libraries.now (λ (o : Named). o.name))) in
    ap (map (λ k. k.now)) (c.in_ok-insert.ensures.keys ∙ ap (λ b. if b then c.loop-library.names.keys else c.loop-library.names.keys ++ c.name.result ∷ []) fresh)
    ∙ map_push (λ k. k.now) c.loop-library.names.keys c.name.result
    ∙ ap (λ l. l ++ name ∷ []) c.loop-library.invariant
    ∙ ap (λ n. take i names ++ n ∷ []) is
    ∙ sym (take_more names i name (omega (arith, length-map c.args.libraries.now (λ (o : Named). o.name))))
