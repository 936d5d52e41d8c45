use Rattle.std.proofs.Common.{◌≡◌, ℕ, List, Result, Ok, Err, get_or, sym, subst, ◌∙◌}
use Rattle.std.specs.Prelude.{IfErr, IfOk}
use Rattle.std.specs.Global.{Vec}
use Rattle.requests.specs.Library.{IsLibrary}
use Rattle.states.specs.State.{Library}
use Rattle.store.specs.Opened.{IsAt}
use Rattle.store.specs.Stands.{no_library}
use Rattle.tool_commands.specs.declared.sound.Lack.{Lack}
use Rattle.tool_commands.specs.inside.Lack.{IsLack}
use Rattle.tool_commands.proofs.sound.sound_file.Goals as goal

-- The file was tested as the library `l`, which has its name and its bytes.
module _ (l : Library) (name file : List ℕ) (named : name ≡ l.name) (filed : file ≡ l.bytes) where
  abbrev tested : Library
  tested = record { name = name; bytes = file }

  same : tested ≡ l
  same = λ i. record { name = named i; bytes = filed i }

  given : (result : Result (Vec ℕ) Lack) → IfOk result (λ f. (f.items ≡ file) × IsLibrary tested) → IfOk result (λ f. (f.items ≡ l.bytes) × IsLibrary l)
  given (Ok f) h = (h.0 ∙ filed, subst IsLibrary same h.1)
  given (Err lack) h = tt

  lacking : (result : Result (Vec ℕ) Lack) → IfErr result (IsLack tested) → IfErr result (IsLack l)
  lacking (Ok f) h = tt
  lacking (Err lack) h = subst (λ l. IsLack l lack) same h

pub returns-in-Ok-clause-ok : goal.returns-in-Ok-clause-ok
returns-in-Ok-clause-ok g c s at =
    let here = subst (λ store. IsAt g.D.Disk.facts store s) (sym c.store.ensures) (c.read.ensures.read.same s at) in
    given (get_or s.libraries c.args.position no_library) c.name.result.now c.in-Ok.file.items (c.name.ensures.state s here) (c.in-Ok.ensures.ok s at) c.tested.result c.tested.ensures.ok

pub returns-in-Ok-clause-err : goal.returns-in-Ok-clause-err
returns-in-Ok-clause-err g c s at =
    let here = subst (λ store. IsAt g.D.Disk.facts store s) (sym c.store.ensures) (c.read.ensures.read.same s at) in
    lacking (get_or s.libraries c.args.position no_library) c.name.result.now c.in-Ok.file.items (c.name.ensures.state s here) (c.in-Ok.ensures.ok s at) c.tested.result c.tested.ensures.err
