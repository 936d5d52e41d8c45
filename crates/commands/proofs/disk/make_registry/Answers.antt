use Rattle.std.proofs.Common.{Result, Ok, Err, subst}
use Rattle.std.specs.Prelude.{OnOk}
use Rattle.store.specs.Opened.{Opened}
use Rattle.store.specs.declared.refusal.StoreRefusal.{StoreRefusal}
use Rattle.commands.specs.Opened.{SystemDisk, IsMade}
use Rattle.commands.proofs.Asking.{format_made}
use Rattle.commands.proofs.disk.make_registry.Goals as goal

-- a fact that is true in any case is true if the result is Ok
anyway : {T E : Type 0} (P : Type 0) (r : Result T E) → P → OnOk r P
anyway P (Ok t) p = p
anyway P (Err e) p = tt

pub returns-in-Ok-made-clause-ok : goal.returns-in-Ok-made-clause-ok
returns-in-Ok-made-clause-ok g c =
    let made = c.run_format-made in
    anyway _ c.name_file.result
    (subst (λ (a : Result (Unit {0}) StoreRefusal). OnOk a ((d : SystemDisk) × (registry : Opened SystemDisk) × IsMade c.args.sectors d registry)) c.in-Ok-made.is
    (format_made c.args.sectors c.in-Ok.made.disk made.result.0 made.result.1 c.in-Ok.ensures.new c.in-Ok.ensures.sectors made.ensures))
