use Rattle.commands.proofs.request.answer.Goals as goal

pub returns : goal.returns
returns g c =
    let apply = c.apply-reply in
    (apply.result, record { applied = apply.ensures.applied; all_calls = λ s at. apply.ensures.all_calls s at.stored; on_any_disk = apply.ensures.on_any_disk }, c.tell.ensures)
