-- The maximum number of steps of a change, whatever is installed.
use Rattle.std.proofs.Common.{ℕ, ◌+◌, ◌-◌, ◌≤◌, [], ◌∷◌, length, arith}
use Rattle.std.proofs.lemmas.List.{length-append}
use Rattle.states.specs.Cost.{catalogues_for}
use Rattle.states.specs.State.{State}
use Rattle.requests.specs.Library.{name_of}
use Rattle.requests.specs.Request.{Request, install, replace, remove, set_preloads, bind, list}
use Rattle.requests.specs.Step.{accepted, IsReply}
use Rattle.requests.specs.declared.reply.Reply.TheVariants.{Done}
use Rattle.registry.specs.Calls.{calls_of}
use Rattle.byte_registry.specs.Plans.{most_steps}

-- up to 2,048 libraries need at most 32 catalogues
few_catalogues : (libraries : ℕ) → libraries ≤ 2048 → catalogues_for libraries ≤ 32
few_catalogues libraries few = omega (arith, few)

pub few_steps : (request : Request) (s : State) (steps : ℕ) → IsReply s request Done → steps ≤ calls_of s request + 1 → length s.libraries ≤ 2048
    → length (accepted s request).libraries ≤ 2048 → steps ≤ most_steps request
few_steps (install bytes) s steps done few before after =
    let one_more = length-append s.libraries (record { name = name_of bytes; bytes = bytes } ∷ []) in
    omega (arith, few, few_catalogues (length s.libraries + 1) (omega (arith, after, one_more)))
few_steps (replace bytes) s steps done few before after = omega (arith, few, few_catalogues (length s.libraries) before)
few_steps (remove name) s steps done few before after = omega (arith, few, few_catalogues (length s.libraries - 1) (omega (arith, before)))
few_steps (set_preloads names) s steps done few before after = omega (arith, few)
few_steps (bind program base) s steps done few before after = cc done
few_steps list s steps done few before after = cc done
