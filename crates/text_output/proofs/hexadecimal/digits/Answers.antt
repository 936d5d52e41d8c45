use Rattle.std.proofs.Common.{◌∙◌, ap, slice_index}
use Rattle.std.specs.Int.{to_le_bytes, w16}
use Rattle.text_output.proofs.Digits.{digits_number, first-digit, second-digit}
use Rattle.text_output.proofs.hexadecimal.digits.Goals as goal

pub returns-clause-first : goal.returns-clause-first
returns-clause-first c =
    ap (λ bytes. slice_index bytes 0) c.to_le_bytes.ensures ∙ ap (λ b. slice_index (to_le_bytes w16 (digits_number b)) 0) c.from-wide.ensures
    ∙ first-digit c.args.byte c.ranges.byte.fits

pub returns-clause-second : goal.returns-clause-second
returns-clause-second c =
    ap (λ bytes. slice_index bytes 1) c.to_le_bytes.ensures ∙ ap (λ b. slice_index (to_le_bytes w16 (digits_number b)) 1) c.from-wide.ensures
    ∙ second-digit c.args.byte c.ranges.byte.fits
