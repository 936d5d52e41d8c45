use Rattle.std.proofs.Common.{[], ◌∷◌, ap}
use Rattle.std.specs.Prelude.{not}
use Rattle.std.specs.Option.{option_map}
use Rattle.elf_file.specs.FirstOf.{◌when◌, first_of}
use Rattle.image.specs.Placement.{is_good_base}
use Rattle.image.specs.Refusal.{program_refusal}
use Rattle.image.specs.declared.refusal.BindRefusal.TheVariants.{Program, BadBase}
use Rattle.image.proofs.program.admit_program.Goals as goal

pub returns-in-Err-File-clause-refused : goal.returns-in-Err-File-clause-refused
unfolding program_refusal
returns-in-Err-File-clause-refused c =
    ap (λ o. first_of (option_map Program o ∷ (BadBase when not (is_good_base c.args.file.now c.args.base)) ∷ []))
    (rw c.in-Err-File.field-0-is at c.in-Err-File.ensures.refused)
