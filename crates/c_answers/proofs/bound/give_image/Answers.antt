use Rattle.std.proofs.Common.{◌⊎◌, inl, inr, refl}
use Rattle.elf_file.specs.Header.{header_count}
use Rattle.executable.specs.declared.refusal.ExecutableRefusal.TheVariants as refusal
use Rattle.c_answers.specs.Answers.{WantsMemory}
use Rattle.c_answers.specs.Contents.{IsGiven}
use Rattle.c_answers.specs.Executable.{IsExecutableTold}
use Rattle.c_answers.specs.Unsaid.{IsUncounted}
use Rattle.c_answers.proofs.bound.give_image.Goals as goal

pub returns-in-Ok-clause-told : goal.returns-in-Ok-clause-told
returns-in-Ok-clause-told c = by c.give_file.ensures.given
  where
    by : IsGiven 0 (header_count c.in-Ok.file) c.in-Ok.file c.give_file.new.bytes c.give_file.result c.give_file.result.status
        ⊎ (WantsMemory c.give_file.new.text c.give_file.result.text c.give_file.result.file_refusal c.give_file.result.status × IsUncounted c.give_file.result)
        → IsExecutableTold c.args.image.now c.give_file.new.bytes c.give_file.new.text c.give_file.result c.give_file.result.status
    by (inl given) =
        let is = c.in-Ok.ensures in
        inl (
          c.in-Ok.file,
          record {
            accepted = is.accepted;
            header = is.header;
            entry = is.entry;
            ok = is.ok;
            congruent = is.congruent;
            bytes = is.loads;
            only = is.only;
            apart = is.apart;
          },
          given,
        )
    by (inr wants) = inr (refusal.OutOfMemory, inr refl, (inr wants.0, wants.1))
