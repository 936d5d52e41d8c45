-- If the status of a call for an executable file is 0, the buffer has the file.
use Rattle.std.proofs.Common.{◌≡◌, inl, inr, ℕ, List, sym, ◌∙◌, subst, arith}
use Rattle.byte_disk.specs.declared.step.Step.{Step}
use Rattle.executable.specs.Outcome.{IsExecutableOf}
use Rattle.executable.specs.declared.refusal.ExecutableRefusal.{ExecutableRefusal}
use Rattle.executable.specs.declared.refusal.ExecutableRefusal.TheVariants as executable
use Rattle.image.specs.Byte.{byte_of}
use Rattle.image.specs.Image.{MemoryImage, image_byte}
use Rattle.requests.specs.Binding.{binding_refusal, bound_image, bound_objects}
use Rattle.requests.specs.Request as request
use Rattle.requests.specs.Table.{Listed}
use Rattle.requests.specs.declared.refusal.Refusal.TheVariants as refusal
use Rattle.requests.specs.declared.reply.Reply.{Reply}
use Rattle.requests.specs.declared.reply.Reply.TheVariants as reply
use Rattle.states.specs.State.{State}
use Rattle.byte_registry.specs.Asked.{IsAsked}
use Rattle.c_answers.specs.Executable.{IsBoundTold, IsExecutableAnswered, IsExecutableFileOf, IsExecutableTold, executable_number}
use Rattle.c_answers.specs.declared.answer.Answer.{Answer}
use Rattle.c_answers.proofs.Given.{none_mapped, refused_not_done, turned_not_done}

-- no refusal of an executable file has the number 0
no_file_not_done : (why : ExecutableRefusal) → executable_number why ≡ 0 → ⊥
no_file_not_done executable.NoEntry e = omega (arith, e)
no_file_not_done why e = omega (arith, e)

module _ (disk program : List ℕ) (base : ℕ) (bytes text : List ℕ) (answer : Answer) (status : ℕ) (zero : status ≡ 0) where
  not_done : (image : MemoryImage) → reply.Done ≡ reply.Bound image → ⊥
  not_done image e = cc

  not_listed : (l : Listed) (image : MemoryImage) → reply.Listing l ≡ reply.Bound image → ⊥
  not_listed l image e = cc

  -- if the bytes hold a registry whose bind has an image, the buffer has this image's file
  file_of : (s : State) (image : MemoryImage) (steps : List Step) → IsAsked disk s (request.bind program base) (reply.Bound image) steps
      → IsExecutableTold image bytes text answer status → IsExecutableFileOf disk program base bytes answer
  file_of s image steps asked (inl (file, of, (inl put, size, count, unlisted, unbound, silent))) =
      let is = asked.by_table.step.0.2 in
      record {
        state = s;
        holds = asked.holds;
        only = asked.only;
        libraries = asked.by_table.step.1 tt;
        accepted = none_mapped refusal.Bind (binding_refusal s program base) asked.by_table.step.0.1;
        each = subst (λ i. (a : ℕ) → image_byte i a ≡ byte_of (bound_objects s program base) a) is.0 is.1;
        file = file;
        is = subst (λ i. IsExecutableOf i file) is.0 of;
        size = size;
        given = put.1;
        headers = count;
      }
  file_of s image steps asked (inl (file, of, (inr small, size, count, unlisted, unbound, silent))) = absurd (omega (arith, zero, small.0))
  file_of s image steps asked (inr (why, of, (inl tells, uncounted))) = absurd (no_file_not_done why (sym tells.status ∙ zero))
  file_of s image steps asked (inr (why, of, (inr wants, uncounted))) = absurd (omega (arith, zero, wants.status))

  bound : (s : State) (r : Reply) (steps : List Step) → IsAsked disk s (request.bind program base) r steps
      → IsBoundTold r bytes text answer status → IsExecutableFileOf disk program base bytes answer
  bound s reply.Done steps asked told = absurd (not_done (bound_image s program base) asked.by_table.step.0.2)
  bound s (reply.Listing l) steps asked told = absurd (not_listed l (bound_image s program base) asked.by_table.step.0.2)
  bound s (reply.Bound image) steps asked told = file_of s image steps asked told
  bound s (reply.Refused why) steps asked told = absurd (refused_not_done why text answer status zero told.0)

  pub executable_given : IsExecutableAnswered disk (request.bind program base) bytes text answer status → IsExecutableFileOf disk program base bytes answer
  executable_given (inl asked) = bound asked.0 asked.1 asked.2 asked.3 asked.4
  executable_given (inr refused) = absurd (turned_not_done refused.0 text answer status zero refused.2)
