-- The executable file of a bound program, for a caller in C (own).
use Rattle.std.specs.Prelude.{◌≡◌, ◌⊎◌, ℕ, List, None, length, take}
use Rattle.byte_disk.specs.declared.step.Step.{Step}
use Rattle.elf_file.specs.Header.{header_count}
use Rattle.executable.specs.Outcome.{IsExecutableOf, executable_refusal_text}
use Rattle.executable.specs.Refusal.{IsAnswer}
use Rattle.executable.specs.declared.refusal.ExecutableRefusal.{ExecutableRefusal}
use Rattle.executable.specs.declared.refusal.ExecutableRefusal.TheVariants as refusal
use Rattle.image.specs.Byte.{byte_of}
use Rattle.image.specs.Image.{MemoryImage, image_byte}
use Rattle.states.specs.State.{State}
use Rattle.store.specs.declared.refusal.StoreRefusal.{StoreRefusal}
use Rattle.requests.specs.Binding.{binding_refusal, bound_image, bound_objects}
use Rattle.requests.specs.Request.{Request}
use Rattle.requests.specs.declared.reply.Reply.{Reply}
use Rattle.requests.specs.declared.reply.Reply.TheVariants as reply
use Rattle.registry.specs.Untested.{ReadsLibraries}
use Rattle.byte_registry.specs.Asked.{IsAsked, IsUnopened}
use Rattle.byte_registry.specs.Bytes.{HoldNoOther, HoldStore}
use Rattle.c_answers.specs.Answers.{HasText, IsToldAlone, IsTurnedAway, WantsMemory}
use Rattle.c_answers.specs.Contents.{IsGiven}
use Rattle.c_answers.specs.Numbers.{done, out_of_memory}
use Rattle.c_answers.specs.Unsaid.{IsUncounted}
use Rattle.c_answers.specs.declared.answer.Answer.{Answer}

-- the number of a refusal; 406 was the number of a test that accepted every image, and isn't used
-- again
abbrev pub executable_number : ExecutableRefusal → ℕ
executable_number refusal.NoEntry = 401
executable_number refusal.StaticPie = 402
executable_number refusal.PreInitializers = 403
executable_number (refusal.Initializers name) = 404
executable_number (refusal.Finalizers name) = 405
executable_number refusal.TooManyHeaders = 407
executable_number (refusal.WritableCode name) = 408
executable_number refusal.NoPages = 409
executable_number refusal.OutOfMemory = out_of_memory

-- The call reports why there is no executable file, with the refusal's number and line.
pub record TellsNoFile (refusal : ExecutableRefusal) (text : List ℕ) (told_size told_file told : ℕ) : Type 0 where
  pub status : told ≡ executable_number refusal
  pub file : told_file ≡ 0
  pub has_text : HasText (executable_refusal_text refusal) text told_size

-- the call reports why there is no executable file, or memory for the report was refused; all counts are
-- 0
abbrev pub IsNoFileTold : ExecutableRefusal → List ℕ → Answer → ℕ → Type 0
IsNoFileTold refusal text answer status =
    (TellsNoFile refusal text answer.text answer.file_refusal status ⊎ WantsMemory text answer.text answer.file_refusal status) × IsUncounted answer

-- The image has an executable file: the answer has the number of its program headers, and the
-- buffer has the file or is too small. Or a test refuses the image or memory was refused, and the
-- call reports why there is no file.
abbrev pub IsExecutableTold : MemoryImage → (bytes text : List ℕ) → Answer → ℕ → Type 0
IsExecutableTold image bytes text answer status =
    ((file : List ℕ) × IsExecutableOf image file × IsGiven done (header_count file) file bytes answer status)
    ⊎ ((refusal : ExecutableRefusal) × IsAnswer image refusal × IsNoFileTold refusal text answer status)

-- the report of a reply to a bind, by a call for an executable file
abbrev pub IsBoundTold : Reply → (bytes text : List ℕ) → Answer → ℕ → Type 0
IsBoundTold (reply.Bound image) bytes text answer status = IsExecutableTold image bytes text answer status
IsBoundTold other bytes text answer status = IsToldAlone other text answer status

-- A bind was requested of the registry that the bytes hold, and `IsBoundTold` holds for its reply;
-- or there is no registry, and the call reports why.
abbrev pub IsExecutableAnswered : (disk : List ℕ) → Request → (bytes text : List ℕ) → Answer → ℕ → Type 0
IsExecutableAnswered disk request bytes text answer status =
    ((s : State) × (reply : Reply) × (steps : List Step) × IsAsked disk s request reply steps × IsBoundTold reply bytes text answer status)
    ⊎ ((refusal : StoreRefusal) × IsUnopened disk refusal × IsTurnedAway refusal text answer status)

-- The buffer has the executable file of a program's image at `base`. The image is the one that is
-- defined in the state that the bytes hold, with the defined byte at each address. Each file that
-- the bind reads is a library.
pub record IsExecutableFileOf (disk program : List ℕ) (base : ℕ) (bytes : List ℕ) (answer : Answer) : Type 0 where
  pub state : State
  pub holds : HoldStore disk state
  pub only : HoldNoOther disk state
  pub libraries : ReadsLibraries state program
  pub accepted : binding_refusal state program base ≡ None
  pub each : (a : ℕ) → image_byte (bound_image state program base) a ≡ byte_of (bound_objects state program base) a
  pub file : List ℕ
  pub is : IsExecutableOf (bound_image state program base) file
  pub size : answer.bytes ≡ length file
  pub given : take answer.bytes bytes ≡ file
  pub headers : answer.count ≡ header_count file
