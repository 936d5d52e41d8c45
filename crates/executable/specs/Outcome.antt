-- The result of making an executable of an image: the file, or the line of a refusal (own).
use Rattle.std.specs.Prelude.{◌≡◌, ℕ, List, All, ◌++◌, Some, None, codes}
use Rattle.elf_file.specs.Header.{entry_address}
use Rattle.elf_file.specs.Segment.{loads}
use Rattle.text_output.specs.Name.{name_text}
use Rattle.image.specs.Image.{MemoryImage, image_byte}
use Rattle.executable.specs.Entry.{entry_of}
use Rattle.executable.specs.Meaning.{IsApart, IsCongruent, IsExecutable, IsFileOf, IsFrom, file_byte, loaded_by}
use Rattle.executable.specs.Refusal.{executable_refusal}
use Rattle.executable.specs.declared.refusal.ExecutableRefusal.{ExecutableRefusal}
use Rattle.executable.specs.declared.refusal.ExecutableRefusal.TheVariants as refusal

-- No test refuses the image, and the file loads the image's bytes. Apart from these bytes, the file
-- loads only its own headers, and zeros that lie between two bytes of segments in the same page or
-- in adjacent pages.
pub record IsExecutableOf (image : MemoryImage) (file : List ℕ) : Type 0 where
  pub accepted : executable_refusal image ≡ None
  pub header : IsExecutable file
  pub entry : entry_of image ≡ Some (entry_address file)
  pub ok : IsFileOf image.segments file
  pub congruent : All IsCongruent (loads file)
  pub bytes : (a b : ℕ) → image_byte image a ≡ Some b → file_byte file a ≡ Some b
  pub only : (a b : ℕ) → file_byte file a ≡ Some b → IsFrom image.segments file a b
  pub apart : IsApart 0 (loaded_by file)

-- the line that consists of `says` and the name of an object
abbrev pub object_text : (says name : List ℕ) → List ℕ
object_text says name = says ++ name_text name ++ codes "\n"

-- the line of a refusal to make a file
abbrev pub executable_refusal_text : ExecutableRefusal → List ℕ
executable_refusal_text refusal.NoEntry = codes "refused NoEntry\n"
executable_refusal_text refusal.StaticPie = codes "refused StaticPie\n"
executable_refusal_text refusal.PreInitializers = codes "refused PreInitializers\n"
executable_refusal_text (refusal.Initializers name) = object_text (codes "refused Initializers ") name
executable_refusal_text (refusal.Finalizers name) = object_text (codes "refused Finalizers ") name
executable_refusal_text refusal.TooManyHeaders = codes "refused TooManyHeaders\n"
executable_refusal_text (refusal.WritableCode name) = object_text (codes "refused WritableCode ") name
executable_refusal_text refusal.NoPages = codes "refused NoPages\n"
executable_refusal_text refusal.OutOfMemory = codes "refused S11 OutOfMemory\n"
