-- The functions that nobody would call, by whether the program has the calls note.
use Rattle.std.proofs.Common.{◌≡◌, ℕ, Bool, true, false, cond, List, Option, None, ap, ◌∙◌}
use Rattle.std.specs.Prelude.{not, ◌&&◌}
use Rattle.image.specs.Image.{MemoryImage}
use Rattle.executable.specs.Initializers.{first_initialized, first_finalized, is_preinitialized}
use Rattle.executable.specs.inside.Calls.{HasNoCalls}
use Rattle.executable.specs.Note.{calls_itself}
use Rattle.executable.specs.StaticPie.{is_static_pie}
use Rattle.executable.specs.Uncalled.{first_uninitialized, first_unfinalized, is_uncalled_before}

-- without the note, they are all functions that a loader would call
pub before : (image : MemoryImage) (b : Bool) → calls_itself image ≡ false → is_preinitialized image ≡ b → is_uncalled_before image ≡ b
before image b own e = ap (λ x. not x && is_preinitialized image) own ∙ e

pub initialized : (image : MemoryImage) (name : Option (List ℕ)) → calls_itself image ≡ false → first_initialized image ≡ name → first_uninitialized image ≡ name
initialized image name own e = ap (λ x. cond x None (first_initialized image)) own ∙ e

pub finalized : (image : MemoryImage) (name : Option (List ℕ)) → calls_itself image ≡ false → first_finalized image ≡ name → first_unfinalized image ≡ name
finalized image name own e = ap (λ x. cond x None (first_finalized image)) own ∙ e

-- with the note, there are none
pub none-left : (image : MemoryImage) → is_static_pie image ≡ false → calls_itself image ≡ true → HasNoCalls image
none-left image static own =
    record {
      static = static;
      before = ap (λ x. not x && is_preinitialized image) own;
      initialized = ap (λ x. cond x None (first_initialized image)) own;
      finalized = ap (λ x. cond x None (first_finalized image)) own;
    }
