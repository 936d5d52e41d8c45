-- The properties of an image that the tests for self-relocation and for uncalled functions accept.
use Rattle.std.specs.Prelude.{◌≡◌, false, None}
use Rattle.image.specs.Image.{MemoryImage}
use Rattle.executable.specs.StaticPie.{is_static_pie}
use Rattle.executable.specs.Uncalled.{first_uninitialized, first_unfinalized, is_uncalled_before}

-- the program doesn't relocate itself, and no object has functions that nobody would call
pub record HasNoCalls (image : MemoryImage) : Type 0 where
  pub static : is_static_pie image ≡ false
  pub before : is_uncalled_before image ≡ false
  pub initialized : first_uninitialized image ≡ None
  pub finalized : first_unfinalized image ≡ None
