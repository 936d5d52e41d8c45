-- Functions that nobody would call: an executable has no loader, and the program has no note that
-- it calls them itself (own).
use Rattle.std.specs.Prelude.{List, ℕ, Option, None, Bool, not, ◌&&◌, if◌then◌else◌}
use Rattle.image.specs.Image.{MemoryImage}
use Rattle.executable.specs.Initializers.{first_initialized, first_finalized, is_preinitialized}
use Rattle.executable.specs.Note.{calls_itself}

-- the program of an image has pre-initializers that nobody would call
abbrev pub is_uncalled_before : MemoryImage → Bool
is_uncalled_before image = not (calls_itself image) && is_preinitialized image

-- the name of the first library of an image with initializers that nobody would call
abbrev pub first_uninitialized : MemoryImage → Option (List ℕ)
first_uninitialized image = if calls_itself image then None else first_initialized image

-- the name of the first library of an image with finalizers that nobody would call
abbrev pub first_unfinalized : MemoryImage → Option (List ℕ)
first_unfinalized image = if calls_itself image then None else first_finalized image
