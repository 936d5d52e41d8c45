-- The reasons why a bound program isn't written as an executable file.
use Rattle.std.specs.Prelude.{◌≡◌, ◌⊎◌, List, [], ◌∷◌, Option, Some, nat_lt, is_none}
use Rattle.std.specs.Option.{option_map}
use Rattle.elf_file.specs.FirstOf.{◌when◌, first_of}
use Rattle.image.specs.Image.{MemoryImage}
use Rattle.executable.specs.Constant.{MOST_HEADERS}
use Rattle.executable.specs.Entry.{entry_of}
use Rattle.executable.specs.Piece.{pieces_of}
use Rattle.executable.specs.Place.{header_count_of, place_of}
use Rattle.executable.specs.StaticPie.{is_static_pie}
use Rattle.executable.specs.Uncalled.{first_uninitialized, first_unfinalized, is_uncalled_before}
use Rattle.executable.specs.WritableCode.{first_unasked}
use Rattle.executable.specs.declared.refusal.ExecutableRefusal.{ExecutableRefusal}
use Rattle.executable.specs.declared.refusal.ExecutableRefusal.TheVariants.{NoEntry, StaticPie, PreInitializers, Initializers, Finalizers, TooManyHeaders, WritableCode, NoPages, OutOfMemory}

-- the tests, in their order: no entry in the program's own code; a static PIE; pre-initializers,
-- initializers or finalizers that nobody would call (three tests); too many headers; memory that
-- may be written and executed although no segment in it requests both; no room for the headers
abbrev pub executable_tests : MemoryImage → List (Option ExecutableRefusal)
executable_tests image =
    (NoEntry when is_none (entry_of image))
    ∷ (StaticPie when is_static_pie image)
    ∷ (PreInitializers when is_uncalled_before image)
    ∷ option_map Initializers (first_uninitialized image)
    ∷ option_map Finalizers (first_unfinalized image)
    ∷ (TooManyHeaders when nat_lt MOST_HEADERS (header_count_of (pieces_of image.segments)))
    ∷ option_map WritableCode (first_unasked image)
    ∷ (NoPages when is_none (place_of (pieces_of image.segments)))
    ∷ []

-- the refusal of an image: that of the first test that refuses, or none
unfoldable pub executable_refusal : MemoryImage → Option ExecutableRefusal
executable_refusal image = first_of (executable_tests image)

-- `executable_of` may return this refusal: it is that of the first test that refuses, or
-- OutOfMemory
abbrev pub IsAnswer : MemoryImage → ExecutableRefusal → Type 0
IsAnswer image answer = (executable_refusal image ≡ Some answer) ⊎ (answer ≡ OutOfMemory)
