-- Programs that relocate themselves when they start. To do so, they look for their PT_DYNAMIC (own;
-- file(1) recognizes a static PIE in this way).
use Rattle.std.specs.Prelude.{ℕ, ◌*◌, ◌/◌, ◌==◌, min, length, List, [], ◌∷◌, take, Bool, false, not, ◌&&◌, bit_and}
use Rattle.std.specs.List.{list_any, range_with_len}
use Rattle.elf_file.specs.Constant.{PROGRAM_HEADER_SIZE}
use Rattle.elf_file.specs.Dynamic.{entries_in, has_tag}
use Rattle.elf_file.specs.Number.{number_at}
use Rattle.image.specs.Image.{ImageSegment, MemoryImage}
use Rattle.image.specs.declared.object.ImageObject.{ImageObject}
use Rattle.executable.specs.Constant.{DT_FLAGS_1, DF_1_PIE, PT_INTERP}
use Rattle.executable.specs.Initializers.{dynamic_memory, section_memory}

-- the flags in a dynamic section mark its object as a position-independent executable
unfoldable pub is_pie : List ℕ → Bool
is_pie section = list_any (λ e. has_tag DT_FLAGS_1 e && not (bit_and e.value DF_1_PIE == 0)) (entries_in section)

-- one of the first `n` program headers has the type `kind`; only headers that are completely in
-- `memory` count
unfoldable pub has_header : List ℕ → ℕ → ℕ → Bool
has_header memory n kind =
    list_any (λ i. number_at 4 memory (PROGRAM_HEADER_SIZE * i) == kind) (range_with_len 0 (min (length memory / PROGRAM_HEADER_SIZE) n))

-- the program, which is the first object, is a position-independent executable without an
-- interpreter
abbrev pub static_pie_among : List ImageObject → List ImageSegment → Bool
static_pie_among [] segments = false
static_pie_among (program ∷ libraries) segments =
    is_pie (dynamic_memory program (take program.segment_count segments))
    && not (has_header (section_memory program.base (take program.segment_count segments) program.addresses.headers) program.addresses.header_count PT_INTERP)

-- the program of an image is a static PIE
abbrev pub is_static_pie : MemoryImage → Bool
is_static_pie image = static_pie_among image.objects image.segments
