-- The notes of a program (gABI chapter 5, note section; elf(5), notes). One of these notes, the
-- calls note, states that the program itself calls its libraries' functions (own).
use Rattle.std.specs.Prelude.{ℕ, zero, suc, ◌+◌, ◌*◌, ◌/◌, ◌==◌, min, length, List, [], ◌∷◌, take, drop, Bool, false, ◌&&◌, ◌||◌, nat_le, Option, Some}
use Rattle.std.specs.Int.{next_multiple_of}
use Rattle.std.specs.List.{find, range_with_len}
use Rattle.std.specs.Option.{option_map_or}
use Rattle.elf_file.specs.Constant.{PROGRAM_HEADER_SIZE}
use Rattle.elf_file.specs.Number.{number_at}
use Rattle.image.specs.Image.{ImageSegment, MemoryImage}
use Rattle.image.specs.declared.object.ImageObject.{ImageObject}
use Rattle.executable.specs.Constant.{PT_NOTE, NOTE_ALIGNMENT, NOTE_HEADER_SIZE, CALLS_NAME, CALLS_NAME_SIZE, CALLS_TYPE}
use Rattle.executable.specs.Initializers.{section_memory}

-- the size of the note with which these bytes begin: n_namesz, n_descsz and n_type, followed by the
-- padded name and the padded descriptor
abbrev pub note_size : List ℕ → ℕ
note_size bytes = NOTE_HEADER_SIZE + next_multiple_of (number_at 4 bytes 0) NOTE_ALIGNMENT + next_multiple_of (number_at 4 bytes 4) NOTE_ALIGNMENT

-- these bytes begin with the calls note: they have its sizes, its type and its name
abbrev pub is_calls_note : List ℕ → Bool
is_calls_note bytes =
    nat_le (NOTE_HEADER_SIZE + CALLS_NAME_SIZE) (length bytes) && (number_at 4 bytes 0 == CALLS_NAME_SIZE) && (number_at 4 bytes 4 == 0)
    && (number_at 4 bytes 8 == CALLS_TYPE) && (number_at 8 bytes NOTE_HEADER_SIZE == CALLS_NAME)

-- the calls note is one of the first `n` complete notes of these bytes; each note begins at the end
-- of the note before it
abbrev pub has_calls_note : ℕ → List ℕ → Bool
has_calls_note zero bytes = false
has_calls_note (suc n) bytes = is_calls_note bytes || (nat_le (note_size bytes) (length bytes) && has_calls_note n (drop (note_size bytes) bytes))

-- program header number `i` describes notes that are read: it is a PT_NOTE with the alignment 4
abbrev pub is_of_notes : List ℕ → ℕ → Bool
is_of_notes headers i =
    (number_at 4 headers (PROGRAM_HEADER_SIZE * i) == PT_NOTE) && (number_at 8 headers (PROGRAM_HEADER_SIZE * i + 48) == NOTE_ALIGNMENT)

-- the number of the first program header, among the first `n`, that describes notes that are read,
-- or none; only headers that are completely in memory count
unfoldable pub find_notes : List ℕ → ℕ → Option ℕ
find_notes headers n = find (is_of_notes headers) (range_with_len 0 (min (length headers / PROGRAM_HEADER_SIZE) n))

-- the notes that program header number `i` describes: p_filesz bytes from p_vaddr, or fewer if the
-- segment at that address ends earlier
abbrev pub notes_by : ℕ → List ImageSegment → List ℕ → ℕ → List ℕ
notes_by base own headers i =
    take (number_at 8 headers (PROGRAM_HEADER_SIZE * i + 32)) (section_memory base own (Some (number_at 8 headers (PROGRAM_HEADER_SIZE * i + 16))))

-- the notes of an object with these program headers; empty if no program header describes notes that are read
abbrev pub notes_among : ℕ → List ImageSegment → List ℕ → ℕ → List ℕ
notes_among base own headers n = option_map_or (notes_by base own headers) (find_notes headers n) []

-- the notes of an object, read from its own segments
abbrev pub notes_of : ImageObject → List ImageSegment → List ℕ
notes_of object own = notes_among object.base own (section_memory object.base own object.addresses.headers) object.addresses.header_count

-- the program, which is the first object, has the calls note; there are at most as many notes as
-- bytes
abbrev pub calls_among : List ImageObject → List ImageSegment → Bool
calls_among [] segments = false
calls_among (program ∷ libraries) segments =
    let notes = notes_of program (take program.segment_count segments) in
    has_calls_note (length notes) notes

-- the program of an image has the calls note: it calls the functions itself that a loader would
-- call
abbrev pub calls_itself : MemoryImage → Bool
calls_itself image = calls_among image.objects image.segments
