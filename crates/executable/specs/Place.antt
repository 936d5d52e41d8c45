-- The address at which a file's own headers are mapped. No piece has these pages, because the
-- kernel passes the headers' address to the program.
use Rattle.std.specs.Prelude.{ℕ, ◌+◌, ◌-◌, ◌*◌, max, fold, nat_le, if◌then◌else◌, List, [], ◌∷◌, length, map, Option, Some, None}
use Rattle.std.specs.Int.{next_multiple_of}
use Rattle.elf_file.specs.Constant.{FILE_HEADER_SIZE, PROGRAM_HEADER_SIZE}
use Rattle.image.specs.Constant.{PAGE, MEMORY_LIMIT}
use Rattle.image.specs.Loading.{Loaded}
use Rattle.executable.specs.Constant.{LOWEST}
use Rattle.executable.specs.Piece.{page_of, end_of}

-- the number of program headers of the file: one for each piece, one for the headers, PT_PHDR, PT_GNU_STACK
abbrev pub header_count_of : List Loaded → ℕ
header_count_of pieces = length pieces + 3

-- the size in bytes of the file header and of `n` program headers
abbrev pub headers_size : ℕ → ℕ
headers_size n = FILE_HEADER_SIZE + PROGRAM_HEADER_SIZE * n

-- the number of bytes of the pages that the headers need
abbrev pub headers_room : ℕ → ℕ
headers_room n = next_multiple_of (headers_size n) PAGE

-- the greatest address at which a piece ends, or 0 if there are no pieces
abbrev pub highest_end : List Loaded → ℕ
highest_end pieces = fold max 0 (map end_of pieces)

-- the address of the first page that is below neither `end` nor LOWEST, or none if `room` bytes
-- from there would end above the limit
abbrev pub place_above : ℕ → ℕ → Option ℕ
place_above end room =
    let place = max LOWEST (next_multiple_of end PAGE) in
    if nat_le (place + room) MEMORY_LIMIT then Some place else None

-- the address for `room` bytes of headers: directly below the page of the first piece, if this
-- address isn't below LOWEST, and otherwise above all pieces
abbrev pub place_for : ℕ → List Loaded → Option ℕ
place_for room [] = Some LOWEST
place_for room (p ∷ rest) =
    if nat_le (LOWEST + room) (page_of p.heading.address) then Some (page_of p.heading.address - room)
    else place_above (highest_end (p ∷ rest)) room

-- the address at which the headers of a file with these pieces are mapped, if there is room
abbrev pub place_of : List Loaded → Option ℕ
place_of pieces = place_for (headers_room (header_count_of pieces)) pieces
