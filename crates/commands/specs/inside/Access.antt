-- The disk of a command of the program, and the access that a command of a registry needs.
use Rattle.std.specs.Prelude.{ℕ, List, Option, Some, None}
use Rattle.file_disk.specs.declared.disk_file.Access.{Access}
use Rattle.file_disk.specs.declared.disk_file.Access.TheVariants.{Reading, Changes}
use Rattle.requests.specs.Request.{Request, bind, list}
use Rattle.commands.specs.Words.{CommandLine}
use Rattle.commands.specs.Words as words

-- the path of a command's disk, or none for `image`, which has no disk
abbrev pub disk_of : CommandLine → Option (List ℕ)
disk_of (words.image program base) = None
disk_of (words.format disk sectors) = Some disk
disk_of (words.upgrade disk) = Some disk
disk_of (words.install disk file) = Some disk
disk_of (words.replace disk file) = Some disk
disk_of (words.remove disk name) = Some disk
disk_of (words.preload disk names) = Some disk
disk_of (words.list disk) = Some disk
disk_of (words.bind disk program base) = Some disk
disk_of (words.script disk) = Some disk

-- the access that a request needs: a listing and a bind only read
abbrev pub access_of : Request → Access
access_of list = Reading
access_of (bind program base) = Reading
access_of request = Changes
