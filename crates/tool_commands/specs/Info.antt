-- The text of `info` about the whole registry (own).
use Rattle.std.specs.Prelude.{ℕ, List, ◌++◌, codes}
use Rattle.std.specs.Fmt.{decimal}

-- the lines about the disk and the number of the registry's changes
abbrev pub disk_lines : (sectors generation : ℕ) → List ℕ
disk_lines sectors generation =
    codes "version 2\n" ++ (codes "sectors " ++ decimal sectors ++ codes "\n") ++ (codes "generation " ++ decimal generation ++ codes "\n")

-- the lines about the libraries and the preloads, with their limits
abbrev pub count_lines : (libraries preloads : ℕ) → List ℕ
count_lines libraries preloads =
    codes "libraries " ++ decimal libraries ++ codes " of 2048\n" ++ (codes "preloads " ++ decimal preloads ++ codes " of 16\n")

-- the lines about the unused sectors: their number, the number of those that are free, the number
-- of their runs, and the length of the largest file that can be installed
abbrev pub room_lines : (unused free runs largest : ℕ) → List ℕ
room_lines unused free runs largest =
    codes "unused " ++ decimal unused ++ codes "\n" ++ (codes "free " ++ decimal free ++ codes "\n") ++ (codes "runs " ++ decimal runs ++ codes "\n")
    ++ (codes "largest " ++ decimal largest ++ codes "\nend\n")

-- the whole text of `info`
abbrev pub info_text : (sectors generation libraries preloads unused free runs largest : ℕ) → List ℕ
info_text sectors generation libraries preloads unused free runs largest =
    disk_lines sectors generation ++ count_lines libraries preloads ++ room_lines unused free runs largest
