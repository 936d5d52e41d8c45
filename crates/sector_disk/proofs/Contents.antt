-- The contents after some writes, one write at a time.
use Rattle.std.proofs.Common.{◌≡◌, ℕ, ◌+◌, ◌<◌, List, [], ◌∷◌, ◌++◌, length, get_or, set, take, refl, ◌∙◌, ap}
use Rattle.std.proofs.lemmas.List.{take_more}
use Rattle.sector_disk.specs.declared.written.Written.{Written}
use Rattle.sector_disk.specs.Disk.{Sector}
use Rattle.sector_disk.specs.Written.{contents}

pub contents-append : (start : List Sector) (writes : List Written) (w : Written) → contents start (writes ++ w ∷ []) ≡ set (contents start writes) w.at w.content
contents-append start [] w = refl
contents-append start (x ∷ writes) w = contents-append (set start x.at x.content) writes w

pub contents_more : (start : List Sector) (writes : List Written) (i : ℕ) (d : Written) → i < length writes
    → contents start (take (i + 1) writes) ≡ set (contents start (take i writes)) (get_or writes i d).at (get_or writes i d).content
contents_more start writes i d lt = ap (contents start) (take_more writes i d lt) ∙ contents-append start (take i writes) (get_or writes i d)
