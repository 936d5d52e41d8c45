-- The entries that name needed libraries.
use Rattle.std.specs.Prelude.{ℕ, ◌-◌, List, map, filter, Bool}
use Rattle.std.specs.List.{range_with_len}
use Rattle.elf_file.specs.Constant.{DT_NEEDED}
use Rattle.elf_file.specs.Dynamic.{entry, has_tag}

-- entry number `i` names a needed library
abbrev pub is_needed : List ℕ → ℕ → Bool
is_needed section i = has_tag DT_NEEDED (entry section i)

-- the values of the DT_NEEDED entries from entry number `k`, among the first `count` entries
unfoldable pub values_from : List ℕ → ℕ → ℕ → List ℕ
values_from section count k = map (λ e. e.value) (filter (has_tag DT_NEEDED) (map (entry section) (range_with_len k (count - k))))
