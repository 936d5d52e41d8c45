-- The refusals of opening, making or upgrading a registry on a disk, and their texts (own).
use Rattle.std.specs.Prelude.{ℕ, List, codes, Result, Ok, Err}
use Rattle.program_parts.specs.Refusal.{disk_refusal_text}
use Rattle.store.specs.Opening.{IsRefusalOfOpen, IsRefusalOfFormat, IsRefusalOfUpgrade}
use Rattle.store.specs.declared.refusal.StoreRefusal.{StoreRefusal}

-- the text of the answer to making or upgrading a registry
abbrev pub disk_answer_text : Result (Unit {0}) StoreRefusal → List ℕ
disk_answer_text (Ok done) = codes "ok\n"
disk_answer_text (Err refusal) = disk_refusal_text refusal

-- the refusals that opening a disk may return, for any number of sectors
abbrev pub IsOpenRefusal : StoreRefusal → Type 0
IsOpenRefusal refusal = (sectors : ℕ) × IsRefusalOfOpen sectors refusal

-- the refusals that making a registry on a disk may return, for any number of sectors
abbrev pub IsFormatRefusal : StoreRefusal → Type 0
IsFormatRefusal refusal = (sectors : ℕ) × IsRefusalOfFormat sectors refusal

-- the refusals that upgrading a disk may return, for any number of sectors
abbrev pub IsUpgradeRefusal : StoreRefusal → Type 0
IsUpgradeRefusal refusal = (sectors : ℕ) × IsRefusalOfUpgrade sectors refusal
