-- The refusals are different from one another.
use Rattle.std.proofs.Common.{◌≢◌}
use Rattle.store.specs.declared.refusal.StoreRefusal.TheVariants.{Device, Reopen, AlreadyFormatted, Damaged, OutOfMemory, GenerationEnd, TooMany, Full, BadGeometry, OldFormat}

pub device-damaged : Device ≢ Damaged
device-damaged is = cc is

pub device-formatted : Device ≢ AlreadyFormatted
device-formatted is = cc is

pub damaged-device : Damaged ≢ Device
damaged-device is = cc is

pub formatted-device : AlreadyFormatted ≢ Device
formatted-device is = cc is

pub memory-damaged : OutOfMemory ≢ Damaged
memory-damaged is = cc is

pub memory-device : OutOfMemory ≢ Device
memory-device is = cc is

pub memory-reopen : OutOfMemory ≢ Reopen
memory-reopen is = cc is

pub end-device : GenerationEnd ≢ Device
end-device is = cc is

pub end-reopen : GenerationEnd ≢ Reopen
end-reopen is = cc is

pub many-device : TooMany ≢ Device
many-device is = cc is

pub many-reopen : TooMany ≢ Reopen
many-reopen is = cc is

pub full-device : Full ≢ Device
full-device is = cc is

pub geometry-device : BadGeometry ≢ Device
geometry-device is = cc is

pub geometry-old : BadGeometry ≢ OldFormat
geometry-old is = cc is

pub geometry-formatted : BadGeometry ≢ AlreadyFormatted
geometry-formatted is = cc is

pub memory-formatted : OutOfMemory ≢ AlreadyFormatted
memory-formatted is = cc is
