-- The condition for the two buffers, and sequences of calls. A reader needn't check these
-- definitions.
pub mod Apart
pub mod Buffered
pub mod FileDiskLaws
pub mod MemoryFileLaws
pub mod Transfer
