-- Definitions of the data that the code keeps while it runs. No public clause cites these
-- definitions, so a reader needn't check them.
pub mod Catalogues
pub mod Change
pub mod Claimed
pub mod Committed
pub mod Draft
pub mod Edit
pub mod First
pub mod FoundState
pub mod HeldRows
pub mod Kept
pub mod Moved
pub mod NameIndex
pub mod Next
pub mod Prepared
pub mod Reading
pub mod Room
pub mod Stored
pub mod Unlisted
