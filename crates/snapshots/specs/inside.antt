-- Definitions of the data that the code keeps while it runs. No public clause cites these
-- definitions, so a reader needn't check them.
pub mod HoldsAll
pub mod Places
