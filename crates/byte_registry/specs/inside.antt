-- Values that the code keeps while it runs. A reader needn't check these definitions.
pub mod Opening
pub mod Planning
