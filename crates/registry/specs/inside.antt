-- Values that the code keeps while it runs. A reader needn't check these definitions. The only
-- public clauses that cite them are those about binders in flight.
pub mod Drafting
pub mod Binding
pub mod Named
pub mod Reading
pub mod Relisting
pub mod Source
pub mod Stepping
pub mod Walked
