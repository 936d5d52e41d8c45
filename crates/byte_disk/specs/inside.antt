-- The search for the latest contents of a disk over given bytes, and laws that follow from its
-- definitions. A reader needn't check these definitions.
pub mod Latest
pub mod PlanLaws
pub mod Laws
pub mod ReadOnly
