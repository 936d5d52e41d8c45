-- The fields of a sector at their offsets, as the code reads them. A reader needn't check these
-- definitions.
pub mod Reading
