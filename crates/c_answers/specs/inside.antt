-- Definitions of values between the parts of an answer. A reader needn't check them, because no
-- contract of a public function uses them.
pub mod Bindings
