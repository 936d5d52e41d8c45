-- The finding or the digest of a library, and which findings report that the library can't be read.
use Rattle.std.proofs.Common.{◌≡◌, List, ℕ, true, Option, Some, None, refl}
use Rattle.std.specs.Prelude.{is_none}
use Rattle.std.proofs.lemmas.Bool.{false≢true}
use Rattle.states.specs.State.{Library}
use Rattle.contents.specs.declared.finding.Finding.{Finding}
use Rattle.contents.specs.declared.finding.Finding.TheVariants.{Sound, Refused, OtherName, Unreadable}
use Rattle.contents.specs.Digest.{IsDigest}
use Rattle.contents.specs.Finding.{is_unreadable}

-- a finding that reports that the library can't be read is Unreadable
pub no_finding : (f : Finding) → is_unreadable f ≡ true → f ≡ Unreadable
no_finding Sound h = absurd (false≢true h)
no_finding (Refused refusal) h = absurd (false≢true h)
no_finding OtherName h = absurd (false≢true h)
no_finding Unreadable h = refl

-- the digest is that of the library's bytes
abbrev pub IsDigestOf : Library → Option (List ℕ) → Type 0
IsDigestOf l digest = IsDigest l.bytes digest

pub no_digest : (digest : Option (List ℕ)) → is_none digest ≡ true → digest ≡ None
no_digest None h = refl
no_digest (Some digest) h = absurd (false≢true h)
