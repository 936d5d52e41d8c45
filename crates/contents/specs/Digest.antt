-- The SHA-256 of an installed library's bytes (FIPS 180-4, section 6.2).
use Rattle.std.specs.Prelude.{◌≡◌, ℕ, List, Option, Some, None}
use Rattle.sha2.specs.Sha256.{sha256}

-- The digest is the SHA-256 of the bytes. If there is no digest, because a read failed, the bytes
-- may be any bytes.
abbrev pub IsDigest : List ℕ → Option (List ℕ) → Type 0
IsDigest bytes (Some digest) = digest ≡ sha256 bytes
IsDigest bytes None = Unit {0}

-- the digest, if there is one, is that of some bytes
abbrev pub IsDigestOfSome : Option (List ℕ) → Type 0
IsDigestOfSome digest = (bytes : List ℕ) × IsDigest bytes digest
