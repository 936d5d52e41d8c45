-- The requests of a dump's lines.
use Rattle.std.proofs.Common.{◌≡◌, ◌<◌, ℕ, Bool, true, false, List, [], ◌∷◌, ◌++◌, length, codes, Some, None, refl, ap, ◌∙◌, arith, append-nil, ne_eqb}
use Rattle.std.specs.Prelude.{◌≢◌, ◌&&◌, ◌==◌, not, All, if◌then◌else◌}
use Rattle.std.specs.List.{flat_map, list_all, slice_split}
use Rattle.std.specs.Option.{option_map}
use Rattle.std.specs.Result.{result_ok}
use Rattle.std.proofs.lemmas.Bool.Decides.{nat_tests}
use Rattle.std.proofs.lemmas.List.Elements.{All-append, All-cons, All-head, All-nil, All-tail}
use Rattle.std.proofs.lemmas.List.Splits.{slice_split_at, slice_split_none}
use Rattle.hex.specs.Hex.{IsBytes, decode_of, encode_lower, lower_digits}
use Rattle.hex.proofs.HexLemmas.{decode_of-encode_lower, length-encode_with}
use Rattle.requests.specs.Request.{install, set_preloads}
use Rattle.scripts.specs.Asked.{request_meaning}
use Rattle.scripts.specs.Words.{hex_bytes, is_name, is_visible, names_behind}
use Rattle.scripts.specs.Line.{IsLine}
use Rattle.tool_commands.specs.Dump.{behind_space}
use Rattle.tool_commands.proofs.Within.{at_each, digits_within, no_newline}

-- ---- an install

pub are_bytes : (bytes : List ℕ) → All (λ byte. byte < 256) bytes → IsBytes bytes
are_bytes bytes h = at_each (λ byte. byte < 256) (omega arith) bytes h

digits_read : (bytes : List ℕ) → IsBytes bytes → 0 < length bytes → hex_bytes (encode_lower bytes) ≡ Some bytes
digits_read bytes are some =
    let long : length (encode_lower bytes) ≢ 0 = λ h. omega (arith, h, some, length-encode_with lower_digits bytes) in
    ap (λ b. if b then None else result_ok (decode_of (encode_lower bytes))) (ne_eqb (length (encode_lower bytes)) 0 long)
    ∙ ap result_ok (decode_of-encode_lower bytes are)

pub install_asked : (bytes : List ℕ) → IsBytes bytes → 0 < length bytes → request_meaning (codes "install " ++ encode_lower bytes) ≡ Some (install bytes)
install_asked bytes are some = ap (option_map install) (digits_read bytes are some)

pub install_line : (bytes : List ℕ) → IsLine (codes "install " ++ encode_lower bytes)
install_line bytes = All-append (λ b. b ≢ 10) (codes "install ") (encode_lower bytes) (no_newline (codes "install ") refl) (digits_within bytes)

-- ---- the preloads

pub and_left : (a b : Bool) → (a && b) ≡ true → a ≡ true
and_left true b h = refl
and_left false b h = cc

pub and_right : (a b : Bool) → (a && b) ≡ true → b ≡ true
and_right true b h = h
and_right false b h = cc

-- a visible byte is neither a space nor a newline
no_space : (b : ℕ) → is_visible b ≡ true → (b == 32) ≡ false
no_space b h = grind (arith, nat_tests)

no_end : (b : ℕ) → is_visible b ≡ true → b ≢ 10
no_end b h e = grind (arith, nat_tests)

module _ (P : ℕ → Type 0) (each : (b : ℕ) → is_visible b ≡ true → P b) where
  visible_all : (name : List ℕ) → list_all is_visible name ≡ true → All P name
  visible_all [] h = All-nil P
  visible_all (b ∷ name) h = All-cons P b name (each b (and_left (is_visible b) (list_all is_visible name) h)) (visible_all name (and_right (is_visible b) (list_all is_visible name) h))

  name_all : (name : List ℕ) → is_name name ≡ true → All P name
  name_all name h = visible_all name (and_right (not (length name == 0)) (list_all is_visible name) h)

-- if names are separated by spaces, the parts between the spaces are these names
spaced_words : (name : List ℕ) (names : List (List ℕ)) → All (λ n. is_name n ≡ true) (name ∷ names)
    → slice_split (λ b. b == 32) (name ++ flat_map behind_space names) ≡ name ∷ names
spaced_words name [] h =
    ap (slice_split (λ b. b == 32)) (append-nil name)
    ∙ slice_split_none (λ b. b == 32) name (name_all (λ b. (b == 32) ≡ false) no_space name (All-head (λ n. is_name n ≡ true) name [] h))
spaced_words name (next ∷ names) h =
    slice_split_at (λ b. b == 32) name 32 (next ++ flat_map behind_space names) (name_all (λ b. (b == 32) ≡ false) no_space name (All-head (λ n. is_name n ≡ true) name (next ∷ names) h)) refl
    ∙ ap (λ words. name ∷ words) (spaced_words next names (All-tail (λ n. is_name n ≡ true) name (next ∷ names) h))

all_named : (names : List (List ℕ)) → All (λ n. is_name n ≡ true) names → list_all is_name names ≡ true
all_named [] h = refl
all_named (n ∷ names) h = rw (All-head (λ n. is_name n ≡ true) n names h, all_named names (All-tail (λ n. is_name n ≡ true) n names h)) refl

names_read : (name : List ℕ) (names : List (List ℕ)) → All (λ n. is_name n ≡ true) (name ∷ names)
    → names_behind (flat_map behind_space (name ∷ names)) ≡ Some (name ∷ names)
names_read name names h =
    ap (λ words. if list_all is_name words then Some words else None) (spaced_words name names h)
    ∙ ap (λ b. if b then Some (name ∷ names) else None) (all_named (name ∷ names) h)

pub preloads_asked : (name : List ℕ) (names : List (List ℕ)) → All (λ n. is_name n ≡ true) (name ∷ names)
    → request_meaning (codes "preload" ++ flat_map behind_space (name ∷ names)) ≡ Some (set_preloads (name ∷ names))
preloads_asked name names h = ap (option_map set_preloads) (names_read name names h)

names_line : (names : List (List ℕ)) → All (λ n. is_name n ≡ true) names → IsLine (flat_map behind_space names)
names_line [] h = All-nil (λ b. b ≢ 10)
names_line (n ∷ names) h =
    All-append (λ b. b ≢ 10) (behind_space n) (flat_map behind_space names)
    (All-append (λ b. b ≢ 10) (codes " ") n (no_newline (codes " ") refl) (name_all (λ b. b ≢ 10) no_end n (All-head (λ n. is_name n ≡ true) n names h)))
    (names_line names (All-tail (λ n. is_name n ≡ true) n names h))

pub preload_line : (names : List (List ℕ)) → All (λ n. is_name n ≡ true) names → IsLine (codes "preload" ++ flat_map behind_space names)
preload_line names h = All-append (λ b. b ≢ 10) (codes "preload") (flat_map behind_space names) (no_newline (codes "preload") refl) (names_line names h)
