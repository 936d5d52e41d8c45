-- Lemmas about the lines of a script, one after the other.
use Rattle.std.proofs.Common.{◌≡◌, ℕ, ◌+◌, ◌/◌, ◌%◌, ◌<◌, ◌==◌, false, List, codes, [], ◌∷◌, ◌++◌, get_or, take, length, slice_index, refl, sym, ap, ◌∙◌, append-nil}
use Rattle.std.proofs.lemmas.Bool.{false≢true}
use Rattle.std.proofs.lemmas.Grind.{flat_map-append}
use Rattle.std.proofs.lemmas.List.{take_more}
use Rattle.std.specs.List.{flat_map}
use Rattle.hex.specs.Hex.{encode_with}
use Rattle.states.specs.State.{Library}
use Rattle.store.specs.Stands.{no_library, names_at}
use Rattle.tool_commands.specs.Dump.{behind_space, commit_text, last_text, preload_text}
use Rattle.tool_commands.specs.declared.form.Purpose.{Purpose}
use Rattle.tool_commands.specs.declared.form.Purpose.TheVariants.{Script, Update}

-- the digits of two byte strings in a row are the digits of the first and then those of the second
pub encode-append : (t xs ys : List ℕ) → encode_with t (xs ++ ys) ≡ encode_with t xs ++ encode_with t ys
unfolding encode_with
encode-append t [] ys = refl
encode-append t (x ∷ xs) ys = ap (λ (r : List ℕ). slice_index t (x / 16) ∷ slice_index t (x % 16) ∷ r) (encode-append t xs ys)

-- no bytes have no digits
pub encode-nil : (t : List ℕ) → [] ≡ encode_with t []
unfolding encode_with
encode-nil t = refl

-- the text of a list with an appended element is the text of the list and that of the element
pub text-behind : {T : Type 0} (f : T → List ℕ) (xs : List T) (x : T) → flat_map f (xs ++ x ∷ []) ≡ flat_map f xs ++ f x
text-behind f xs x = flat_map-append f xs (x ∷ []) ∙ ap (λ l. flat_map f xs ++ l) (append-nil (f x))

-- the text of the first i + 1 elements is the text of the first i and that of element number i
pub text-more : {T : Type 0} (f : T → List ℕ) (xs : List T) (i : ℕ) (d : T) → i < length xs → flat_map f (take (i + 1) xs) ≡ flat_map f (take i xs) ++ f (get_or xs i d)
text-more f xs i d h = ap (flat_map f) (take_more xs i d h) ∙ text-behind f (take i xs) (get_or xs i d)

-- the name of the library at a position, with a space before it
abbrev pub spaced : List Library → ℕ → List ℕ
spaced libraries i = behind_space (get_or libraries i no_library).name

-- the names of the libraries at these positions, each with a space before it, are the names at the
-- positions
pub all-spaced : (libraries : List Library) (positions : List ℕ) → flat_map (spaced libraries) positions ≡ flat_map behind_space (names_at libraries positions)
all-spaced libraries [] = refl
all-spaced libraries (p ∷ ps) = ap (λ l. spaced libraries p ++ l) (all-spaced libraries ps)

-- if there is at least one preload, the line of the preloads is the word `preload` and the names
pub preload-line : (libraries : List Library) (positions : List ℕ) → (length positions == 0) ≡ false
    → codes "preload" ++ flat_map behind_space (names_at libraries positions) ++ codes "\n" ≡ preload_text (names_at libraries positions)
preload-line libraries [] h = absurd (false≢true (sym h))
preload-line libraries (p ∷ ps) h = refl

-- the line of the preloads and the line `commit` are the text after the lines for the libraries
pub last_line : (purpose : Purpose) (preloads : List (List ℕ)) → preload_text preloads ++ commit_text purpose ≡ last_text purpose preloads
last_line Script preloads = append-nil (preload_text preloads)
last_line Update preloads = refl
