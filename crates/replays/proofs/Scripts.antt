-- Lemmas about the text of a dump as a script.
use Rattle.std.proofs.Common.{◌≡◌, ◌<◌, ℕ, Bool, true, false, List, [], ◌∷◌, ◌++◌, length, map, codes, append-nil, get_or, Option, Some, None, refl, sym, ap, subst, ◌∙◌, arith, take}
use Rattle.std.specs.Prelude.{◌≢◌, ◌&&◌, ◌||◌, ◌==◌, not, nat_le, nat_lt, All, bytes_eq}
use Rattle.std.specs.List.{flat_map, list_all}
use Rattle.std.specs.Option.{option_map_or}
use Rattle.std.proofs.lemmas.Bool.Decides.{nat_tests}
use Rattle.std.proofs.lemmas.Slice.Eq.{bytes_eq-Decides}
use Rattle.std.proofs.lemmas.List.{append_assoc, map-append}
use Rattle.std.proofs.lemmas.List.Elements.{All-append, All-cons, All-head, All-nil, All-push, All-tail}
use Rattle.std.proofs.lemmas.Grind.{flat_map-append}
use Rattle.hex.specs.Hex.{encode_lower}
use Rattle.elf_file.specs.Constant.{FILE_HEADER_SIZE}
use Rattle.elf_file.specs.Header.{is_too_short}
use Rattle.elf_file.specs.declared.refusal.ObjectRefusal.TheVariants.{TooShort}
use Rattle.elf_file.proofs.FirstOf.{none_at, when_none}
use Rattle.elf_dynamic.specs.Refusal.{first_refusal, object_tests}
use Rattle.elf_dynamic.specs.Strings.{soname}
use Rattle.hash_check.specs.Soname.{has_bad_soname, is_library_name, is_name_byte}
use Rattle.states.specs.State.{Library, State, has_name, names_of}
use Rattle.requests.specs.Library.{IsLibrary, library_refusal}
use Rattle.requests.specs.Request.{Request}
use Rattle.requests.specs.State.{IsState}
use Rattle.requests.proofs.Sonames.{badly_named, taken_memory}
use Rattle.binders.specs.Events.{Happening, apply}
use Rattle.scripts.specs.Asked.{request_meaning}
use Rattle.scripts.specs.Words.{is_name, is_visible}
use Rattle.commands.specs.Line.{binder_meaning, first_of, meaning}
use Rattle.scripts.specs.Line.{IsLine, ended}
use Rattle.updates.specs.Lines.{commit_line}
use Rattle.updates.proofs.Texts.{flat_more}
use Rattle.tool_commands.specs.Dump.{behind_space, cut_text, dump_text, install_text, preload_text, script_text}
use Rattle.tool_commands.specs.declared.form.Purpose.TheVariants.{Update}
use Rattle.tool_commands.proofs.Within.{no_newline}
use Rattle.replays.specs.Script.{IsScript, IsUpdateText}
use Rattle.replays.specs.Replay.{IsStateOfBytes, preload_requests, requests_for}
use Rattle.replays.proofs.Meanings.{and_left, and_right, are_bytes, install_asked, install_line, preload_line, preloads_asked}
use Rattle.replays.proofs.Readings.{one_reading, same_head, same_tail}
use Rattle.replays.proofs.States.{install_of}

-- ---- the file and the name of a library

long_enough : (file : List ℕ) → first_refusal file ≡ None → is_too_short file ≡ false
unfolding first_refusal
long_enough file h = when_none TooShort (is_too_short file) (none_at (object_tests file) 0 h)

has_bytes : (n : ℕ) → nat_lt n FILE_HEADER_SIZE ≡ false → 0 < n
has_bytes n h = grind (arith, nat_tests)

-- no library's file is empty
some_bytes : (file : List ℕ) → library_refusal file ≡ None → 0 < length file
some_bytes file h = has_bytes (length file) (long_enough file (taken_memory file h).0)

good_name : (l : Library) → soname l.bytes ≡ Some l.name → (has_bad_soname l.bytes ≡ true → ⊥) → is_library_name l.name ≡ true
unfolding has_bad_soname
good_name l named fine = by (is_library_name l.name) (λ bad. fine (ap (λ o. not (option_map_or is_library_name o false)) named ∙ ap not bad))
  where
    by : (b : Bool) → (b ≡ false → ⊥) → b ≡ true
    by true h = refl
    by false h = absurd (h refl)

visible : (b : ℕ) → is_name_byte b ≡ true → is_visible b ≡ true
visible b h = grind (arith, nat_tests)

both : (a b : Bool) → a ≡ true → b ≡ true → (a && b) ≡ true
both true b h k = k
both false b h k = cc h

all_visible : (name : List ℕ) → list_all is_name_byte name ≡ true → list_all is_visible name ≡ true
all_visible [] h = refl
all_visible (b ∷ name) h =
    both (is_visible b) (list_all is_visible name) (visible b (and_left (is_name_byte b) (list_all is_name_byte name) h))
    (all_visible name (and_right (is_name_byte b) (list_all is_name_byte name) h))

some_length : (n : ℕ) → nat_le 1 n ≡ true → not (n == 0) ≡ true
some_length n h = grind (arith, nat_tests)

-- the name of a library has the form of a NAME in scripts
name_of_script : (name : List ℕ) → is_library_name name ≡ true → is_name name ≡ true
unfolding is_library_name
name_of_script name h =
    let short = and_left (nat_le 1 (length name) && nat_le (length name) 240) (list_all is_name_byte name) h in
    let each = and_right (nat_le 1 (length name) && nat_le (length name) 240) (list_all is_name_byte name) h in
    both (not (length name == 0)) (list_all is_visible name) (some_length (length name) (and_left (nat_le 1 (length name)) (nat_le (length name) 240) short)) (all_visible name each)

library_named : (l : Library) → IsLibrary l → is_name l.name ≡ true
library_named l is = name_of_script l.name (good_name l is.named (badly_named l.bytes is.accepted))

-- each name of an installed library has the form of a NAME in scripts
found_named : (libraries : List Library) (name : List ℕ) → All IsLibrary libraries → has_name (names_of libraries) name ≡ true → is_name name ≡ true
found_named [] name h found = cc found
found_named (l ∷ libraries) name h found =
    by (bytes_eq name l.name) (has_name (names_of libraries) name) (bytes_eq-Decides name l.name).0 (found_named libraries name (All-tail IsLibrary l libraries h)) found
  where
    by : (b c : Bool) → (b ≡ true → name ≡ l.name) → (c ≡ true → is_name name ≡ true) → (b || c) ≡ true → is_name name ≡ true
    by true c same rest found = subst (λ n. is_name n ≡ true) (sym (same refl)) (library_named l (All-head IsLibrary l libraries h))
    by false c same rest found = rest found

preloads_named : (s : State) → IsState s → All (λ n. is_name n ≡ true) s.preloads
preloads_named s h k d lt = found_named s.libraries (get_or s.preloads k d) h.libraries (h.installed k d lt)

-- ---- the lines

abbrev pub line_of : Library → List ℕ
line_of l = codes "install " ++ encode_lower l.bytes

abbrev preload_lines : List (List ℕ) → List (List ℕ)
preload_lines [] = []
preload_lines (name ∷ names) = (codes "preload" ++ flat_map behind_space (name ∷ names)) ∷ []

abbrev pub asking : Request → Option Happening
asking request = Some (apply request)

abbrev pub some_request : Request → Option Request
some_request request = Some request

-- the lines of a dump
abbrev pub lines_of : State → List (List ℕ)
lines_of s = map line_of s.libraries ++ preload_lines s.preloads

pub each_install : (libraries : List Library) → All IsLine (map line_of libraries)
each_install [] = All-nil IsLine
each_install (l ∷ libraries) = All-cons IsLine (line_of l) (map line_of libraries) (install_line l.bytes) (each_install libraries)

pub whole_installs : (libraries : List Library) → flat_map install_text libraries ≡ flat_map ended (map line_of libraries)
whole_installs [] = refl
whole_installs (l ∷ libraries) = ap (λ rest. install_text l ++ rest) (whole_installs libraries)

installs_asked : (libraries : List Library) → All IsLibrary libraries → All (λ l. All (λ byte. byte < 256) l.bytes) libraries
    → map request_meaning (map line_of libraries) ≡ map some_request (map install_of libraries)
installs_asked [] h bytes = refl
installs_asked (l ∷ libraries) h bytes =
    let is = All-head IsLibrary l libraries h in
    let are = All-head (λ (l : Library). All (λ byte. byte < 256) l.bytes) l libraries bytes in
    ap (λ o. o ∷ map request_meaning (map line_of libraries)) (install_asked l.bytes (are_bytes l.bytes are) (some_bytes l.bytes is.accepted))
    ∙ ap (λ rest. some_request (install_of l) ∷ rest)
    (installs_asked libraries (All-tail IsLibrary l libraries h) (All-tail (λ (l : Library). All (λ byte. byte < 256) l.bytes) l libraries bytes))

each_preloads : (names : List (List ℕ)) → All (λ n. is_name n ≡ true) names → All IsLine (preload_lines names)
each_preloads [] h = All-nil IsLine
each_preloads (name ∷ names) h = All-cons IsLine (codes "preload" ++ flat_map behind_space (name ∷ names)) [] (preload_line (name ∷ names) h) (All-nil IsLine)

whole_preloads : (names : List (List ℕ)) → preload_text names ≡ flat_map ended (preload_lines names)
whole_preloads [] = refl
whole_preloads (name ∷ names) =
    sym (append_assoc (codes "preload") (flat_map behind_space (name ∷ names)) (10 ∷ [])) ∙ sym (append-nil (ended (codes "preload" ++ flat_map behind_space (name ∷ names))))

preload_asked : (names : List (List ℕ)) → All (λ n. is_name n ≡ true) names → map request_meaning (preload_lines names) ≡ map some_request (preload_requests names)
preload_asked [] h = refl
preload_asked (name ∷ names) h = ap (λ o. o ∷ []) (preloads_asked name names h)

pub each_line : (s : State) → IsState s → All IsLine (lines_of s)
each_line s h = All-append IsLine (map line_of s.libraries) (preload_lines s.preloads) (each_install s.libraries) (each_preloads s.preloads (preloads_named s h))

whole_lines : (s : State) → dump_text s ≡ flat_map ended (lines_of s)
whole_lines s =
    ap (λ front. front ++ preload_text s.preloads) (whole_installs s.libraries)
    ∙ ap (λ rest. flat_map ended (map line_of s.libraries) ++ rest) (whole_preloads s.preloads)
    ∙ sym (flat_map-append ended (map line_of s.libraries) (preload_lines s.preloads))

-- each line of a dump asks for its request
pub lines_ask : (s : State) → IsStateOfBytes s → map request_meaning (lines_of s) ≡ map some_request (requests_for s)
lines_ask s h =
    map-append request_meaning (map line_of s.libraries) (preload_lines s.preloads)
    ∙ ap (λ front. front ++ map request_meaning (preload_lines s.preloads)) (installs_asked s.libraries h.state.libraries h.bytes)
    ∙ ap (λ rest. map some_request (map install_of s.libraries) ++ rest) (preload_asked s.preloads (preloads_named s h.state))
    ∙ sym (map-append some_request (map install_of s.libraries) (preload_requests s.preloads))

-- ---- the text as a script

-- a line that asks for a command in an update asks for the same command in a script
all_mean : (lines : List (List ℕ)) (requests : List Request) → map request_meaning lines ≡ map some_request requests → map meaning lines ≡ map asking requests
all_mean [] [] h = refl
all_mean [] (r ∷ requests) h = absurd (cc h)
all_mean (line ∷ lines) [] h = absurd (cc h)
all_mean (line ∷ lines) (r ∷ requests) h =
    ap (λ o. first_of o (binder_meaning line) ∷ map meaning lines) (same_head (request_meaning line) (some_request r) (map request_meaning lines) (map some_request requests) h)
    ∙ ap (λ rest. asking r ∷ rest) (all_mean lines requests (same_tail (request_meaning line) (some_request r) (map request_meaning lines) (map some_request requests) h))

-- the text of a dump is a script of the requests for the state
pub is_script : (s : State) → IsStateOfBytes s → IsScript (dump_text s) (requests_for s)
is_script s h = record {
  lines = lines_of s;
  each = each_line s h.state;
  whole = whole_lines s;
  asked = all_mean (lines_of s) (requests_for s) (lines_ask s h);
  only = λ others cut lines rest is. one_reading (lines_of s) [] (each_line s h.state) (All-nil (λ b. b ≢ 10)) others cut lines rest
      (append-nil (flat_map ended (lines_of s)) ∙ sym (whole_lines s) ∙ is);
}

-- ---- the text as an update

commit_is_line : IsLine commit_line
commit_is_line = no_newline commit_line refl

-- the lines of a dump for an update
abbrev pub update_lines : State → List (List ℕ)
update_lines s = lines_of s ++ commit_line ∷ []

pub each_update_line : (s : State) → IsState s → All IsLine (update_lines s)
each_update_line s h = All-push IsLine (lines_of s) commit_line (each_line s h) commit_is_line

whole_update : (s : State) → script_text Update s ≡ flat_map ended (lines_of s) ++ ended commit_line
whole_update s = sym (append_assoc (flat_map install_text s.libraries) (preload_text s.preloads) (codes "commit\n")) ∙ ap (λ text. text ++ codes "commit\n") (whole_lines s)

pub whole_update_lines : (s : State) → flat_map ended (update_lines s) ++ [] ≡ script_text Update s
whole_update_lines s = append-nil (flat_map ended (update_lines s)) ∙ flat_more ended (lines_of s) commit_line ∙ sym (whole_update s)

-- the text of a dump for an update asks for the requests for the state, and then for the commit
pub is_update_text : (s : State) → IsStateOfBytes s → IsUpdateText (script_text Update s) (requests_for s)
is_update_text s h = record {
  lines = lines_of s;
  each = each_line s h.state;
  whole = whole_update s;
  asked = lines_ask s h;
  only = λ others cut lines rest is. one_reading (update_lines s) [] (each_update_line s h.state) (All-nil (λ b. b ≢ 10)) others cut lines rest (whole_update_lines s ∙ is);
}

-- a script that was cut has the bytes `cut` after its last newline
pub cut_ends : (s : State) (k : ℕ) (others : List (List ℕ)) (cut : List ℕ) → All IsLine others → IsLine cut → cut_text s k ≡ flat_map ended others ++ cut → cut ≡ codes "cut"
cut_ends s k others cut lines rest is =
    let installs = take k s.libraries in
    (one_reading (map line_of installs) (codes "cut") (each_install installs) (no_newline (codes "cut") refl) others cut lines rest
    (ap (λ front. front ++ codes "cut") (sym (whole_installs installs)) ∙ is)).1
