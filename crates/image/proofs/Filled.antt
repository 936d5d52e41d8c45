-- Images of the first objects, and how one more object extends such an image.
use Rattle.std.proofs.Common.{◌≡◌, ℕ, ◌+◌, ◌-◌, ◌<◌, ◌≤◌, Bool, true, false, cond}
use Rattle.std.proofs.Common.{List, [], ◌∷◌, ◌++◌, length, map, take, get_or, slice_index, Option, Some, None, refl, sym, ap, ◌∙◌, subst, arith, suc, reverse}
use Rattle.std.specs.Prelude.{sum_by, ◌==◌, ◌||◌, ◌%◌, ◌^◌}
use Rattle.std.specs.List.{All, cons_option, filter_map, find, flat_map, range_with_len}
use Rattle.std.specs.Option.{option_map, option_or}
use Rattle.std.specs.Int.{byte_at}
use Rattle.std.proofs.lemmas.List.{length-append, length-map, map-append, take_all, reverse-append, get_or-map}
use Rattle.std.proofs.lemmas.List.Elements.{All-append}
use Rattle.std.proofs.lemmas.List.Folds.{find-append}
use Rattle.std.proofs.lemmas.List.Sums.{sum_by-append}
use Rattle.elf_file.specs.Segment.{loads}
use Rattle.elf_dynamic.specs.Refusal.{first_refusal}
use Rattle.elf_dynamic.specs.Relocation.{relocations, uses_symbol}
use Rattle.elf_dynamic.specs.Constant.{R_X86_64_64, R_X86_64_GLOB_DAT, R_X86_64_JUMP_SLOT, R_X86_64_RELATIVE}
use Rattle.elf_dynamic.specs.declared.relocation.Relocation.{Relocation}
use Rattle.image.specs.Bound.{AllAccepted, Bound, IsBound, bound_writes, placed_as, value_in}
use Rattle.image.specs.Byte.{byte_after, byte_of}
use Rattle.image.specs.Constant.{MEMORY_LIMIT}
use Rattle.image.specs.Heading.{Heading, within, holds}
use Rattle.image.specs.Image.{AreRising, ImageSegment, MemoryImage, heading, image_byte, image_of, object_of, segments_byte}
use Rattle.image.specs.Loading.{Loaded, all_loaded, heading_at, loaded_byte, loaded_byte_at, loaded_of}
use Rattle.image.specs.Placement.{Placed, Stacked, reach}
use Rattle.image.specs.Relocating.{Write, all_writes, base_at, file_at, last_write_at, relocations_of, symbol_value, value_with, write_with, writes_of, written_or}
use Rattle.image.specs.declared.object.ImageObject.{ImageObject}
use Rattle.image.specs.inside.Bound.{IsFilled}
use Rattle.image.specs.inside.Segments.{IsWhole, Rising}
use Rattle.image.proofs.Holding.{within-below, within-true}
use Rattle.image.proofs.Placing.{loads-end, loads-rising}
use Rattle.image.proofs.Relocating.{written_or-then, writes-more}
use Rattle.image.proofs.Stacking.{headings_of, headings-loaded, loaded-more, low-at, mapped-more, placed_of, rising-append, stack-ends}
use Rattle.image.proofs.Whole.{bound-rising, segments-bound}

read-or : {X Y : Type 0} (f : X → Y) (o p : Option X) → option_map f (option_or o p) ≡ option_or (option_map f o) (option_map f p)
read-or f None p = refl
read-or f (Some x) p = refl

-- the byte at an address in `ss` followed by `ts`: that of `ss` if there is one, or else that of `ts`
pub segments_byte-append : (ss ts : List ImageSegment) (a : ℕ) → segments_byte (ss ++ ts) a ≡ option_or (segments_byte ss a) (segments_byte ts a)
segments_byte-append ss ts a =
    let p = λ (s : ImageSegment). holds a (heading s) in
    let f = λ (s : ImageSegment). slice_index s.bytes (a - s.address) in
    ap (option_map f) (find-append p ss ts) ∙ read-or f (find p ss) (find p ts)

loaded_byte-append : (ls ms : List Loaded) (a : ℕ) → loaded_byte_at (ls ++ ms) a ≡ option_or (loaded_byte_at ls a) (loaded_byte_at ms a)
loaded_byte-append ls ms a =
    let p = λ (l : Loaded). holds a l.heading in
    let f = λ (l : Loaded). loaded_byte l (a - l.heading.address) in
    ap (option_map f) (find-append p ls ms) ∙ read-or f (find p ls) (find p ms)

below-by : (s : ImageSegment) (ss : List ImageSegment) (a end v : ℕ) (b : Bool) → holds a (heading s) ≡ b → s.address + length s.bytes ≤ end
    → (segments_byte ss a ≡ Some v → a < end)
    → option_map (λ (t : ImageSegment). slice_index t.bytes (a - t.address)) (cond b (Some s) (find (λ (t : ImageSegment). holds a (heading t)) ss)) ≡ Some v → a < end
below-by s ss a end v true e h more is = omega (arith, within-true s.address (length s.bytes) a e, h)
below-by s ss a end v false e h more is = more is

-- if no segment ends above `end`, an address that has a byte is below `end`
byte-below : (ss : List ImageSegment) (a end v : ℕ) → All (λ s. s.address + length s.bytes ≤ end) ss → segments_byte ss a ≡ Some v → a < end
byte-below [] a end v h is = cc
byte-below (s ∷ ss) a end v h is =
    below-by s ss a end v (holds a (heading s)) refl (h 0 s (omega arith)) (byte-below ss a end v (λ i d l. h (suc i) d (omega (arith, l)))) is

abbrev write_at : ℕ → ℕ → Write
write_at place value = record { place = place; value = value }

none-by : (o : Option ℕ) (place a : ℕ) (ws : List Write) → a < place → last_write_at ws a ≡ None → last_write_at (cons_option (option_map (write_at place) o) ws) a ≡ None
none-by None place a ws h none = none
none-by (Some v) place a ws h none =
    let w = write_at place v in
    let p = λ (u : Write). within u.place 8 a in
    ap (find p) (reverse-append (w ∷ []) ws) ∙ find-append p (reverse ws) (w ∷ [])
    ∙ ap (λ o. option_or o (find p (w ∷ []))) none ∙ ap (λ b. cond b (Some w) None) (within-below place 8 a h)

-- the relocations of an object write nothing below its base
none-written : (base : ℕ) (values : ℕ → Option ℕ) (rs : List Relocation) (a : ℕ) → a < base → last_write_at (filter_map (write_with base values) rs) a ≡ None
none-written base values [] a h = refl
none-written base values (r ∷ rs) a h =
    none-by (value_with base values r) (base + r.offset) a (filter_map (write_with base values) rs) (omega (arith, h)) (none-written base values rs a h)

-- if `v` doesn't write to an address that has a byte already, writing `w` and `v` into their own parts
-- is writing them into both parts together
joined : (w v : Option Write) (x y : Option ℕ) (a : ℕ) → ((n : ℕ) → written_or w x a ≡ Some n → v ≡ None)
    → option_or (written_or w x a) (written_or v y a) ≡ written_or v (written_or w (option_or x y) a) a
joined (Some w) v x y a h = ap (λ o. written_or o (Some (byte_at (a - w.place) w.value)) a) (sym (h (byte_at (a - w.place) w.value) refl))
joined None v (Some n) y a h = ap (λ o. written_or o (Some n) a) (sym (h n refl))
joined None v None y a h = refl

same-by : (kind : ℕ) (p : ℕ → ℕ) (x y : Option ℕ) (b u : Bool) → (kind == R_X86_64_64) ≡ b → uses_symbol kind ≡ u → (u ≡ true → y ≡ x)
    → cond b (option_map p x) (cond u x None) ≡ cond b (option_map p y) (cond u y None)
same-by kind p x y b true e f h = ap (λ o. cond b (option_map p o) (cond true o None)) (sym (h refl))
same-by kind p x y false false e f h = refl
same-by kind p x y true false e f h =
    let g : uses_symbol kind ≡ true = ap (λ c. (c || (kind == R_X86_64_GLOB_DAT)) || (kind == R_X86_64_JUMP_SLOT)) e in
    cc

value-same : (base : ℕ) (f g : ℕ → Option ℕ) (r : Relocation) → (uses_symbol r.kind ≡ true → g r.symbol ≡ f r.symbol) → value_with base f r ≡ value_with base g r
value-same base f g r h =
    ap (λ o. cond (r.kind == R_X86_64_RELATIVE) (Some ((base + r.addend) % 2 ^ 64)) o)
    (same-by r.kind (λ value. (value + r.addend) % 2 ^ 64) (f r.symbol) (g r.symbol) (r.kind == R_X86_64_64) (uses_symbol r.kind) refl refl h)

-- relocations write the same if the symbols that they name have the same values
writes-same : (base : ℕ) (f g : ℕ → Option ℕ) (rs : List Relocation) → All (λ r. uses_symbol r.kind ≡ true → g r.symbol ≡ f r.symbol) rs
    → filter_map (write_with base f) rs ≡ filter_map (write_with base g) rs
writes-same base f g [] h = refl
writes-same base f g (r ∷ rs) h =
    ap (λ o. cons_option (option_map (write_at (base + r.offset)) o) (filter_map (write_with base f) rs)) (value-same base f g r (h 0 r (omega arith)))
    ∙ ap (λ ws. cons_option (write_with base g r) ws) (writes-same base f g rs (λ i d l. h (suc i) d (omega (arith, l))))

-- the empty image is the image of the first 0 objects
pub filled-none : (objects : List Placed) → IsFilled objects 0 (record { objects = []; segments = [] })
filled-none objects = record { objects_are = refl; headings = refl; bytes = λ a. refl }

module _ (objects : List Placed) (own : ℕ) (b : Bound) (file : List ℕ) (inside : own < length objects) (stacked : Stacked 0 objects)
    (bound : IsBound objects own b) (same : file ≡ file_at objects own) where
  -- the next object ends at or below the limit
  pub next-fits : b.base + reach file ≤ MEMORY_LIMIT
  next-fits = omega (arith, low-at 0 objects own stacked inside, bound.base, ap reach same)

  -- the next object lies above the segments of the objects before it
  pub next-above : (image : MemoryImage) → IsFilled objects own image → All (λ s. s.address + length s.bytes ≤ b.base) image.segments
  next-above image before k d l =
      let hs = headings_of (take own objects) in
      let high = stack-ends 0 objects own stacked inside k (heading d) (omega (arith, l, length-map image.segments heading, ap length before.headings)) in
      let is : get_or hs k (heading d) ≡ heading (get_or image.segments k d) =
      ap (λ (l : List Heading). get_or l k (heading d)) (sym before.headings) ∙ get_or-map heading image.segments k d (heading d) l in
      omega (arith, subst (λ (h : Heading). h.address + h.size ≤ base_at objects own) is high, bound.base)

  placed-same : placed_as b file ≡ placed_of objects own
  placed-same =
      ap (λ n. let p : Placed = record { name = n; file = file; base = b.base } in p) bound.name
      ∙ ap (λ f. let p : Placed = record { name = (placed_of objects own).name; file = f; base = b.base } in p) same
      ∙ ap (λ n. let p : Placed = record { name = (placed_of objects own).name; file = file_at objects own; base = n } in p) bound.base

  writes-bound : bound_writes b file ≡ writes_of objects own
  writes-bound =
      ap (λ n. filter_map (write_with n (value_in b.values)) (relocations file)) bound.base
      ∙ ap (λ f. filter_map (write_with (base_at objects own) (value_in b.values)) (relocations f)) same
      ∙ writes-same (base_at objects own) (value_in b.values) (symbol_value objects own) (relocations_of objects own) bound.ready

  -- if `old` is an image of the first objects, and `new` adds the next object, `new` is an image of one
  -- object more
  pub filled-more : (old new : MemoryImage) → IsFilled objects own old → new.objects ≡ old.objects ++ object_of (placed_as b file) ∷ []
      → map heading new.segments ≡ map heading old.segments ++ map (heading_at b.base) (loads file)
      → ((a : ℕ) → image_byte new a ≡ option_or (image_byte old a) (byte_after (loaded_of (placed_as b file)) (bound_writes b file) a))
      → IsFilled objects (own + 1) new
  filled-more old new before os hs bytes =
      let ls = all_loaded (take own objects) in
      let ws = flat_map (writes_of objects) (range_with_len 0 own) in
      let vs = writes_of objects own in
      let p = placed_of objects own in
      record {
        objects_are = os ∙ ap (λ l. l ++ object_of (placed_as b file) ∷ []) before.objects_are
            ∙ ap (λ q. map object_of (take own objects) ++ object_of q ∷ []) placed-same ∙ sym (mapped-more object_of objects own inside);
        headings = hs ∙ ap (λ l. l ++ map (heading_at b.base) (loads file)) before.headings
            ∙ ap (λ l. headings_of (take own objects) ++ l) (sym (headings-loaded (placed_as b file)))
            ∙ ap (λ q. headings_of (take own objects) ++ map (λ (l : Loaded). l.heading) (loaded_of q)) placed-same
            ∙ sym (map-append (λ (l : Loaded). l.heading) ls (loaded_of p))
            ∙ ap (map (λ (l : Loaded). l.heading)) (sym (loaded-more objects own inside));
        bytes = λ a.
            let low : (n : ℕ) → byte_after ls ws a ≡ Some n → last_write_at vs a ≡ None =
            λ n is. none-written (base_at objects own) (symbol_value objects own) (relocations_of objects own) a
            (omega (arith, byte-below old.segments a b.base n (next-above old before) (before.bytes a ∙ is), bound.base)) in
            bytes a ∙ ap (λ o. option_or o (byte_after (loaded_of (placed_as b file)) (bound_writes b file) a)) (before.bytes a)
            ∙ ap (λ us. option_or (byte_after ls ws a) (byte_after (loaded_of (placed_as b file)) us a)) writes-bound
            ∙ ap (λ q. option_or (byte_after ls ws a) (byte_after (loaded_of q) vs a)) placed-same
            ∙ joined (last_write_at ws a) (last_write_at vs a) (loaded_byte_at ls a) (loaded_byte_at (loaded_of p) a) a low
            ∙ ap (λ o. written_or (last_write_at vs a) (written_or (last_write_at ws a) o a) a) (sym (loaded_byte-append ls (loaded_of p) a))
            ∙ sym (written_or-then ws vs (loaded_byte_at (ls ++ loaded_of p) a) a)
            ∙ ap (λ us. byte_after (ls ++ loaded_of p) us a) (sym (writes-more (writes_of objects) own))
            ∙ ap (λ l. byte_after l (flat_map (writes_of objects) (range_with_len 0 (own + 1))) a) (sym (loaded-more objects own inside));
      }

-- an image of the first `count` objects is the whole image if there are no more objects
pub filled-all : (objects : List Placed) (image : MemoryImage) (count : ℕ) → count ≡ length objects → Stacked 0 objects → AllAccepted objects → IsFilled objects count image
    → (image ≡ image_of objects) × ((a : ℕ) → image_byte image a ≡ byte_of objects a)
unfolding byte_of image_of
filled-all objects image count is stacked accepted full =
    let all : take count objects ≡ objects = take_all count objects (omega (arith, is)) in
    let bytes : (a : ℕ) → image_byte image a ≡ byte_after (all_loaded objects) (all_writes objects) a =
    λ a. full.bytes a ∙ ap (λ os. byte_after (all_loaded os) (flat_map (writes_of objects) (range_with_len 0 count)) a) all
    ∙ ap (λ n. byte_after (all_loaded objects) (flat_map (writes_of objects) (range_with_len 0 n)) a) is in
    let headings : map heading image.segments ≡ headings_of objects = full.headings ∙ ap headings_of all in
    let parts = segments-bound objects image.segments (bound-rising objects image.segments stacked accepted headings) headings bytes in (
      ap (λ (os : List ImageObject). let m : MemoryImage = record { objects = os; segments = image.segments } in m) (full.objects_are ∙ ap (map object_of) all)
          ∙ ap (λ (ss : List ImageSegment). let m : MemoryImage = record { objects = map object_of objects; segments = ss } in m) parts,
      bytes,
    )

abbrev nowhere : ImageSegment
nowhere = record { address = 0; permissions = 0; bytes = [] }

-- if an object's memory doesn't reach above the limit, none of its segments ends above it
low-own : (base : ℕ) (file : List ℕ) (ts : List ImageSegment) → base + reach file ≤ MEMORY_LIMIT → map heading ts ≡ map (heading_at base) (loads file)
    → All (λ s. s.address + length s.bytes ≤ MEMORY_LIMIT) ts
low-own base file ts fits hs k d l =
    let high = subst (All (λ (h : Heading). h.address + h.size ≤ base + reach file)) (sym hs) (loads-end base file) k (heading d) (omega (arith, l, length-map ts heading)) in
    let is : get_or (map heading ts) k (heading d) ≡ heading (get_or ts k d) = get_or-map heading ts k d (heading d) l in
    omega (arith, subst (λ (h : Heading). h.address + h.size ≤ base + reach file) is high, fits)

-- segments rise within the limit if their headings rise and none of them ends above the limit
pub rising-segments : (from : ℕ) (ss : List ImageSegment) → Rising from (map heading ss) → All (λ s. s.address + length s.bytes ≤ MEMORY_LIMIT) ss → AreRising from ss
rising-segments from [] rising low = tt
rising-segments from (s ∷ ss) rising low =
    (rising.0, low 0 s (omega arith), rising-segments (s.address + length s.bytes) ss rising.1 (λ k d l. low (suc k) d (omega (arith, l))))

-- if an image is whole and the next object lies above it, the image with this object is whole
pub whole-more : (os : List ImageObject) (ss ts : List ImageSegment) (o : ImageObject) (base : ℕ) (file : List ℕ) → IsWhole os ss → first_refusal file ≡ None
    → base + reach file ≤ MEMORY_LIMIT → All (λ s. s.address + length s.bytes ≤ base) ss → map heading ts ≡ map (heading_at base) (loads file) → o.segment_count ≡ length (loads file)
    → IsWhole (os ++ o ∷ []) (ss ++ ts)
whole-more os ss ts o base file before accepted fits above hs count =
    let ends : All (λ h. h.address + h.size ≤ base) (map heading ss) =
    λ k d l. let lt : k < length ss = omega (arith, l, length-map ss heading) in
    subst (λ (h : Heading). h.address + h.size ≤ base) (sym (get_or-map heading ss k nowhere d lt)) (above k nowhere lt) in
    record {
      rising = subst (Rising 0) (ap (λ l. map heading ss ++ l) (sym hs) ∙ sym (map-append heading ss ts))
          (rising-append 0 base (map heading ss) (map (heading_at base) (loads file)) before.rising (omega arith) ends (loads-rising base file accepted));
      low = All-append (λ (s : ImageSegment). s.address + length s.bytes ≤ MEMORY_LIMIT) ss ts before.low (low-own base file ts fits hs);
      counted = sum_by-append (λ (p : ImageObject). p.segment_count) os (o ∷ [])
          ∙ (let e : sum_by (λ (p : ImageObject). p.segment_count) os + (sum_by (λ (p : ImageObject). p.segment_count) (o ∷ [])) ≡ length (ss ++ ts) =
          omega (arith, before.counted, count, length-append ss ts, length-map ts heading, ap length hs, length-map (loads file) (heading_at base)) in e);
    }
