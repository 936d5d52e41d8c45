use Rattle.std.proofs.Common.{◌≡◌, ℕ, ◌*◌, ◌++◌, List, length, take, inl, inr, refl, sym, ap, subst, ◌∙◌, arith, length-take}
use Rattle.std.specs.Int.{div_ceil}
use Rattle.std.proofs.lemmas.Grind.{common_steps, div_ceil_times}
use Rattle.std.proofs.lemmas.Result.{err_from_is_err_and}
use Rattle.extents.specs.Extent.{places, sector_count}
use Rattle.sector_disk.specs.Disk.{AreCallsExactly}
use Rattle.sector_disk.proofs.Moments.{no_calls}
use Rattle.passes.specs.Bytes.{bytes_at}
use Rattle.passes.proofs.Readings.{no_reads}
use Rattle.passes.proofs.Rows.{in_row_at_most, in_row_exactly}
use Rattle.store.proofs.read.read_file.Given as given
use Rattle.store.proofs.read.read_file.Goals.{After-file_extents}
use Rattle.store.proofs.read.read_file.Goals as goal

front : (n : ℕ) (xs ys : List ℕ) → length xs ≡ n → take n (xs ++ ys) ≡ xs
front n xs ys same = grind (arith, common_steps)

cut_length : (n : ℕ) (xs ys : List ℕ) → ys ≡ take n xs → length xs ≡ 512 * div_ceil n 512 → length ys ≡ n
cut_length n xs ys is same = omega (arith, ap length is, length-take n xs, same, div_ceil_times n 512 (omega arith))

-- the extents have the sectors of the byte string
sectors_are : (g : given.Over) (c : After-file_extents g) → sector_count c.file_extents.result.now ≡ div_ceil c.args.placed.now.entry.file_length 512
sectors_are g c = ap sector_count c.file_extents.ensures ∙ c.requires.spelling.extents.sum

pub returns-in_err-reserve_exact : goal.returns-in_err-reserve_exact
returns-in_err-reserve_exact g c =
    let disk = g.D.Disk.facts c.args.disk.now in
    let p = err_from_is_err_and c.from_residual.result c.from_residual.ensures.1 in
    rw (p.1, p.2) (record {
      calls = record { some = no_calls disk; time = omega arith };
      all_calls = tt;
      same = λ honest. no_reads disk;
      read = λ honest. tt;
      length = tt;
      refused = inr (refl, refl);
    })

pub returns-in_err-resize : goal.returns-in_err-resize
returns-in_err-resize g c =
    let disk = g.D.Disk.facts c.args.disk.now in
    let p = err_from_is_err_and c.from_residual-in_err-resize.result c.from_residual-in_err-resize.ensures.1 in
    rw (p.1, p.2) (record {
      calls = record { some = no_calls disk; time = omega arith };
      all_calls = tt;
      same = λ honest. no_reads disk;
      read = λ honest. tt;
      length = tt;
      refused = inr (refl, refl);
    })

pub read_bytes-requires-clause-size : goal.read_bytes-requires-clause-size
read_bytes-requires-clause-size g c =
    let here = (goal.at.read_bytes-requires-clause-size g c).After-file_extents in
    c.deref_mut.ensures.len ∙ c.in_ok-resize.ensures.len ∙ ap (λ n. 512 * n) (c.div_ceil.ensures ∙ sym (sectors_are g here))

pub returns-in_err-read_bytes : goal.returns-in_err-read_bytes
returns-in_err-read_bytes g c =
    let here = (goal.at.returns-in_err-read_bytes g c).After-file_extents in
    let p = err_from_is_err_and c.from_residual-in_err-read_bytes.result c.from_residual-in_err-read_bytes.ensures.1 in
    rw (p.1, p.2) (record {
      calls = in_row_at_most c.read_bytes.ensures.calls (omega (arith, sectors_are g here));
      all_calls = tt;
      same = c.read_bytes.ensures.same;
      read = λ honest. tt;
      length = tt;
      refused = inl (refl, omega (arith, c.in_err-read_bytes.ensures.calls.err));
    })

pub returns : goal.returns
returns g c =
    let count = sectors_are g (goal.at.returns g c).After-file_extents in
    let disk = g.D.Disk.facts c.args.disk.now in
    let size = c.args.placed.now.entry.file_length in
    let read = c.in_ok-read_bytes.ensures in
    let into = c.read_bytes.new.into in
    let cut : c.truncate.new.self.items ≡ take size into =
    c.truncate.ensures.items ∙ ap (take size) (front c.resize.new.self.len into _ (read.size ∙ c.deref_mut.ensures.len)) in
    let whole : length into ≡ 512 * div_ceil size 512 = read.size ∙ c.deref_mut.ensures.len ∙ c.in_ok-resize.ensures.len ∙ ap (λ n. 512 * n) c.div_ceil.ensures in record {
      calls = in_row_at_most read.calls (omega (arith, count));
      all_calls = subst (λ n. AreCallsExactly n disk (g.D.Disk.facts c.read_bytes.new.disk)) count (in_row_exactly read.calls);
      same = read.same;
      read = λ honest. cut ∙ ap (take size) (read.read honest ∙ ap (λ l. bytes_at disk.now (places l)) c.file_extents.ensures);
      length = cut_length size into c.truncate.new.self.items cut whole;
      refused = tt;
    }
