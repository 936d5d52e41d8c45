use Rattle.std.proofs.Common.{length, All, Err, sym, ap, subst, ◌∙◌, arith}
use Rattle.std.specs.Prelude.{AllPairs}
use Rattle.std.proofs.lemmas.Result.{err_from_is_err_and}
use Rattle.extents.specs.Extent.{IsApart, sector_count}
use Rattle.passes.specs.Bytes.{IsOnDisk}
use Rattle.roots.specs.Entry.{IsDataExtent}
use Rattle.store.specs.Stands.{extents_of}
use Rattle.store.specs.Taken.{IsTaken}
use Rattle.store.proofs.Anew.{put_claimed}
use Rattle.store.proofs.Frees.{ok_or_err}
use Rattle.store.proofs.Holding.{err_is}
use Rattle.store.proofs.News.{free_room}
use Rattle.store.proofs.put.take_put.Goals as goal

pub returns-clause-taken : goal.returns-clause-taken
returns-clause-taken c =
    let put = c.new_entry-put.result in
    let room = c.in_ok-room.room in
    let its = c.new_entry-put.ensures in
    let given = c.in_ok-room.ensures in
    let old = c.args.layout.now in
    record {
      taken = subst (λ n. IsTaken old n (extents_of put.entry) put.at room.catalogues) c.sector_need.ensures
          (subst (λ l. IsTaken old c.sector_need.result l put.at room.catalogues) (sym its.extents)
          (subst (λ k. IsTaken old c.sector_need.result room.extents k room.catalogues) (sym its.at) given.taken));
      claimed = put_claimed old c.take_room.new.layout room.extents room.entry room.catalogues put its.extents its.at given.claimed;
      count = given.count;
      fits = its.fits;
      its_name = its.name;
      its_length = its.length;
      size = ap sector_count its.extents ∙ given.sum ∙ c.sector_need.ensures;
      filled = subst (All IsDataExtent) (sym its.extents) given.data;
      on_disk = subst (All (IsOnDisk (length old))) (sym its.extents) given.inside;
      apart = subst (AllPairs IsApart) (sym its.extents) given.apart;
      room = omega (arith, free_room given.full, c.sector_need.ensures);
    }

pub new_entry-put-requires-clause-sum : goal.new_entry-put-requires-clause-sum
new_entry-put-requires-clause-sum c = c.in_ok-room.ensures.sum ∙ c.sector_need.ensures

pub returns-clause-full : goal.returns-clause-full
returns-clause-full c = (
  λ is. absurd (ok_or_err is),
  λ lt. absurd (ok_or_err (c.in_ok-room.ensures.full.1 (omega (arith, lt, c.sector_need.ensures)))),
)

pub returns-clause-fragmented : goal.returns-clause-fragmented
returns-clause-fragmented c = (
  λ is. absurd (ok_or_err is),
  λ both. absurd (ok_or_err (c.in_ok-room.ensures.fragmented.1 (omega (arith, both.0, c.sector_need.ensures), omega (arith, both.1, c.sector_need.ensures)))),
)

pub returns-in_err-room-clause-full : goal.returns-in_err-room-clause-full
returns-in_err-room-clause-full c =
    let p = err_from_is_err_and c.from_residual.result c.from_residual.ensures.1 in
    let full = c.in_err-room.ensures.full in
    rw (p.1, p.2) (
      λ is. omega (arith, full.0 (ap (λ e. Err e) (err_is is)), c.sector_need.ensures),
      λ lt. ap (λ e. Err e) (err_is (full.1 (omega (arith, lt, c.sector_need.ensures)))),
    )

pub returns-in_err-room-clause-fragmented : goal.returns-in_err-room-clause-fragmented
returns-in_err-room-clause-fragmented c =
    let p = err_from_is_err_and c.from_residual.result c.from_residual.ensures.1 in
    let fragmented = c.in_err-room.ensures.fragmented in
    rw (p.1, p.2) (
      λ is.
          let both = fragmented.0 (ap (λ e. Err e) (err_is is)) in
          (omega (arith, both.0, c.sector_need.ensures), omega (arith, both.1, c.sector_need.ensures)),
      λ both. ap (λ e. Err e) (err_is (fragmented.1 (omega (arith, both.0, c.sector_need.ensures), omega (arith, both.1, c.sector_need.ensures)))),
    )
