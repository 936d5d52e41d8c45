use Rattle.std.proofs.Common.{rules}
use Rattle.file_disk.specs.FileDisk.{IsOver}
use Rattle.file_disk.proofs.Founds.{starts_as_found}
use Rattle.file_disk.proofs.disk.FileDisk.over.Goals as goal

pub returns-clause-reopen : goal.returns-clause-reopen
returns-clause-reopen g c honest =
    let over : IsOver c.args.file c.in_ok-new.field-0 = search rules in
    starts_as_found c.args.file c.in_ok-new.field-0 honest c.in_ok-new.ensures.new over (c.in_ok-new.ensures.starts honest)
