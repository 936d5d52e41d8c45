-- A disk over a file that is found with some sectors starts with them.
use Rattle.std.proofs.Common.{◌≡◌, [], length, refl, sym, ◌∙◌, ap, subst, IsTrue}
use Rattle.std.proofs.Math.Logic.{∥∥₁_elim}
use Rattle.std.proofs.Props.{props}
use Rattle.std.proofs.lemmas.List.{ext_get_or}
use Rattle.sector_disk.specs.Disk.{sector, MayLeave}
use Rattle.file_disk.specs.declared.disk.FileDisk.{FileDisk}
use Rattle.file_disk.specs.declared.sector_file.SectorFile.{Ghosts}
use Rattle.file_disk.specs.FileDisk.{file_facts, IsNew, IsAsTheFile, IsOver, StartsAsFound}
use Rattle.file_disk.specs.inside.FileDiskLaws.{disk_holds}

module _ {F : Type 0} {g : Ghosts F} where
  pub starts_as_found : (file : F) (disk : FileDisk F g) → IsTrue g.is_honest → IsNew disk → IsOver file disk → IsAsTheFile disk → StartsAsFound file disk
  starts_as_found file disk honest new over starts contents found =
      let facts = file_facts disk in
      let holds = disk_holds disk honest in
      let size : facts.sectors ≡ length contents = over.sectors ∙ found.sectors in
      let now : facts.now ≡ contents = ext_get_or [] facts.now contents (holds.size ∙ size) (λ k lt. over.now k ∙ ap (λ l. sector l k) found.now) in
      record {
        honest = honest;
        sectors = size;
        now = now;
        alone = record {
          each = λ k c lt. (
            λ left. ∥∥₁_elim (starts.only k c left) (hlevel props) (λ has. found.alone k c (over.counted.same.medium k c has) ∙ ap (λ l. sector l k) (sym now)),
            λ is. subst (λ x. MayLeave facts k x) (sym is) (holds.each k lt),
          );
        };
        time = new.time;
        failures = new.failures;
        log = refl;
      }
