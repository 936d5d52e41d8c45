use Rattle.std.proofs.Common.{rules, ◌≡◌, ◌⊎◌, inl, ⊎_elim, [], length, IsTrue, Err, refl, sym, arith, subst, ap, ◌∙◌}
use Rattle.roots.specs.Root.{version_of}
use Rattle.store.specs.AnyDisk.{MakesOnAnyDisk}
use Rattle.store.specs.Makes.{Makes}
use Rattle.store.specs.Opened.{IsAt}
use Rattle.store.specs.Opening.{RefusesFormat, IsRefusalOfFormat}
use Rattle.states.specs.Geometry.{IsGeometry}
use Rattle.store.specs.Stands.{entry_sectors, Stands, StandsBy}
use Rattle.store.specs.declared.refusal.StoreRefusal.{StoreRefusal}
use Rattle.store.specs.declared.refusal.StoreRefusal.TheVariants.{AlreadyFormatted, BadGeometry, Device, OutOfMemory}
use Rattle.store.specs.inside.First.{first_root}
use Rattle.store.specs.inside.Kept.{IsKept}
use Rattle.store.specs.inside.NameIndex.{IsIndex}
use Rattle.store.proofs.Refusals.{device-formatted, geometry-device, geometry-formatted, memory-device, memory-formatted}
use Rattle.store.proofs.First.{first_kept, either_stands}
use Rattle.sector_disk.specs.Disk.{DiskFacts, HoldsNow, Mixture}
use Rattle.sector_disk.proofs.Moments.{at_rest, no_calls}
use Rattle.roots.specs.declared.version.Version.TheVariants.{Two}
use Rattle.states.specs.State.{empty_state}
use Rattle.store.proofs.store.Store.format.Goals as goal

pub invariant_of-result : goal.invariant_of-result
invariant_of-result g c =
    let sectors = c.sectors-sectors.result in
    let geometry : IsGeometry sectors = search rules in
    let root = c.in-Ok-write_first_root.ensures.root in (
      subst (λ r. IsKept r c.new-in-Ok-write_first_root.result.items c.new-in-Ok-write_first_root-3.result c.in-Ok.layout) (sym root)
          (subst (λ l. IsKept (first_root sectors) l c.new-in-Ok-write_first_root-3.result c.in-Ok.layout) (sym c.new-in-Ok-write_first_root.ensures.items)
          (subst (λ held. IsKept (first_root sectors) [] held c.in-Ok.layout) (sym c.new-in-Ok-write_first_root-3.ensures)
          (subst (λ flags. IsKept (first_root sectors) [] [] flags) (sym c.in-Ok.ensures.ok) (first_kept sectors geometry)))),
      subst (λ l. IsIndex l c.empty.result) (sym c.new-in-Ok-write_first_root.ensures.items) c.empty.ensures,
      c.write_first_root.ensures.calls.some.sectors ∙ sym c.sectors-sectors.ensures ∙ ap (λ r. r.sectors) (sym root),
      λ _. c.new-in-Ok-write_first_root-2.ensures.items ∙ ap entry_sectors (sym c.new-in-Ok-write_first_root.ensures.items),
      ap version_of root,
    )

module _ {D : Type 0} (facts : D → DiskFacts) (disk : D) (e : StoreRefusal) where
  -- if the disk is refused before any call, no store is made
  unmade : (IsTrue (facts disk).honest → HoldsNow (facts disk)) → (e ≡ AlreadyFormatted → ⊥) → IsRefusalOfFormat (facts disk).sectors e
      → Makes Stands facts (IsAt facts) disk (Err (e, disk))
  unmade holds not_formatted may = record {
    any_moment = λ honest. at_rest (facts disk) (λ m. Mixture (facts disk) m ⊎ Stands m empty_state) (λ m mixture. inl mixture);
    ok = λ honest. tt;
    unformatted = λ honest. tt;
    refused = λ honest. record { may = subst (λ n. IsRefusalOfFormat n e) (sym (holds honest).size) may; formatted = λ is. absurd (not_formatted is) };
    left_alone = λ honest is. absurd (not_formatted is);
    now = λ honest other. refl;
    log = λ honest. tt;
  }

  unmade_on_any : (e ≡ Device → ⊥) → IsRefusalOfFormat (facts disk).sectors e → MakesOnAnyDisk facts disk (Err (e, disk))
  unmade_on_any not_device may = record {
    ends = record {
      geometry = tt;
      usable = tt;
      unheld = tt;
      refusals = may;
      device = λ is. absurd (not_device is);
      untouched = λ is. refl;
      calls = no_calls (facts disk);
    };
    early = λ is. refl;
    most_calls = record { some = no_calls (facts disk); time = omega arith };
    all_calls = tt;
  }

pub returns-then-not-is_geometry-clause-making : goal.returns-then-not-is_geometry-clause-making
returns-then-not-is_geometry-clause-making g c =
    let none : IsGeometry c.sectors-sectors.result → ⊥ = search rules in
    unmade g.D.Disk.facts c.args.disk BadGeometry (g.met.D.Disk.holds_now _) geometry-formatted (subst (λ n. IsGeometry n → ⊥) c.sectors-sectors.ensures none)

pub returns-then-not-is_geometry-clause-on_any_disk : goal.returns-then-not-is_geometry-clause-on_any_disk
returns-then-not-is_geometry-clause-on_any_disk g c =
    let none : IsGeometry c.sectors-sectors.result → ⊥ = search rules in
    unmade_on_any g.D.Disk.facts c.args.disk BadGeometry geometry-device (subst (λ n. IsGeometry n → ⊥) c.sectors-sectors.ensures none)

pub returns-in_default-clause-making : goal.returns-in_default-clause-making
returns-in_default-clause-making g c =
    let geometry : IsGeometry c.sectors-sectors.result = search rules in
    unmade g.D.Disk.facts c.args.disk OutOfMemory (g.met.D.Disk.holds_now _) memory-formatted (subst IsGeometry c.sectors-sectors.ensures geometry)

pub returns-in_default-clause-on_any_disk : goal.returns-in_default-clause-on_any_disk
returns-in_default-clause-on_any_disk g c =
    let geometry : IsGeometry c.sectors-sectors.result = search rules in
    unmade_on_any g.D.Disk.facts c.args.disk OutOfMemory memory-device (subst IsGeometry c.sectors-sectors.ensures geometry)

pub returns-in_default-new-clause-making : goal.returns-in_default-new-clause-making
returns-in_default-new-clause-making g c =
    let geometry : IsGeometry c.sectors-sectors.result = search rules in
    unmade g.D.Disk.facts c.args.disk OutOfMemory (g.met.D.Disk.holds_now _) memory-formatted (subst IsGeometry c.sectors-sectors.ensures geometry)

pub returns-in_default-new-clause-on_any_disk : goal.returns-in_default-new-clause-on_any_disk
returns-in_default-new-clause-on_any_disk g c =
    let geometry : IsGeometry c.sectors-sectors.result = search rules in
    unmade_on_any g.D.Disk.facts c.args.disk OutOfMemory memory-device (subst IsGeometry c.sectors-sectors.ensures geometry)

pub returns-in-Ok-write_first_root-clause-making : goal.returns-in-Ok-write_first_root-clause-making
returns-in-Ok-write_first_root-clause-making g c =
    let sectors = c.sectors-sectors.result in
    let wrote = c.in-Ok-write_first_root.ensures in
    record {
      any_moment = λ honest. either_stands sectors (c.write_first_root.ensures.any_moment honest);
      ok = λ honest. record {
        honest = subst IsTrue (sym c.write_first_root.ensures.calls.some.honest) honest;
        usable = refl;
        stands = λ m mixture. subst (λ r. StandsBy Two m r c.new-in-Ok-write_first_root.result.items empty_state) (sym wrote.root)
            (subst (λ l. StandsBy Two m (first_root sectors) l empty_state) (sym c.new-in-Ok-write_first_root.ensures.items)
            (wrote.done honest m mixture));
      };
      unformatted = wrote.unformatted;
      refused = λ honest. tt;
      left_alone = λ honest. tt;
      now = λ honest. tt;
      log = wrote.log;
    }

pub returns-in-Ok-write_first_root-clause-on_any_disk : goal.returns-in-Ok-write_first_root-clause-on_any_disk
returns-in-Ok-write_first_root-clause-on_any_disk g c =
    let geometry : IsGeometry c.sectors-sectors.result = search rules in
    record {
      ends = record {
        geometry = subst IsGeometry c.sectors-sectors.ensures geometry;
        usable = refl;
        unheld = c.new-in-Ok-write_first_root-3.ensures;
        refusals = tt;
        device = tt;
        untouched = tt;
        calls = c.write_first_root.ensures.calls.some;
      };
      early = tt;
      most_calls = c.write_first_root.ensures.calls;
      all_calls = c.in-Ok-write_first_root.ensures.all_calls;
    }

pub returns-in-Err-clause-making : goal.returns-in-Err-clause-making
returns-in-Err-clause-making g c =
    let disk = g.D.Disk.facts c.args.disk in
    let geometry : IsGeometry c.sectors-sectors.result = search rules in
    let size = subst IsGeometry c.sectors-sectors.ensures geometry in
    let failed = c.in-Err.ensures in
    record {
      any_moment = λ honest. either_stands c.sectors-sectors.result (c.write_first_root.ensures.any_moment honest);
      ok = λ honest. tt;
      unformatted = λ honest. tt;
      refused = λ honest.
          let here : IsGeometry (length disk.now) = subst IsGeometry (sym (g.met.D.Disk.holds_now _ honest).size) size in
          ⊎_elim
          (λ is. subst (RefusesFormat disk.now) (sym is) (record { may = here; formatted = λ other. absurd (device-formatted other) }))
          (λ is. subst (RefusesFormat disk.now) (sym is) (record { may = here; formatted = λ _. failed.formatted honest is }))
          failed.refusals;
      left_alone = failed.left_alone;
      now = failed.now;
      log = λ honest. tt;
    }

pub returns-in-Err-clause-on_any_disk : goal.returns-in-Err-clause-on_any_disk
returns-in-Err-clause-on_any_disk g c =
    let disk = g.D.Disk.facts c.args.disk in
    let geometry : IsGeometry c.sectors-sectors.result = search rules in
    let size = subst IsGeometry c.sectors-sectors.ensures geometry in
    let failed = c.in-Err.ensures in
    record {
      ends = record {
        geometry = tt;
        usable = tt;
        unheld = tt;
        refusals = ⊎_elim
            (λ is. subst (IsRefusalOfFormat disk.sectors) (sym is) size)
            (λ is. subst (IsRefusalOfFormat disk.sectors) (sym is) size)
            failed.refusals;
        device = failed.device;
        untouched = λ is. ⊎_elim (λ was. absurd (geometry-device (sym is ∙ was))) (λ was. absurd (geometry-formatted (sym is ∙ was))) failed.refusals;
        calls = c.write_first_root.ensures.calls.some;
      };
      early = λ is. ⊎_elim (λ was. absurd (memory-device (sym is ∙ was))) (λ was. absurd (memory-formatted (sym is ∙ was))) failed.refusals;
      most_calls = c.write_first_root.ensures.calls;
      all_calls = tt;
    }
