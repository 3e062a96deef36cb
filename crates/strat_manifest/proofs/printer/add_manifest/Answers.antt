use Rattle.std.proofs.Common.{ℕ, List, ◌+◌, ◌++◌, length, ap, ◌∙◌}
use Rattle.std.specs.List.{flat_map}
use Rattle.strat_base.specs.Numbers.{be}
use Rattle.strat_base.specs.declared.descriptors.LevelDesc.{LevelDesc}
use Rattle.def_bytes.specs.Manifest.{level_bytes, mark_bytes, only}
use Rattle.strat_manifest.specs.ManifestView.{marks_listed, manifest_of}
use Rattle.strat_manifest.proofs.PrintLemmas.{manifest_added}
use Rattle.strat_manifest.proofs.printer.add_manifest.Goals as goal

pub returns : goal.returns
returns c =
    let parents = c.as_slice-parents.ensures.ok in
    let levels = c.as_slice-levels.ensures.ok in
    let marks = c.as_slice.ensures.ok in
    record {
      ok =
          manifest_added c.args.format (manifest_of c.args.m.now) c.args.out.now.items c.add_counts.new.out.items c.add_u32.new.out.items c.add_numbers.new.out.items
          c.add_format_marks.new.out.items c.add_u8.new.out.items c.add_levels.new.out.items c.add_counts.ensures.ok
          (c.add_u32.ensures.ok ∙ ap (λ (xs : List ℕ). c.add_counts.new.out.items ++ be 4 (length xs + 1)) parents)
          (c.add_numbers.ensures.ok ∙ ap (λ (xs : List ℕ). c.add_u32.new.out.items ++ flat_map (be 4) xs) parents)
          (c.add_format_marks.ensures.ok ∙ ap (λ (xs : List ℕ). c.add_numbers.new.out.items ++ only c.args.format (flat_map mark_bytes (marks_listed xs))) marks)
          (c.add_u8.ensures.ok ∙ ap (λ (xs : List LevelDesc). c.add_format_marks.new.out.items ++ be 1 (length xs)) levels)
          (c.add_levels.ensures.ok ∙ ap (λ (xs : List LevelDesc). c.add_u8.new.out.items ++ flat_map level_bytes xs) levels);
    }
