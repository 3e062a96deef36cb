use Rattle.std.proofs.Common.{◌≡◌, ◌+◌, ℕ, [], length, ap, ◌∙◌, arith}
use Rattle.def_bulk.specs.Exporting.{sole_version}
use Rattle.def_bulk.proofs.ExportLemmas.{puts_taken}
use Rattle.def_bulk.proofs.laws.an_export_gives_its_map.Goals as goal

pub returns : goal.returns
returns c = record {
  ok = λ changes_max versions_max m sorted room.
      let all = puts_taken changes_max versions_max 0 [] m sorted (omega (arith, room)) in
      let count : 0 + length m ≡ length m = omega arith in
      (all.0, all.1 ∙ ap (λ (n : ℕ). sole_version changes_max versions_max n m) count);
}
