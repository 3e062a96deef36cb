use Rattle.std.proofs.Common.{◌≡◌, ◌≤◌, ◌+◌, ◌++◌, take}
use Rattle.std.specs.List.{flat_map}
use Rattle.std.specs.Prelude.{vec_len, vec_capacity}
use Rattle.strat_manifest.proofs.MarkLemmas.{mark_text}
use Rattle.strat_manifest.proofs.printer.add_marks.Given as goal

abbrev pub invariant-loop-mark : goal.invariant-loop-mark
invariant-loop-mark l = record {
  text : l.out.items ≡ l.fn.out.items ++ flat_map mark_text (take l.mark-index l.marks);
  size : vec_len l.out ≡ vec_len l.fn.out + l.mark-index;
  room : vec_capacity l.fn.out ≤ vec_capacity l.out;
}
