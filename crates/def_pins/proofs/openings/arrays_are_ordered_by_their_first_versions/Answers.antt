use Rattle.std.proofs.Common.{refl, arith}
use Rattle.def_pins.proofs.openings.arrays_are_ordered_by_their_first_versions.Goals as goal

pub returns : goal.returns
returns c = record {
  ok = record {
    limits = record {
      mem_least = omega arith;
      mem_most = omega arith;
      changes_least = omega arith;
      changes_most = omega arith;
      versions_least = omega arith;
      versions_most = omega arith;
    };
    few_updates = omega arith;
    few_changes = omega arith;
    few_versions = omega arith;
    next_least = omega arith;
    next_most = omega arith;
    written_most = omega arith;
    compacted_most = omega arith;
    distinct = refl;
    tested = (
      record {
        aged = omega arith;
        each = (record { numbered = omega arith; below_next = omega arith; tagged = omega arith; rising = refl; counted = omega arith; sized = refl }, (record { numbered = omega arith; below_next = omega arith; tagged = omega arith; rising = refl; counted = omega arith; sized = refl }, tt));
        ordered = refl;
      },
      tt,
    );
    sized = refl;
  };
}
