use Rattle.std.proofs.Common.{◌≤◌, refl, sym, true≢false, arith}
use Rattle.def_pins.proofs.openings.states_open_up_to_their_bounds.Goals as goal

pub returns : goal.returns
returns c = record {
  ok = record {
    limits = record {
      mem_least = omega arith;
      mem_most = omega arith;
      changes_least = omega arith;
      changes_most = omega arith;
      versions_least = omega arith;
      versions_most = omega arith;
    };
    few_updates = omega arith;
    few_changes = omega arith;
    few_versions = omega arith;
    next_least = omega arith;
    next_most = omega arith;
    written_most = omega arith;
    compacted_most = omega arith;
    distinct = refl;
    tested = (
      record {
        aged = omega arith;
        each = (record { numbered = omega arith; below_next = omega arith; tagged = omega arith; rising = refl; counted = omega arith; sized = refl }, tt);
        ordered = refl;
      },
      tt,
    );
    sized = refl;
  };
  limits = λ p. let le : 4 ≤ 3 = p.limits.mem_least in omega (arith, le);
  updates = λ p. let le : 5 ≤ 4 = p.few_updates in omega (arith, le);
  changes = λ p. let le : 5 ≤ 4 = p.few_changes in omega (arith, le);
  versions = λ p. let le : 4 ≤ 3 = p.few_versions in omega (arith, le);
  next = λ p. let le : 65538 ≤ 65537 = p.next_most in omega (arith, le);
  none = λ p. let le : 1 ≤ 0 = p.next_least in omega (arith, le);
  written = λ p. let le : 134217729 ≤ 134217728 = p.written_most in omega (arith, le);
  compacted = λ p. let le : 134217729 ≤ 134217728 = p.compacted_most in omega (arith, le);
  marks = record {
    limits = record {
      mem_least = omega arith;
      mem_most = omega arith;
      changes_least = omega arith;
      changes_most = omega arith;
      versions_least = omega arith;
      versions_most = omega arith;
    };
    few_updates = omega arith;
    few_changes = omega arith;
    few_versions = omega arith;
    next_least = omega arith;
    next_most = omega arith;
    written_most = omega arith;
    compacted_most = omega arith;
    distinct = refl;
    tested = (
      record {
        aged = omega arith;
        each = (record { numbered = omega arith; below_next = omega arith; tagged = omega arith; rising = refl; counted = omega arith; sized = refl }, tt);
        ordered = refl;
      },
      tt,
    );
    sized = refl;
  };
  journal = λ p. true≢false (sym p.sized);
}
