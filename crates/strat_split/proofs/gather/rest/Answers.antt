use Rattle.std.proofs.Common.{◌≡◌, ◌≤◌, ◌+◌, ℕ, List, length, get_or, ap, arith}
use Rattle.strat_split.specs.Survey.{told}
use Rattle.strat_split.proofs.GreedyLemmas.{sums_len, sums_small}
use Rattle.strat_split.proofs.gather.rest.Goals as goal

pub bounds-sums-c : goal.bounds-sums-c
bounds-sums-c c =
    let len : length c.args.sums.now ≡ length c.args.survey.now.own.now = sums_len (told c.args.survey.now) (c.args.c + 1) c.args.sums.now c.requires.same in
    omega arith

pub overflow_add-result : goal.overflow_add-result
overflow_add-result c =
    let sum : get_or c.args.sums.now c.args.c 0 ≤ 16777216 = sums_small (told c.args.survey.now) (c.args.c + 1) c.args.c c.args.sums.now c.requires.kept.small c.requires.same in
    let own : get_or c.args.survey.now.own.now c.args.c 0 ≤ 16777216 = c.requires.kept.own_small c.args.c in
    omega arith

pub returns : goal.returns
returns c =
    let sum : get_or c.args.sums.now c.args.c 0 ≤ 16777216 = sums_small (told c.args.survey.now) (c.args.c + 1) c.args.c c.args.sums.now c.requires.kept.small c.requires.same in
    let own : get_or c.args.survey.now.own.now c.args.c 0 ≤ 16777216 = c.requires.kept.own_small c.args.c in
    record { ok = ap (λ (xs : List ℕ). get_or c.args.survey.now.own.now c.args.c 0 + get_or xs c.args.c 0) c.requires.same; room = omega arith }
