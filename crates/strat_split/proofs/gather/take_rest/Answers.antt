use Rattle.std.proofs.Common.{◌≡◌, ◌≤◌, ◌+◌, length, get_or, arith}
use Rattle.strat_split.specs.Survey.{told}
use Rattle.strat_split.proofs.GreedyLemmas.{sums_len, sums_small, taken_is, fate_as}
use Rattle.strat_split.proofs.gather.take_rest.Goals as goal

pub bounds-sums-p : goal.bounds-sums-p
bounds-sums-p c =
    let len : length c.args.sums.now ≡ length c.args.survey.now.own.now = sums_len (told c.args.survey.now) (c.args.c + 1) c.args.sums.now c.requires.same in
    omega arith

pub settle-fate-requires : goal.settle-fate-requires
settle-fate-requires c =
    let up : get_or c.args.sums.now c.parent_of-p.result 0 ≤ 16777216 = sums_small (told c.args.survey.now) (c.args.c + 1) c.parent_of-p.result c.args.sums.now c.requires.kept.small c.requires.same in
    record { room = omega arith }

pub bounds-sums-p-2 : goal.bounds-sums-p-2
bounds-sums-p-2 c =
    let len : length c.args.sums.now ≡ length c.args.survey.now.own.now = sums_len (told c.args.survey.now) (c.args.c + 1) c.args.sums.now c.requires.same in
    omega arith

pub returns-clause-ok : goal.returns-clause-ok
returns-clause-ok c = taken_is (told c.args.survey.now) c.args.c c.parent_of-p.result c.rest.result c.settle-fate.result.1 c.args.sums.now c.requires.fits.1 c.requires.same c.parent_of-p.ensures.ok c.rest.ensures.ok c.settle-fate.ensures.ok

pub returns-clause-found : goal.returns-clause-found
returns-clause-found c = fate_as (told c.args.survey.now) c.args.c c.parent_of-p.result c.rest.result c.args.sums.now c.settle-fate.result.0 c.requires.same c.parent_of-p.ensures.ok c.rest.ensures.ok c.settle-fate.ensures.found
