use Rattle.std.proofs.Common.{arith}
use Rattle.strat_model.specs.Command.{request_of}
use Rattle.strat_model.proofs.SpellingLemmas.{refused_as}
use Rattle.strat_frame.specs.Faults.{refusal_for}
use Rattle.strat_frame.proofs.CommandLemmas.{command_takes, is_malformed}
use Rattle.strat_frame.proofs.commands.parse_command.Goals as goal

pub returns-in_default-clause-err : goal.returns-in_default-clause-err
returns-in_default-clause-err c = is_malformed c.args.body.now c.tag_of.result c.in_default.ensures c.tag_of.ensures

pub returns-in-None-clause-ok : goal.returns-in-None-clause-ok
returns-in-None-clause-ok c = record {
  form = command_takes c.args.body.now c.in-Some.tag (request_of c.in-Some.command) (λ i. omega (arith, c.type_inv.body i)) c.in-Some.ensures;
  sizes = c.in-None.ensures;
}

pub returns-in-Some-size_fault-clause-err : goal.returns-in-Some-size_fault-clause-err
returns-in-Some-size_fault-clause-err c =
    let request = request_of c.in-Some.command in
    let form = command_takes c.args.body.now c.in-Some.tag request (λ i. omega (arith, c.type_inv.body i)) c.in-Some.ensures in
    refused_as c.args.body.now c.in-Some.tag request (refusal_for c.in-Some-size_fault.fault) form c.in-Some-size_fault.ensures
