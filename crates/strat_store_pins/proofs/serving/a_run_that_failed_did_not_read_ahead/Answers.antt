use Rattle.strat_store_pins.proofs.serving.a_run_that_failed_did_not_read_ahead.Goals as goal

pub returns : goal.returns
returns c = record {
  faults = λ run taken sent until. (until.ahead, until.front, until.is_broken, until.replies);
  err = λ run taken sent until. (until.ahead, until.front, until.last, until.replies, until.cut, until.some);
  end = λ before now all sends. (sends.parts, sends.some);
}
