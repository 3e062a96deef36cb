use Rattle.strat_store_pins.proofs.serving.a_run_of_a_table_ends_so.Goals as goal

pub returns : goal.returns
returns c = record {
  none = λ budget block run taken sent left. ((λ until. until), (λ until. until), (λ until. until), (λ until. until));
  len = λ budget run taken sent left. ((λ until. until.3), (λ until. (until.1, until.2)));
}
