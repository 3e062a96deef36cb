use Rattle.strat_store_pins.proofs.publishing.sound_contents_follow_sound_ones.Goals as goal

pub returns : goal.returns
returns c = record {
  before = λ f g old new made taken kept next. next.was_sound;
  after = λ f g old new made taken kept next. next.is_sound;
}
