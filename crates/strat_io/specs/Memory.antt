-- Sources and sinks in memory, which fail at listed calls.
use Rattle.std.specs.Prelude.{ℕ, List}

-- a source: its bytes still to give, the most a call gives, the calls that fail, and counts of calls and faults
pub record Playback : Type 0 where
  pub left : List ℕ
  pub piece : ℕ
  pub failing : List ℕ
  pub calls : ℕ
  pub faults : ℕ

-- a sink: the bytes it took, the most a call takes, the calls that fail, and counts of calls and faults
pub record Recording : Type 0 where
  pub held : List ℕ
  pub most : ℕ
  pub failing : List ℕ
  pub calls : ℕ
  pub faults : ℕ
