-- Records as they stand on a disk.
use Rattle.std.specs.Prelude.{◌≡◌, ◌≢◌, ◌≤◌, ◌<◌, ℕ, ◌+◌, true, List, length}
use Rattle.std.specs.List.{list_all}
use Rattle.def_crash.specs.Image.{Image, window}
use Rattle.strat_base.specs.Change.{Change, is_lawful}
use Rattle.def_bytes.specs.Records.{records_bytes}
use Rattle.def_bytes.specs.Layout.{open_flag}

-- these records, lawful and at most n, stand from an offset on, up to a closed gate
pub record Laid (c : Image) (end n at : ℕ) (list : List Change) : Type 0 where
  pub text : window c at (length (records_bytes list)) ≡ records_bytes list
  pub lawful : list_all is_lawful list ≡ true
  pub few : length list ≤ n
  pub closed : length list < n → c (at + length (records_bytes list)) ≢ open_flag
  pub within : at + length (records_bytes list) ≤ end
