-- What a writer of a block has collected.
use Rattle.std.specs.Prelude.{◌≡◌, ◌≤◌, ℕ, ◌+◌, ◌*◌, true, List, [], ◌∷◌, length, take, flat_map, unwrap_or}
use Rattle.std.specs.List.{list_all}
use Rattle.strat_base.specs.Numbers.{be}
use Rattle.strat_base.specs.Entries.{Entry, is_ascending}
use Rattle.strat_base.specs.EntryBytes.{fits_fields, entry_bytes}
use Rattle.def_bytes.specs.Block.{entries_in}

-- where entries begin that stand one after the other from a place on
abbrev pub starts_of : ℕ → List Entry → List ℕ
starts_of at [] = []
starts_of at (e ∷ entries) = at ∷ starts_of (at + length (entry_bytes e)) entries

-- offsets in bytes, each as far behind the first as these places say
abbrev pub shifted : ℕ → List ℕ → List ℕ
shifted first starts = flat_map (λ start. be 2 (first + start)) starts

-- these are the entries that a writer holds: how many, how many bytes they have, where each begins, and the bytes
pub record Collected (entries : List Entry) (count used : ℕ) (starts text : List ℕ) : Type 0 where
  pub len : count ≡ length entries
  pub size : used ≡ length (flat_map entry_bytes entries)
  pub places : take count starts ≡ starts_of 0 entries
  pub bytes : take used text ≡ flat_map entry_bytes entries
  pub lawful : list_all fits_fields entries ≡ true
  pub up : is_ascending entries ≡ true
  pub room : 2 + 2 * count + used ≤ 4096
  pub few : count ≤ 454

-- the entries that these bytes begin with
abbrev pub collected : ℕ → List ℕ → List Entry
collected count text = unwrap_or (entries_in count text) []
