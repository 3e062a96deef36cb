-- Records of a journal on a disk: from a region's first byte on, each an open gate and a change.
use Rattle.std.specs.Prelude.{ℕ, zero, suc, ◌+◌, ◌-◌, ◌/◌, ◌==◌, nat_lt, if◌then◌else◌, List, [], ◌∷◌, ◌++◌, length, Option, Some, None, Ok, Err}
use Rattle.strat_base.specs.declared.limits.TheConstants.{BLOCK}
use Rattle.def_crash.specs.Image.{Image, window}
use Rattle.strat_base.specs.Change.{Change, change_bytes, change_in}
use Rattle.def_bytes.specs.Layout.{region_first, region_at, region_size, other_region, open_flag, is_open}
use Rattle.def_bytes.specs.Damage.{Read, and_then, passed_or, put_first}

-- a change in a journal, and the block in which the gate of its record stands
pub record Logged : Type 0 where
  pub change : Change
  pub block : ℕ

-- the bytes of records
abbrev pub records_bytes : List Change → List ℕ
records_bytes [] = []
records_bytes (change ∷ changes) = open_flag ∷ (change_bytes change ++ records_bytes changes)

-- the block in which a byte lies
abbrev pub block_of : ℕ → ℕ
block_of at = at / BLOCK

-- the record at an offset and those after it, where its gate has a change; else its gate's block
abbrev pub record_then : ℕ → (ℕ → Read (List Logged)) → Option Change → Read (List Logged)
record_then at later None = Err (block_of at)
record_then at later (Some change) =
    put_first (record { change = change; block = block_of at })
    (later (at + 1 + length (change_bytes change)))

-- the records from an offset on, within the region: at most n, up to the first closed gate
unfoldable pub records : Image → ℕ → ℕ → ℕ → Read (List Logged)
records c end zero at = Ok []
records c end (suc n) at =
    if is_open (c at) then
    record_then at (λ next. records c end n next) (change_in (window c (at + 1) (end - (at + 1))))
    else Ok []

-- the records of a region
abbrev pub region_records : Image → ℕ → ℕ → Read (List Logged)
region_records c mem region =
    records c (region_at mem region + region_size mem) mem (region_at mem region)

-- a list, and where it has n items another after it
abbrev pub full_then : ℕ → Read (List Logged) → List Logged → Read (List Logged)
full_then n others logged =
    if length logged == n then and_then others (λ later. Ok (logged ++ later)) else Ok logged

-- the journal: the records of the active region and, where these fill it, those of the other
abbrev pub journal_of : Image → ℕ → ℕ → Read (List Logged)
journal_of c mem active =
    and_then (region_records c mem active)
    (full_then mem (region_records c mem (other_region active)))

-- the first records of a region, at most n
abbrev pub first_records : Image → ℕ → ℕ → ℕ → Read (List Logged)
first_records c mem region n =
    records c (region_at mem region + region_size mem) n (region_at mem region)

-- the records of a region behind a full one: at least two fewer than it takes, or else its first block is damaged
abbrev pub records_behind : Image → ℕ → ℕ → Read (List Logged)
records_behind c mem region =
    and_then (first_records c mem region (mem - 1))
    (λ later. passed_or (region_first mem region) (nat_lt (length later) (mem - 1)) later)

-- the journal that recovery takes: that of both regions, of at most two changes fewer than both take
abbrev pub journal_in_two : Image → ℕ → ℕ → Read (List Logged)
journal_in_two c mem active =
    and_then (region_records c mem active)
    (full_then mem (records_behind c mem (other_region active)))
