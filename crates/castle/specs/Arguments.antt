-- The arguments of a command line.
use Rattle.std.specs.Prelude.{ℕ, ◌==◌, ◌&&◌, ◌||◌, nat_lt, nat_le, Bool, not, if◌then◌else◌, List, [], ◌∷◌, length, slice_index, Option, Some, None, codes, option_map, option_and_then, bytes_eq}
use Rattle.std.specs.Str.{all_ascii_digits}
use Rattle.std.specs.Str.Parse.{digits_value}
use Rattle.strat_base.specs.declared.limits.TheConstants.{MEM_MIN, MEM_MAX, CHANGES_MAX, VERSIONS_MAX}
use Rattle.castle.specs.declared.arguments.Subcommand.{Subcommand as Borrowed}
use Rattle.castle.specs.declared.arguments.Subcommand.TheVariants as borrowed

-- what the program is asked to do: to make a store with these limits in a file, to serve one, to report its
-- levels, to check it, to make one and carry out a workload on it, to lead, to follow a leader, or to write the pairs of a
-- version of one
pub data Subcommand : Type 0 where
  Format : (path : List ℕ) (mem changes_max versions_max : ℕ) → Subcommand
  Serve : (path : List ℕ) → Subcommand
  Levels : (path : List ℕ) → Subcommand
  Check : (path : List ℕ) → Subcommand
  Workload : (path : List ℕ) (seed count : ℕ) → Subcommand
  Lead : (path : List ℕ) → Subcommand
  Follow : (path : List ℕ) → Subcommand
  Export : (path : List ℕ) (version : ℕ) → Subcommand

-- a subcommand of the program, wherever its path lies
abbrev pub subcommand_seen : Borrowed → Subcommand
subcommand_seen (borrowed.Format path mem changes_max versions_max) =
    Format path.now mem changes_max versions_max
subcommand_seen (borrowed.Serve path) = Serve path.now
subcommand_seen (borrowed.Levels path) = Levels path.now
subcommand_seen (borrowed.Check path) = Check path.now
subcommand_seen (borrowed.Workload path seed count) = Workload path.now seed count
subcommand_seen (borrowed.Lead path) = Lead path.now
subcommand_seen (borrowed.Follow path) = Follow path.now
subcommand_seen (borrowed.Export path version) = Export path.now version

-- the file of a subcommand
abbrev pub path_of_subcommand : Subcommand → List ℕ
path_of_subcommand (Format path mem changes_max versions_max) = path
path_of_subcommand (Serve path) = path
path_of_subcommand (Levels path) = path
path_of_subcommand (Check path) = path
path_of_subcommand (Workload path seed count) = path
path_of_subcommand (Lead path) = path
path_of_subcommand (Follow path) = path
path_of_subcommand (Export path version) = path

-- decimal digits, of which the first is 0 only where it is the only one
abbrev pub is_numeral : List ℕ → Bool
is_numeral word = nat_lt 0 (length word)
    && (all_ascii_digits word && (not (slice_index word 0 == 48) || (length word == 1)))

-- the number that an argument is, where it is a numeral within a range
abbrev pub number_in : ℕ → ℕ → List ℕ → Option ℕ
number_in least most word =
    if is_numeral word
    && (nat_le least (digits_value 10 word) && nat_le (digits_value 10 word) most)
    then Some (digits_value 10 word)
    else None

-- the subcommand of opening a store, to serve it, to report its levels, to check it, to lead or to follow, where these
-- arguments ask for one
abbrev pub opening_in : List ℕ → List ℕ → Option Subcommand
opening_in job path =
    if length path == 0 then None else
    if bytes_eq job (codes "serve") then Some (Serve path) else
    if bytes_eq job (codes "levels") then Some (Levels path) else
    if bytes_eq job (codes "check") then Some (Check path) else
    if bytes_eq job (codes "lead") then Some (Lead path) else
    if bytes_eq job (codes "follow") then Some (Follow path) else None

-- the subcommand of making a store, where these arguments ask for it and the numbers among them
-- are a store's limits
abbrev pub format_in : List ℕ → List ℕ → List ℕ → List ℕ → List ℕ → Option Subcommand
format_in job path mem changes versions =
    if bytes_eq job (codes "format") && not (length path == 0) then
    option_and_then (λ m.
    option_and_then (λ c.
    option_map (λ v. Format path m c v) (number_in 1 VERSIONS_MAX versions))
    (number_in 1 CHANGES_MAX changes)) (number_in MEM_MIN MEM_MAX mem)
    else None

-- the subcommand of carrying out a workload, where these arguments ask for it and the numbers among
-- them are a seed and a count of changes
abbrev pub workload_in : List ℕ → List ℕ → List ℕ → List ℕ → Option Subcommand
workload_in job path seed count =
    if bytes_eq job (codes "workload") && not (length path == 0) then
    option_and_then (λ s.
    option_map (λ n. Workload path s n) (number_in 0 1000000 count))
    (number_in 0 18446744073709551615 seed)
    else None

-- the subcommand of exporting a version, where these arguments ask for it and the last is a version's number
abbrev pub export_in : List ℕ → List ℕ → List ℕ → Option Subcommand
export_in job path version =
    if bytes_eq job (codes "export") && not (length path == 0)
    then option_map (λ v. Export path v) (number_in 0 4294967295 version) else None

-- the subcommand that arguments name, where they name one
abbrev pub subcommand_in : List (List ℕ) → Option Subcommand
subcommand_in (job ∷ path ∷ []) = opening_in job path
subcommand_in (job ∷ path ∷ version ∷ []) = export_in job path version
subcommand_in (job ∷ path ∷ seed ∷ count ∷ []) = workload_in job path seed count
subcommand_in (job ∷ path ∷ mem ∷ changes ∷ versions ∷ []) = format_in job path mem changes versions
subcommand_in _ = None

-- the file that arguments name, where they name a subcommand
abbrev pub path_in : List (List ℕ) → Option (List ℕ)
path_in words = option_map path_of_subcommand (subcommand_in words)
