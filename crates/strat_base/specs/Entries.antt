-- Entries: what versions say of keys.
use Rattle.std.specs.Prelude.{ℕ, ◌==◌, ◌&&◌, not, if◌then◌else◌, Bool, true, false, List, [], ◌∷◌, Option, Some, None, filter, bytes_eq}
use Rattle.std.specs.List.{list_any, list_all}
use Rattle.std.specs.Ordering.{is_lt}
use Rattle.strat_base.specs.Order.{entry_cmp}

-- what a version says of a key: its value from this version on, or nothing where the key is gone
pub record Entry : Type 0 where
  pub key : List ℕ
  pub version : ℕ
  pub value : Option (List ℕ)

-- an entry of a key
abbrev pub is_of : List ℕ → Entry → Bool
is_of key e = bytes_eq e.key key

-- the entry of a key at a version
abbrev pub is_at : List ℕ → ℕ → Entry → Bool
is_at key version e = bytes_eq e.key key && (e.version == version)

-- two values, or marks that there is none, are the same
abbrev pub is_same_value : Option (List ℕ) → Option (List ℕ) → Bool
is_same_value None None = true
is_same_value None (Some bytes) = false
is_same_value (Some bytes) None = false
is_same_value (Some bytes) (Some others) = bytes_eq bytes others

-- two entries are the same
abbrev pub is_same : Entry → Entry → Bool
is_same a b = is_at a.key a.version b && is_same_value b.value a.value

-- an entry is one of these
abbrev pub holds_entry : List Entry → Entry → Bool
holds_entry entries e = list_any (is_same e) entries

-- the same entries, in whatever order
abbrev pub are_same : List Entry → List Entry → Bool
are_same entries others =
    list_all (holds_entry others) entries && list_all (holds_entry entries) others

-- no key has two entries at one version
abbrev pub is_single : List Entry → Bool
is_single [] = true
is_single (e ∷ entries) = not (list_any (is_at e.key e.version) entries) && is_single entries

-- a version is in a tag
abbrev pub is_tagged : List ℕ → ℕ → Bool
is_tagged tag v = list_any (λ w. w == v) tag

-- the lead entries of a tag: those whose own version is in it
abbrev pub lead_entries : List ℕ → List Entry → List Entry
lead_entries tag entries = filter (λ e. is_tagged tag e.version) entries

-- entries ascend strictly: keys ascending, and of one key the greater version first
abbrev pub is_ascending : List Entry → Bool
is_ascending [] = true
is_ascending (e ∷ entries) =
    list_all (λ later. is_lt (entry_cmp e.key e.version later.key later.version)) entries
    && is_ascending entries

-- the last entry of each key and version
abbrev pub latest : List Entry → List Entry
latest [] = []
latest (e ∷ entries) =
    if list_any (is_at e.key e.version) entries then latest entries else e ∷ latest entries
