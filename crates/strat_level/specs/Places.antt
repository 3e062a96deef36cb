-- Where a key and a version stand among entries in order.
use Rattle.std.specs.Prelude.{◌≡◌, ℕ, ◌<◌, ◌≤◌, false, List, length, slice_index_or, IsTrue}
use Rattle.std.specs.Ordering.{is_lt, is_gt}
use Rattle.std.specs.declared.cmp.Ordering.{Ordering}
use Rattle.std.specs.declared.cmp.Ordering.TheVariants.{Less, Equal, Greater}
use Rattle.strat_base.specs.Entries.{Entry, is_of}
use Rattle.strat_base.specs.Order.{entry_cmp}

-- how an entry compares with a key and a version
abbrev pub compared : Entry → List ℕ → ℕ → Ordering
compared e key version = entry_cmp e.key e.version key version

-- the entry of a key and a version is at place i
pub record IsPlaceOf (entries : List Entry) (key : List ℕ) (version i : ℕ) : Type 0 where
  pub within : i < length entries
  pub tied : (d : Entry) → compared (slice_index_or entries i d) key version ≡ Equal

-- a key and a version belong at place i: all entries before it are less, and all from it on greater
pub record IsPlaceFor (entries : List Entry) (key : List ℕ) (version i : ℕ) : Type 0 where
  pub within : i ≤ length entries
  pub before : (k : ℕ) (d : Entry) → k < i
      → compared (slice_index_or entries k d) key version ≡ Less
  pub after : (k : ℕ) (d : Entry) → i ≤ k → k < length entries
      → compared (slice_index_or entries k d) key version ≡ Greater

-- the entries that are less than a key and a version are those before place i
pub record IsStart (entries : List Entry) (key : List ℕ) (version i : ℕ) : Type 0 where
  pub within : i ≤ length entries
  pub before : (k : ℕ) (d : Entry) → k < i
      → compared (slice_index_or entries k d) key version ≡ Less
  pub after : (k : ℕ) (d : Entry) → i ≤ k → k < length entries
      → is_lt (compared (slice_index_or entries k d) key version) ≡ false

-- the entries that are greater than a key and version 0 are those from place i on
pub record IsEnd (entries : List Entry) (key : List ℕ) (i : ℕ) : Type 0 where
  pub within : i ≤ length entries
  pub before : (k : ℕ) (d : Entry) → k < i
      → is_gt (compared (slice_index_or entries k d) key 0) ≡ false
  pub after : (k : ℕ) (d : Entry) → i ≤ k → k < length entries
      → compared (slice_index_or entries k d) key 0 ≡ Greater

-- the entries of a key at versions up to v are those from one place up to another
pub record IsKeyRange (entries : List Entry) (key : List ℕ) (v from to : ℕ) : Type 0 where
  pub order : from ≤ to
  pub within : to ≤ length entries
  pub before : (k : ℕ) (d : Entry) → k < from
      → IsTrue (is_of key (slice_index_or entries k d)) → v < (slice_index_or entries k d).version
  pub inside : (k : ℕ) (d : Entry) → from ≤ k → k < to
      → IsTrue (is_of key (slice_index_or entries k d))
  pub after : (k : ℕ) (d : Entry) → to ≤ k → k < length entries
      → is_of key (slice_index_or entries k d) ≡ false
