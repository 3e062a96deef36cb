-- How a publication counts the entries that it wrote.
use Rattle.std.specs.Prelude.{◌≡◌, ◌<◌, ◌⊎◌, ℕ, ◌+◌, [], ◌∷◌, Contains, filter, sum_by, nat_le, false}
use Rattle.strat_base.specs.declared.descriptors.ArrayDesc.{ArrayDesc}
use Rattle.def_bytes.specs.Manifest.{Manifest}
use Rattle.def_recovery.specs.Head.{descriptors}

-- a manifest counts as written what the one before did, and the entries of its arrays that are numbered from the next number of
-- that one on; its other arrays are that one's
pub record CountsWritten (old new : Manifest) : Type 0 where
  pub raised : new.written ≡ old.written + sum_by (λ a. a.entries)
      (filter (λ a. nat_le old.next_array a.id) (descriptors new))
  pub others : (a : ArrayDesc) → Contains (descriptors new) a → a.id < old.next_array
      → Contains (descriptors old) a

-- a manifest is the one before, or counts what a publication wrote behind it
abbrev pub KeepsCount : Manifest → Manifest → Type 0
KeepsCount old new = (new ≡ old) ⊎ CountsWritten old new

-- a manifest with one array, of so many entries, after as many updates: a worked value
abbrev pub manifest_with_array : (id entries written : ℕ) → Manifest
manifest_with_array id entries written = record {
  changes = entries;
  updates = entries;
  written = written;
  compacted = 0;
  next_array = id + 1;
  parents = [];
  marks = false ∷ [];
  levels = record {
    number = 1;
    horizon = 1;
    arrays = record {
      id = id;
      entries = entries;
      leads = entries;
      least = entries;
      versions = 0 ∷ [];
      extents = [];
    } ∷ [];
  } ∷ [];
}
