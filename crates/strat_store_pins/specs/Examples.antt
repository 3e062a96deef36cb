-- Arrays, cursors, memory and a store of which little matters but what an example asks.
use Rattle.std.specs.Prelude.{◌≡◌, ◌⊎◌, ℕ, false, List, [], ◌∷◌, Option, None, Some, replicate}
use Rattle.strat_base.specs.Change.{Clone}
use Rattle.strat_base.specs.Entries.{Entry}
use Rattle.strat_base.specs.declared.descriptors.ArrayDesc.{ArrayDesc}
use Rattle.strat_base.specs.declared.descriptors.LevelDesc.{LevelDesc}
use Rattle.strat_cursor.specs.Held.{HeldCursor, HeldCursors}
use Rattle.strat_filter.specs.Bits.{bits_after}
use Rattle.def_crash.specs.Image.{Image, patch}
use Rattle.def_crash.specs.Moments.{DiskView}
use Rattle.def_bytes.specs.Manifest.{new_manifest}
use Rattle.def_recovery.specs.Disks.{array_block, new_super}
use Rattle.strat_journal.specs.Log.{Log}
use Rattle.strat_memory.specs.Held.{Held}
use Rattle.strat_memory.specs.Memory.{Memory, fresh_memory}

-- an array of a number, for version 0
abbrev pub array : ℕ → ArrayDesc
array n = record { id = n; entries = 1; leads = 1; least = 1; versions = 0 ∷ []; extents = [] }

-- an array of a number, for this version, in this block alone
abbrev pub array_in : ℕ → ℕ → ℕ → ArrayDesc
array_in n version block = record (array n) {
  versions = version ∷ [];
  extents = record { start = block; len = 1 } ∷ [];
}

-- an entry of a key of one byte, at version 0
abbrev pub entry : ℕ → Entry
entry byte = record { key = byte ∷ []; version = 0; value = Some [] }

-- a level with these arrays
abbrev pub level : ℕ → List ArrayDesc → LevelDesc
level n arrays = record { number = n; horizon = 1; arrays = arrays }

-- a cursor of a number that reads version 0 in these arrays, from this key on
abbrev pub cursor : ℕ → Option (List ℕ) → List ArrayDesc → HeldCursor
cursor n from arrays = record {
  number = n;
  version = 0;
  zero = [];
  sealed = None;
  arrays = arrays;
  from = from;
  hi = [];
}

-- these cursors, with these arrays kept for them
abbrev pub cursors : List HeldCursor → List ArrayDesc → HeldCursors
cursors opened retired = record { opened = opened; next = 9; retired = retired; room = 7 }

-- memory of a store with one version and these cursors
abbrev pub memory : HeldCursors → Memory
memory c = record (fresh_memory 4 100 10) { cursors = c }

-- a store with two children of version 0, which have an array each, and a cursor that reads one of these
abbrev pub children_apart : Held
children_apart = record {
  slot = 0;
  sb = new_super;
  chained = record { manifest = new_manifest; blocks = [] };
  log = record { mem = 4; active = 0; stale = false; list = []; batch = [] };
  memory = record (memory (cursors (cursor 3 (Some []) (array_in 6 2 8 ∷ []) ∷ []) [])) {
    parents = None ∷ Some 0 ∷ Some 0 ∷ [];
  };
  levels = Some (record { number = 1; horizon = 3; arrays = array_in 5 1 7 ∷ array_in 6 2 8 ∷ [] })
      ∷ [];
  filters = [];
  promoting = None;
  cached = record { entries = []; cap = 256 };
  spent = false;
}

-- the same store with a filter of the first of its arrays, whose only key is `a`
abbrev pub children_filtered : Held
children_filtered = record children_apart {
  filters = record { first = 5; kept = Some (bits_after 64 ((97 ∷ []) ∷ [])) ∷ None ∷ [] } ∷ [];
}

-- a disk that has entries in block 7, and in no other
abbrev pub one_block : Image
one_block = patch (λ i. 0) 28672 array_block

-- the same store with the first block of an array of a number cached, which has no entry there
abbrev pub with_cached : ℕ → Held → Held
with_cached id s = record s { cached = record { entries = ((id, 0), []) ∷ []; cap = 256 } }

-- a journal whose regions take so many changes, with some clones in its list and some in its batch
abbrev pub log_of : ℕ → ℕ → ℕ → Log
log_of mem list batch = record {
  mem = mem;
  active = 0;
  stale = false;
  list = replicate list (Clone 0);
  batch = replicate batch (Clone 0);
}

-- a disk that exposes the second of two images, either of which a crash may leave
abbrev pub between : Image → Image → DiskView
between f g = record { content = Some g; moment = 0; images_at = λ m c. (c ≡ f) ⊎ (c ≡ g) }
