-- A disk in memory as data, what its calls do to it, and what a crash makes of it.
use Rattle.std.specs.Prelude.{◌≡◌, ◌==◌, ℕ, if◌then◌else◌, Bool, true, false, List, length, slice_index, slice_index_or}
use Rattle.def_crash.specs.Image.{Image, HoldsBytes, over, patch}

-- what it reads as, what the last sync left, and which offsets were written since
pub record Medium : Type 0 where
  pub content : Image
  pub durable : Image
  pub pending : ℕ → Bool

-- all of it is durable
abbrev pub at_rest : Image → Medium
at_rest f = record { content = f; durable = f; pending = λ _. false }

-- bytes and flags as data; after their end there are zeros
abbrev pub shown : List ℕ → List ℕ → List Bool → Medium
shown bytes durable pending =
    record {
      content = slice_index bytes;
      durable = slice_index durable;
      pending = λ i. slice_index_or pending i false;
    }

-- after a write
abbrev pub written : ℕ → List ℕ → Medium → Medium
written at bytes m =
    record {
      content = patch m.content at bytes;
      durable = m.durable;
      pending = over at (length bytes) (λ _. true) m.pending;
    }

-- after a sync
abbrev pub settled : Medium → Medium
settled m = at_rest m.content

-- with another byte at an offset, as if it had always been there
abbrev pub altered : ℕ → ℕ → Medium → Medium
altered at byte m = record {
  content = over at 1 (λ _. byte) m.content;
  durable = over at 1 (λ _. byte) m.durable;
  pending = over at 1 (λ _. false) m.pending;
}

-- what a crash may leave: any bytes where a write is pending, what the last sync left elsewhere
pub record Leaves (m : Medium) (c : Image) : Type 0 where
  pub bytes : HoldsBytes c
  pub durable : (i : ℕ) → m.pending i ≡ false → c i ≡ m.durable i

-- one crash of these: the pending offsets hold their old bytes, or their new ones, or 0xa7
abbrev pub crashed : ℕ → Medium → Image
crashed choice m i =
    if m.pending i
    then (if choice == 0 then m.durable i else if choice == 1 then m.content i else 0xa7)
    else m.durable i

-- it holds bytes, and nothing differs from what the last sync left but where a write is pending
pub record IsWhole (m : Medium) : Type 0 where
  pub content : HoldsBytes m.content
  pub durable : HoldsBytes m.durable
  pub same : (i : ℕ) → m.pending i ≡ false → m.content i ≡ m.durable i
