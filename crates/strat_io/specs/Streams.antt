-- What a call does to the bytes that a source has left or a sink holds, if they are exposed.
use Rattle.std.specs.Prelude.{◌≡◌, ◌<◌, ℕ, List, [], ◌++◌, length, take, drop, Option, Some, None}

-- the first n bytes of the buffer are the next n bytes of the source, and gone from it
pub record Gives (before now : Option (List ℕ)) (into : List ℕ) (n : ℕ) : Type 0 where
  pub bytes : (left : List ℕ) → before ≡ Some left → take n into ≡ take n left
  pub rest : (left : List ℕ) → before ≡ Some left → now ≡ Some (drop n left)
  -- nothing is given to a buffer with room only at the end of the input
  pub at_end : (left : List ℕ) → before ≡ Some left → n ≡ 0 → 0 < length into → left ≡ []
  pub hidden : before ≡ None → now ≡ None

-- the sink holds these bytes more, after what it held
pub record Appends (before now : Option (List ℕ)) (bytes : List ℕ) : Type 0 where
  pub exposed : (held : List ℕ) → before ≡ Some held → now ≡ Some (held ++ bytes)
  pub hidden : before ≡ None → now ≡ None
