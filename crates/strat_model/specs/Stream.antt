-- A stream of frames. A frame is a length in four bytes, and so many bytes of body.
use Rattle.std.specs.Prelude.{◌≡◌, ◌≤◌, ℕ, ◌+◌, nat_lt, nat_le, ◌&&◌, ◌||◌, ◌==◌, Bool, true, false, if◌then◌else◌, List, ◌++◌, length}
use Rattle.std.specs.List.{flat_map, AllByRecursion}
use Rattle.strat_base.specs.Numbers.{be, number}
use Rattle.strat_base.specs.declared.limits.TheConstants.{BODY_MAX}

-- a body after its length
abbrev pub frame : List ℕ → List ℕ
frame body = be 4 (length body) ++ body

-- a body of a frame that may be
abbrev pub IsBody : List ℕ → Type 0
IsBody body = length body ≤ BODY_MAX

-- the bytes begin with a length that no frame may have
abbrev pub is_too_long : List ℕ → Bool
is_too_long bytes = nat_le 4 (length bytes) && nat_lt BODY_MAX (number 4 bytes)

-- the bytes are less than a whole frame, and so far it may still become one
abbrev pub is_partial : List ℕ → Bool
is_partial bytes =
    if nat_lt (length bytes) 4 then true else
    if nat_lt BODY_MAX (number 4 bytes) then false else nat_lt (length bytes) (4 + number 4 bytes)

-- the stream is the frames of these bodies, and then a rest in which no further frame is whole
pub record Splits (stream : List ℕ) (bodies : List (List ℕ)) (rest : List ℕ) : Type 0 where
  pub whole : stream ≡ flat_map frame bodies ++ rest
  pub each : AllByRecursion IsBody bodies
  pub last : is_too_long rest || is_partial rest ≡ true

-- how a stream ends: after whole frames, within a frame, or at a length that no frame may have
pub data Ending : Type 0 where
  Whole : Ending
  Rest : Ending
  Long : Ending

-- how a stream with such a rest ends
abbrev pub ending_of : List ℕ → Ending
ending_of rest = if is_too_long rest then Long else if length rest == 0 then Whole else Rest
