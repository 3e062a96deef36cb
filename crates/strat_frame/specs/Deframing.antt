-- A stream that is cut into frames as its bytes come in.
use Rattle.std.specs.Prelude.{◌≡◌, ◌≤◌, ℕ, ◌+◌, true, List, ◌++◌, length, take, drop}
use Rattle.strat_base.specs.Numbers.{number}
use Rattle.strat_model.specs.Stream.{frame, IsBody, is_partial, is_too_long}
use Rattle.strat_base.specs.declared.limits.TheConstants.{BODY_MAX}
use Rattle.strat_frame.specs.declared.deframer.Front.{Front}
use Rattle.strat_frame.specs.declared.deframer.Front.TheVariants as front
use Rattle.strat_frame.specs.declared.deframer.Next.{Next}
use Rattle.strat_frame.specs.declared.deframer.Next.TheVariants as next

-- the bytes that are held and in no frame yet, and the body of the last frame
pub record Deframing : Type 0 where
  pub held : List ℕ
  pub body : List ℕ

-- what one look at the bytes held finds, and what it leaves
abbrev pub TakesFrame : Next → Deframing → Deframing → Type 0
TakesFrame next.Frame old new = (old.held ≡ frame new.body ++ new.held) × IsBody new.body
TakesFrame next.NotYet old new = (is_partial old.held ≡ true) × (new.held ≡ old.held)
TakesFrame (next.TooLong length) old new =
    (is_too_long old.held ≡ true) × (length ≡ number 4 old.held) × (new.held ≡ old.held)

-- what bytes begin with
abbrev pub BeginsWith : Front → List ℕ → Type 0
BeginsWith (front.Whole n) held =
    (held ≡ frame (take n (drop 4 held)) ++ drop (4 + n) held) × (n ≤ BODY_MAX)
    × (4 + n ≤ length held)
BeginsWith front.Part held = is_partial held ≡ true
BeginsWith (front.TooLong n) held = (is_too_long held ≡ true) × (n ≡ number 4 held)

-- where a buffer's parts lie: the last body, and the first byte that is in no frame yet
pub record IsCut (bytes : List ℕ) (capacity start body_at body_len : ℕ) : Type 0 where
  pub rest : start ≤ length bytes
  pub body : body_at + body_len ≤ length bytes
  pub few : length bytes ≤ 6148
  pub room : 6148 ≤ capacity
