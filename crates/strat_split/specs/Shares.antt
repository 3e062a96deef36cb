-- What each part has of the items of a key before it is dealt.
use Rattle.std.specs.Prelude.{◌≡◌, ◌<◌, ◌≤◌, ℕ, ◌+◌, nat_lt, Bool, false, List, length, slice_index, slice_index_or, Option, None, vec_capacity}
use Rattle.std.specs.Option.{option_map_or}
use Rattle.strat_split.specs.Chains.{first_labelled}
use Rattle.strat_split.specs.Dealing.{labels_of}
use Rattle.strat_split.specs.Waiting.{has_work, IsListed}
use Rattle.strat_split.specs.declared.shares.Shares.{Shares}
use Rattle.strat_split.specs.declared.hand.Hand.{Hand}

-- the parts with a share wait, and there is room for all parts
pub record AreShares (shares : Shares) : Type 0 where
  pub gifts_len : length shares.gifts.items ≡ length shares.heads.items
  pub listed : IsListed (has_work shares.heads.items shares.gifts.items) shares.waiting.items
  pub room : length shares.heads.items ≤ vec_capacity shares.waiting

-- a part has a lead before a place
abbrev pub is_led_before : List (Option ℕ) → ℕ → ℕ → Bool
is_led_before heads i q = option_map_or (λ k. nat_lt k i) (slice_index_or heads q None) false

-- the part of each item's version
abbrev pub labels_in : Hand → List ℕ
labels_in hand = labels_of hand.plan.now hand.items.now

-- the first place of each label is known
abbrev pub AreFirst : List ℕ → List (Option ℕ) → Type 0
AreFirst labels heads = (q : ℕ) → q < length heads
    → slice_index_or heads q None ≡ first_labelled labels q 0

-- from a place on those of one label are chained
pub record IsLeadChain (labels : List ℕ) (nexts : List (Option ℕ)) (q : ℕ) (head : Option ℕ)
    : Type 0 where
  pub first : head ≡ first_labelled labels q 0
  pub nexts_len : length labels ≤ length nexts
  pub next : (i : ℕ) → i < length labels → slice_index labels i ≡ q
      → slice_index_or nexts i None ≡ first_labelled labels q (i + 1)
