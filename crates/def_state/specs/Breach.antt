-- The rules that a state breaks, in the order in which they are tried.
use Rattle.std.specs.Prelude.{◌≡◌, ℕ, Bool, true, false, List, [], ◌∷◌, ◌++◌, flat_map}
use Rattle.def_state.specs.Level.{TaggedArray, Level, has_disjoint_tags, has_live_tagged, agrees, is_dense, is_led, is_drawn, has_single_leads}
use Rattle.def_state.specs.State.{State, versions_of}
use Rattle.def_state.specs.Sound.{has_room, has_old_horizon, is_above_frozen, is_described, has_few_leads, has_ascending_entries, IsWellFormed, IsSound}

-- a rule's letter, with the level and the array that break it, or 0 where it is no single one
pub record Breach : Type 0 where
  pub rule : ℕ
  pub level : ℕ
  pub array : ℕ

-- a breach of these three
abbrev pub breach : ℕ → ℕ → ℕ → Breach
breach rule level array = record { rule = rule; level = level; array = array }

-- a breach, unless a test passes
abbrev pub breach_unless : Bool → Breach → List Breach
breach_unless true x = []
breach_unless false x = x ∷ []

-- the breaches of a rule of levels
abbrev pub level_breaches : State → ℕ → (Level → Bool) → List Breach
level_breaches s rule test =
    flat_map (λ level. breach_unless (test level) (breach rule level.number 0)) s.levels

-- the breaches of a rule of arrays
abbrev pub array_breaches : State → ℕ → (Level → TaggedArray → Bool) → List Breach
array_breaches s rule test =
    flat_map
    (λ level. flat_map
    (λ a. breach_unless (test level a) (breach rule level.number a.id)) level.arrays)
    s.levels

-- what a state breaks: m first, then a to l, the shallowest levels first
abbrev pub breaches : State → List Breach
breaches s =
    array_breaches s 109 (λ level a. has_ascending_entries a)
    ++ level_breaches s 97 has_disjoint_tags
    ++ level_breaches s 98 (has_live_tagged (versions_of s))
    ++ array_breaches s 99 (agrees (versions_of s))
    ++ array_breaches s 100 (λ level a. is_dense (versions_of s) a)
    ++ array_breaches s 101 (λ level a. is_led a)
    ++ array_breaches s 102 is_drawn
    ++ level_breaches s 103 has_single_leads
    ++ level_breaches s 104 (has_room s)
    ++ level_breaches s 105 (has_old_horizon s)
    ++ level_breaches s 106 (is_above_frozen s)
    ++ array_breaches s 107 (λ level a. is_described s a)
    ++ breach_unless (has_few_leads s) (breach 108 0 0)

-- a state is well formed but not sound, and its breaches are exactly these
pub record Breaks (s : State) (found : List Breach) : Type 0 where
  pub formed : IsWellFormed s
  pub unsound : IsSound s → ⊥
  pub exactly : breaches s ≡ found
