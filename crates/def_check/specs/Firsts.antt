-- The first breach of a state, rule by rule, and the tests of rules that need one number.
use Rattle.std.specs.Prelude.{ℕ, ◌==◌, ◌&&◌, false, List, [], ◌∷◌, length, slice_get, find, Option, None}
use Rattle.std.specs.List.{range_with_len}
use Rattle.std.specs.Option.{option_or, option_map_or}
use Rattle.strat_base.specs.Tree.{parent_of}
use Rattle.def_state.specs.Breach.{Breach, breach, breach_unless, level_breaches, array_breaches}
use Rattle.def_state.specs.Level.{has_disjoint_tags, has_live_tagged, agrees, is_dense, is_led, is_drawn, has_single_leads}
use Rattle.def_state.specs.Sound.{has_room, has_old_horizon, is_above_frozen, is_described, has_few_leads, has_ascending_entries}
use Rattle.def_state.specs.State.{State, versions_of, is_living}

-- the breaches of each rule, in the order in which rules are tried
abbrev pub by_rule : State → List (List Breach)
by_rule s =
    array_breaches s 109 (λ level a. has_ascending_entries a)
    ∷ level_breaches s 97 has_disjoint_tags
    ∷ level_breaches s 98 (has_live_tagged (versions_of s))
    ∷ array_breaches s 99 (agrees (versions_of s))
    ∷ array_breaches s 100 (λ level a. is_dense (versions_of s) a)
    ∷ array_breaches s 101 (λ level a. is_led a)
    ∷ array_breaches s 102 is_drawn
    ∷ level_breaches s 103 has_single_leads
    ∷ level_breaches s 104 (has_room s)
    ∷ level_breaches s 105 (has_old_horizon s)
    ∷ level_breaches s 106 (is_above_frozen s)
    ∷ array_breaches s 107 (λ level a. is_described s a)
    ∷ breach_unless (has_few_leads s) (breach 108 0 0)
    ∷ []

-- the first item of the first list that has one
abbrev pub first_in : {A : Type 0} → List (List A) → Option A
first_in [] = None
first_in (xs ∷ lists) = option_or (slice_get xs 0) (first_in lists)

-- the least living child of a version, if it has one
abbrev pub first_child : State → ℕ → Option ℕ
first_child s v =
    find
    (λ c. option_map_or (λ p. p == v) (parent_of (versions_of s) c) false && is_living s c)
    (range_with_len 0 (length (versions_of s)))
