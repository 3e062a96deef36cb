-- The first breach of each rule, in a place of its own.
use Rattle.std.specs.Prelude.{◌≡◌, ℕ, Bool, List, flat_map, slice_get, Option, None, option_map}
use Rattle.std.specs.Option.{option_or}
use Rattle.def_state.specs.Breach.{Breach, breach, breach_unless}
use Rattle.def_state.specs.Level.{TaggedArray, Level}
use Rattle.strat_check.specs.declared.places.ArrayPlaces.{ArrayPlaces}
use Rattle.strat_check.specs.declared.places.ArrayTold.{ArrayTold}
use Rattle.strat_check.specs.declared.places.Broken.{Broken}
use Rattle.strat_check.specs.declared.places.LevelTold.{LevelTold}
use Rattle.strat_check.specs.declared.places.Places.{Places}

-- the breach that is said in memory so
abbrev pub breach_of : Broken → Breach
breach_of b = breach b.rule b.level b.array

-- the breach in a place, if there is one
abbrev pub place_of : Option Broken → Option Breach
place_of place = option_map breach_of place

-- a breach, unless a test passes
abbrev pub first_unless : Bool → Breach → Option Breach
first_unless passes x = slice_get (breach_unless passes x) 0

-- the breaches of a rule in some arrays of a level
abbrev pub array_list : ℕ → ℕ → (TaggedArray → Bool) → List TaggedArray → List Breach
array_list rule level test arrays =
    flat_map (λ a. breach_unless (test a) (breach rule level a.id)) arrays

-- the first breach of a rule in some arrays of a level
abbrev pub first_array_breach : ℕ → ℕ → (TaggedArray → Bool) → List TaggedArray → Option Breach
first_array_breach rule level test arrays = slice_get (array_list rule level test arrays) 0

-- the first breach of a rule of arrays in some levels
abbrev pub first_in_arrays : ℕ → (Level → TaggedArray → Bool) → List Level → Option Breach
first_in_arrays rule test levels =
    slice_get (flat_map (λ level. array_list rule level.number (test level) level.arrays) levels) 0

-- the first breach of a rule of levels in some of them
abbrev pub first_in_levels : ℕ → (Level → Bool) → List Level → Option Breach
first_in_levels rule test levels =
    slice_get
    (flat_map (λ level. breach_unless (test level) (breach rule level.number 0)) levels)
    0

-- no rule of arrays has a breach yet
pub record NoArrayPlaces (p : ArrayPlaces) : Type 0 where
  pub agreeing : place_of p.agreeing ≡ None
  pub dense : place_of p.dense ≡ None
  pub led : place_of p.led ≡ None
  pub drawn : place_of p.drawn ≡ None
  pub described : place_of p.described ≡ None

-- no rule has a breach yet
pub record NoPlaces (p : Places) : Type 0 where
  pub tagged : place_of p.tagged ≡ None
  pub arrays : NoArrayPlaces p.arrays
  pub roomy : place_of p.roomy ≡ None
  pub old : place_of p.old ≡ None
  pub settled : place_of p.settled ≡ None

-- a place after a test of an array of this level
abbrev pub after_array :
    Option Broken → Bool → ℕ → ℕ → ℕ → Option Breach
after_array place passes rule level array =
    option_or (place_of place) (first_unless passes (breach rule level array))

-- places after one more array of this level
pub record KeepsArray (before now : ArrayPlaces) (level array : ℕ) (told : ArrayTold)
    : Type 0 where
  pub agreeing : place_of now.agreeing ≡ after_array before.agreeing told.agrees 99 level array
  pub dense : place_of now.dense ≡ after_array before.dense told.is_dense 100 level array
  pub led : place_of now.led ≡ after_array before.led told.is_led 101 level array
  pub drawn : place_of now.drawn ≡ after_array before.drawn told.is_drawn 102 level array
  pub described : place_of now.described
      ≡ after_array before.described told.is_described 107 level array

-- places of arrays, and behind them those of a later level
pub record JoinsArrays (before later now : ArrayPlaces) : Type 0 where
  pub agreeing : place_of now.agreeing
      ≡ option_or (place_of before.agreeing) (place_of later.agreeing)
  pub dense : place_of now.dense ≡ option_or (place_of before.dense) (place_of later.dense)
  pub led : place_of now.led ≡ option_or (place_of before.led) (place_of later.led)
  pub drawn : place_of now.drawn ≡ option_or (place_of before.drawn) (place_of later.drawn)
  pub described : place_of now.described
      ≡ option_or (place_of before.described) (place_of later.described)

-- places after one more level, with those of its arrays
pub record KeepsLevel (before now : Places) (level : ℕ) (told : LevelTold) (arrays : ArrayPlaces)
    : Type 0 where
  pub tagged : place_of now.tagged ≡ after_array before.tagged told.is_tagged 98 level 0
  pub arrays_are : JoinsArrays before.arrays arrays now.arrays
  pub roomy : place_of now.roomy ≡ after_array before.roomy told.has_room 104 level 0
  pub old : place_of now.old ≡ after_array before.old told.is_old 105 level 0
  pub settled : place_of now.settled ≡ after_array before.settled told.is_settled 106 level 0

-- the breach of the first rule that has one, in the order in which rules are tried
abbrev pub first_place : Places → Option Breach
first_place p =
    option_or (place_of p.tagged)
    (option_or (place_of p.arrays.agreeing)
    (option_or (place_of p.arrays.dense)
    (option_or (place_of p.arrays.led)
    (option_or (place_of p.arrays.drawn)
    (option_or (place_of p.roomy)
    (option_or (place_of p.old)
    (option_or (place_of p.settled) (place_of p.arrays.described))))))))
