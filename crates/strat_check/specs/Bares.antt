-- The versions of a key that nothing hides yet, by their numbers in an order of versions.
use Rattle.std.specs.Prelude.{nat_lt, nat_le, ◌==◌, ◌&&◌, Bool, true, ℕ, List, [], ◌∷◌, ◌++◌, take, drop}
use Rattle.std.specs.List.{list_any, list_all}
use Rattle.strat_check.specs.declared.bare.Bare.{Bare}

-- the versions are below n
abbrev pub are_bare_below : ℕ → List Bare → Bool
are_bare_below n bare = list_all (λ b. nat_lt b.version n) bare

-- their numbers descend
abbrev pub are_in_order : List Bare → Bool
are_in_order [] = true
are_in_order (b ∷ bare) = list_all (λ c. nat_lt c.start b.start) bare && are_in_order bare

-- a version is one of them
abbrev pub is_bare : List Bare → ℕ → Bool
is_bare bare v = list_any (λ b. b.version == v) bare

-- those before this place, and no others, have this number or a greater one
abbrev pub is_place_of : List Bare → ℕ → ℕ → Bool
is_place_of bare number at =
    list_all (λ b. nat_le number b.start) (take at bare)
    && list_all (λ b. nat_lt b.start number) (drop at bare)

-- a version in the place of those from one place to before another
abbrev pub replaced : List Bare → ℕ → ℕ → Bare → List Bare
replaced bare from to b = take from bare ++ b ∷ drop to bare
