-- Entries in order, and one more that is set among them.
use Rattle.std.specs.Prelude.{List, [], ◌∷◌, fold}
use Rattle.std.specs.Ordering.{match_ordering}
use Rattle.strat_base.specs.Order.{entry_cmp}
use Rattle.strat_base.specs.Entries.{Entry}

-- entries in order with one in its place, instead of the one of its key and version if there is one
abbrev pub set_entry : Entry → List Entry → List Entry
set_entry e [] = e ∷ []
set_entry e (d ∷ entries) = match_ordering
    (entry_cmp e.key e.version d.key d.version)
    (e ∷ d ∷ entries)
    (e ∷ entries)
    (d ∷ set_entry e entries)

-- what is left of updates that are set one after another: the latest of each key and version, in order
abbrev pub set_all : List Entry → List Entry
set_all updates = fold (λ entries e. set_entry e entries) [] updates
