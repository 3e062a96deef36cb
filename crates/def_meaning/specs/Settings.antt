-- The state of a store of settings with two clones.
use Rattle.std.specs.Prelude.{[], ◌∷◌, codes}
use Rattle.strat_base.specs.Change.{Put, Delete, Clone}
use Rattle.def_state.specs.State.{State, fresh_state}

-- two settings, two clones of them, and a change in each clone, all of it in the journal
abbrev pub settings : State
settings = record (fresh_state 64 100000 100) {
  journal =
      Put 0 (codes "user/1/name") (codes "Ann") ∷ Put 0 (codes "user/2/name") (codes "Bob")
      ∷ Clone 0 ∷ Clone 0
      ∷ Put 1 (codes "user/2/name") (codes "Rob") ∷ Delete 2 (codes "user/1/name") ∷ [];
}
