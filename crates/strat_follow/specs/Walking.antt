-- Records of changes that are read one after the other.
use Rattle.std.specs.Prelude.{◌≡◌, ℕ, List, length, drop, Option, Some, None, IsTrue}
use Rattle.std.specs.List.{list_all}
use Rattle.strat_base.specs.Change.{Change, is_lawful}
use Rattle.strat_base.specs.ChangeView.{change_of}
use Rattle.strat_base.specs.declared.changes.Change.{Change as Borrowed}
use Rattle.def_bytes.specs.Records.{records_bytes}

-- these bytes are the records of so many changes
pub record ArePutTogether (bytes : List ℕ) (count : ℕ) (list : List Change) : Type 0 where
  pub text : bytes ≡ records_bytes list
  pub number : length list ≡ count
  pub lawful : IsTrue (list_all is_lawful list)

-- a record was found whose change is this one, and these follow it
abbrev pub FindsRecord : List ℕ → Option (Borrowed × ℕ) → Change → List Change → Type 0
FindsRecord bytes None c rest = ⊥
FindsRecord bytes (Some r) c rest =
    (change_of r.0 ≡ c) × (drop r.1 bytes ≡ records_bytes rest)
