-- That something is a run of entries has one proof at most, so that a struct may keep it.
use Rattle.std.specs.Prelude.{ℕ, List, Option, refl}
use Rattle.std.specs.Coded.{Coded, Coded-set, code_by, coded×, coded_ℕ, coded_bool, coded_list, coded_option}
use Rattle.strat_base.specs.Entries.{Entry}
use Rattle.strat_merge.specs.Runs.{RunView, IsEntryRun}

-- an entry is stored as its key, its version and its value
abbrev pub entry_code : Coded Entry
entry_code =
    code_by (List ℕ × (ℕ × Option (List ℕ)))
    (coded× (coded_list coded_ℕ) (coded× coded_ℕ (coded_option (coded_list coded_ℕ))))
    (λ e. (e.key, (e.version, e.value)))
    (λ p. record { key = p.0; version = p.1.0; value = p.1.1 })
    (λ _. refl)

-- two proofs that something is a run of entries are the same
pub entry_run_prop : (run : RunView) → IsProp (IsEntryRun run)
entry_run_prop run = λ x y i.
    record {
      ascending = λ c. Coded-set coded_bool _ _ (x.ascending c) (y.ascending c) i;
      begins = λ c. Coded-set (coded_option entry_code) _ _ (x.begins c) (y.begins c) i;
      stays = λ c d agree.
          Coded-set (coded_list entry_code) _ _ (x.stays c d agree) (y.stays c d agree) i;
      fits = λ c d agree.
          Coded-set (coded_option coded_ℕ) _ _ (x.fits c d agree) (y.fits c d agree) i;
    }
