-- How a run that formats ends.
use Rattle.std.proofs.Common.{◌≡◌, ℕ, List, Option, refl, inl, inr, ◌⊎◌, arith}
use Rattle.def_crash.specs.Faults.{Rose}
use Rattle.strat_model.specs.declared.ended.Ended.{Ended}
use Rattle.strat_model.specs.declared.ended.Ended.TheVariants as ended
use Rattle.strat_model.specs.Ended.{status_of}
use Rattle.castle.specs.Outcomes.{SendsLine}
use Rattle.strat_loop.specs.Session.{EndHasCause}
use Rattle.strat_loop.specs.World.{World}

-- where neither the sink nor the disk failed it is done, or found no memory
pub formatted_ends : (how : Ended) (line : List ℕ) (before now : World) → SendsLine how before.held now.held line → EndHasCause how before now
    → ¬ Rose before.sink_faults now.sink_faults → ¬ Rose before.disk_faults now.disk_faults → (status_of how ≡ 0) ⊎ (status_of how ≡ 8)
formatted_ends ended.Done line a b sends cause sink disk = inl refl
formatted_ends ended.NoMemory line a b sends cause sink disk = inr refl
formatted_ends ended.Sink line a b sends cause sink disk = absurd (sink (cause.sink refl))
formatted_ends ended.Device line a b sends cause sink disk = absurd (disk (cause.device refl))
formatted_ends ended.Usage line a b sends cause sink disk = absurd sends
formatted_ends ended.NotAStore line a b sends cause sink disk = absurd sends
formatted_ends ended.FrameTooLong line a b sends cause sink disk = absurd sends
formatted_ends ended.Truncated line a b sends cause sink disk = absurd sends
formatted_ends ended.Source line a b sends cause sink disk = absurd sends
formatted_ends (ended.Damaged block) line a b sends cause sink disk = absurd sends
formatted_ends ended.Budget line a b sends cause sink disk = absurd sends
formatted_ends ended.Unsound line a b sends cause sink disk = absurd sends
formatted_ends ended.UnknownVersion line a b sends cause sink disk = absurd sends

-- a run that formats found no memory where its status is one of these
pub formatting_gave_up : (how : Ended) (line : List ℕ) (k0 k1 : Option (List ℕ)) → SendsLine how k0 k1 line → (status_of how ≡ 2) ⊎ (status_of how ≡ 8) ⊎ (status_of how ≡ 9) → how ≡ ended.NoMemory
formatting_gave_up ended.NoMemory line k0 k1 sends is = refl
formatting_gave_up ended.Done line k0 k1 sends is = absurd (omega (arith, is))
formatting_gave_up ended.Sink line k0 k1 sends is = absurd (omega (arith, is))
formatting_gave_up ended.Device line k0 k1 sends is = absurd (omega (arith, is))
formatting_gave_up ended.Usage line k0 k1 sends is = absurd sends
formatting_gave_up ended.NotAStore line k0 k1 sends is = absurd sends
formatting_gave_up ended.FrameTooLong line k0 k1 sends is = absurd sends
formatting_gave_up ended.Truncated line k0 k1 sends is = absurd sends
formatting_gave_up ended.Source line k0 k1 sends is = absurd sends
formatting_gave_up (ended.Damaged block) line k0 k1 sends is = absurd sends
formatting_gave_up ended.Budget line k0 k1 sends is = absurd sends
formatting_gave_up ended.Unsound line k0 k1 sends is = absurd sends
formatting_gave_up ended.UnknownVersion line k0 k1 sends is = absurd sends
