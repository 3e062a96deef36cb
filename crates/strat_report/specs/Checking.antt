-- What a check says of a store, and what it did where it ended so.
use Rattle.std.specs.Prelude.{◌≡◌, ◌⊎◌, ℕ, Bool, true, false, List, [], ◌∷◌, Option, Some, None, Ok, Err}
use Rattle.def_bytes.specs.Damage.{Read}
use Rattle.def_state.specs.Breach.{Breach, breach}
use Rattle.strat_io.specs.Streams.{Appends}
use Rattle.strat_model.specs.declared.ended.Ended.{Ended}
use Rattle.strat_model.specs.declared.ended.Ended.TheVariants as ended
use Rattle.def_texts.specs.Texts.{text, check_line, damaged_line}
use Rattle.strat_check.specs.declared.verdict.Verdict.{Verdict}
use Rattle.strat_check.specs.declared.verdict.Verdict.TheVariants as verdict
use Rattle.strat_report.specs.Reporting.{AppendsFront}

-- what is said of what a check finds
abbrev pub check_text : Read (Option (List Breach)) → List ℕ
check_text (Ok (Some found)) = text (check_line found ∷ [])
check_text (Ok None) = []
check_text (Err block) = text (damaged_line block ∷ [])

-- how a check ends where nothing fails
abbrev pub end_of_check : Read (Option (List Breach)) → Ended
end_of_check (Ok (Some [])) = ended.Done
end_of_check (Ok (Some (b ∷ breaches))) = ended.Unsound
end_of_check (Ok None) = ended.NotAStore
end_of_check (Err block) = ended.Damaged block

-- what is said of a verdict
abbrev pub verdict_text : Verdict → List ℕ
verdict_text verdict.Sound = text (check_line [] ∷ [])
verdict_text (verdict.Unsound rule level array) =
    text (check_line (breach rule level array ∷ []) ∷ [])
verdict_text (verdict.Damaged block) = text (damaged_line block ∷ [])
verdict_text verdict.NotAStore = []
verdict_text verdict.Device = []
verdict_text verdict.NoMemory = []

-- nothing is said of a verdict
abbrev pub says_nothing : Verdict → Bool
says_nothing verdict.Sound = false
says_nothing (verdict.Unsound rule level array) = false
says_nothing (verdict.Damaged block) = false
says_nothing verdict.NotAStore = true
says_nothing verdict.Device = true
says_nothing verdict.NoMemory = true

-- how a check with a verdict ends, if the sink takes what is said
abbrev pub verdict_end : Verdict → Ended
verdict_end verdict.Sound = ended.Done
verdict_end (verdict.Unsound rule level array) = ended.Unsound
verdict_end (verdict.Damaged block) = ended.Damaged block
verdict_end verdict.NotAStore = ended.NotAStore
verdict_end verdict.Device = ended.Device
verdict_end verdict.NoMemory = ended.NoMemory

-- the ends of a check
abbrev pub EndsCheck : Ended → Type 0
EndsCheck ended.Done = Unit {0}
EndsCheck ended.NotAStore = Unit {0}
EndsCheck ended.Device = Unit {0}
EndsCheck ended.Sink = Unit {0}
EndsCheck ended.NoMemory = Unit {0}
EndsCheck (ended.Damaged block) = Unit {0}
EndsCheck ended.Unsound = Unit {0}
EndsCheck _ = ⊥

-- a check ended as what it finds says, and wrote all that is said of that; or memory ran out and it wrote nothing
abbrev pub SaysCheck :
    Read (Option (List Breach)) → Ended → Option (List ℕ) → Option (List ℕ) → Type 0
SaysCheck found how before now =
    ((how ≡ end_of_check found) × Appends before now (check_text found))
    ⊎ ((how ≡ ended.NoMemory) × (now ≡ before))

-- a check did so, or the sink failed and took the front of what is said; or the device failed and nothing was written
abbrev pub WritesCheck :
    Read (Option (List Breach)) → Ended → Option (List ℕ) → Option (List ℕ) → Type 0
WritesCheck found how before now =
    SaysCheck found how before now
    ⊎ ((how ≡ ended.Sink) × AppendsFront before now (check_text found))
    ⊎ ((how ≡ ended.Device) × (now ≡ before))
