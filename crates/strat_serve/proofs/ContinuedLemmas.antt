-- What a run of commands and replies is continued over, and what that leaves.
use Rattle.std.proofs.Common.{◌≡◌, ◌≤◌, ℕ, zero, suc, [], ◌∷◌, length, Option, Some, None, refl, ap, subst, ◌⊎◌, inl, inr, arith}
use Rattle.std.specs.Prelude.{IfSome, IsSome}
use Rattle.std.proofs.lemmas.List.{length-map}
use Rattle.def_crash.specs.Image.{Image}
use Rattle.def_crash.specs.Moments.{DiskView, Images}
use Rattle.def_crash.specs.Trail.{At}
use Rattle.def_crash.proofs.TrailLemmas.{at_below, at_either}
use Rattle.def_publish.specs.Standing.{ShowsTable}
use Rattle.strat_model.specs.Batch.{Continuation, IsBatch, IsDeviceFault, tables_before, tables_behind}
use Rattle.strat_model.specs.Run.{Exchange, Interruption, Position, Transcript}
use Rattle.strat_model.specs.Table.{bare}
use Rattle.strat_serve.specs.Tables.{EndsAtTables}

-- over nothing, where no body met a fault
pub continued_none : (mem : ℕ) (run : Transcript) (c : Continuation mem run) → run.interruption ≡ None → c.more ≡ []
continued_none mem run c none = c.none (λ fault. subst IsDeviceFault none fault)

-- and over few bodies
pub continued_few : (mem : ℕ) (run : Transcript) (c : Continuation mem run) → length c.more ≤ 15
continued_few mem run c = go run.interruption refl
  where
    go : (o : Option Interruption) → run.interruption ≡ o → length c.more ≤ 15
    go None none = omega (arith, ap length (continued_none mem run c none))
    go (Some h) some = (subst (λ (o : Option Interruption). IfSome o (λ (i : Interruption). IsBatch mem 15 i.done c.more c.end)) some c.batch).few

-- a crash leaves the table after all that was answered otherwise than by a fault, or that behind the batch
pub either_end : (w : DiskView) (run : Transcript) (end : Position) (c : Image) → EndsAtTables run end w → Images w c
    → ShowsTable c (bare run.after.table) ⊎ (IsSome run.interruption × ShowsTable c (bare end.table))
either_end w run end c ends image =
    let found = ends c image in
    elim (at_either (tables_before run.exchanges) (bare run.after.table ∷ tables_behind run.interruption end) found.0 (ShowsTable c) found.2) [
      | inl early ↦ absurd (omega (arith, found.1, at_below (tables_before run.exchanges) found.0 (ShowsTable c) early, length-map run.exchanges (λ (x : Exchange). bare x.at.table)))
      | inr late ↦ last run.interruption late.0 late.2
    ]
  where
    last : (o : Option Interruption) (j : ℕ) → At (bare run.after.table ∷ tables_behind o end) j (ShowsTable c) → ShowsTable c (bare run.after.table) ⊎ (IsSome o × ShowsTable c (bare end.table))
    last o zero shows = inl shows
    last None (suc j) shows = absurd shows
    last (Some h) (suc zero) shows = inr (refl, shows)
    last (Some h) (suc (suc j)) shows = absurd shows
