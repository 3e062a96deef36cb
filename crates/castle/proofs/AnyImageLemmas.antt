-- A serving run over a disk whose images show several tables.
use Rattle.std.proofs.Common.{◌≤◌, ◌⊎◌, ℕ, zero, suc, List, [], ◌∷◌, inl, inr, arith}
use Rattle.std.proofs.lemmas.Bool.{cases_lt}
use Rattle.def_crash.specs.Image.{Image}
use Rattle.def_crash.specs.Moments.{DiskView, Images, Since}
use Rattle.def_crash.specs.Trail.{At}
use Rattle.strat_model.specs.Batch.{tables_continued}
use Rattle.strat_model.specs.Run.{Position, Transcript}
use Rattle.strat_model.specs.Table.{Table}
use Rattle.def_publish.specs.Several.{EachShows, ShowsOneOf}
use Rattle.def_publish.specs.Standing.{ShowsTable}
use Rattle.strat_serve.specs.Tables.{GoesThroughTables}
use Rattle.castle.specs.Headline.{HasNotBegun}

-- an element of a list that an image shows is a table
at_table : (c : Image) (tables : List Table) (i : ℕ) → At tables i (ShowsTable c) → (t : Table) × ShowsTable c t
at_table c [] i there = absurd there
at_table c (t ∷ tables) zero there = (t, there)
at_table c (t ∷ tables) (suc i) there = at_table c tables i there

module _ (before now : DiskView) (each : EachShows before) (status : ℕ) (run : Transcript) (end : Position) (f : Image) where
  abbrev IsOfEither : Image → Type 0
  IsOfEither c = ShowsOneOf before c ⊎ ((i : ℕ) × At (tables_continued run end) i (ShowsTable c))

  was : (c : Image) → Images before c → IsOfEither c
  was c left = inl (record { table = (each c left).0; shows = (each c left).1; image = c; left = left; same = (each c left).1 })

  -- whether the run began or not
  pub ran_whole : GoesThroughTables run end f before now ⊎ HasNotBegun status run before now → (c : Image) → Since now before.moment c → IsOfEither c
  ran_whole (inl goes) = λ c since. elim (cases_lt since.at goes.synced) [
    | inl early ↦ was c (goes.until since.at c since.from (omega (arith, early)) since.left)
    | inr late ↦
        let one = goes.trail.each 0 since.at c (omega arith) (omega (arith, late, goes.trail.first)) since.till since.left in
        inr (one.0, one.2)
  ]
  ran_whole (inr none) = λ c since. was c (none.kept c since)

  -- and each image at the end shows a table
  pub each_again : before.moment ≤ now.moment → ((c : Image) → Since now before.moment c → IsOfEither c) → EachShows now
  each_again later shown = λ c left.
      elim (shown c (record { at = now.moment; from = later; till = omega arith; left = left })) [
        | inl one ↦ (one.table, one.shows)
        | inr there ↦ at_table c (tables_continued run end) there.0 there.1
      ]
