-- What a run is continued over.
use Rattle.std.proofs.Common.{◌≡◌, ℕ, ◌+◌, List, [], ◌∷◌, ◌++◌, length, take, Option, Some, None, refl, sym, ap, subst, ◌∙◌, ◌⊎◌, inl, append-nil, arith}
use Rattle.std.specs.Prelude.{IfSome}
use Rattle.def_crash.specs.Image.{Image}
use Rattle.def_crash.specs.Moments.{DiskView}
use Rattle.strat_model.specs.Batch.{tables_before, tables_behind, tables_continued}
use Rattle.strat_model.specs.Run.{Exchange, Interruption, Transcript, bodies_of, of_interruption, tables_of}
use Rattle.strat_model.specs.Table.{Table, bare}
use Rattle.strat_model.proofs.BatchLemmas.{unbroken_tables}
use Rattle.strat_open.specs.Following.{FollowsFrom}
use Rattle.strat_loop.specs.Session.{AreNextIn}
use Rattle.strat_loop.specs.Speech.{AsksToChange, IsSpokenBatch, Speech, SpokenContinuation}

-- where the next bodies are none, the first are those of the run
next_none : (bodies : List (List ℕ)) (run : Transcript) (more : List Exchange) → more ≡ [] → take (length (bodies_of run)) bodies ≡ bodies_of run → AreNextIn bodies run more
next_none bodies run more none front =
    let same : length (bodies_of run) + 0 ≡ length (bodies_of run) = omega arith in
    subst (λ (xs : List Exchange). AreNextIn bodies run xs) (sym none) (ap (λ (n : ℕ). take n bodies) same ∙ front ∙ sym (append-nil (bodies_of run)))

module _ (speech : Speech) where
  -- a disk followed the tables of a run that is continued over the next of these bodies
  pub record Continues (v w : DiskView) (f : Image) (mem : ℕ) (bodies : List (List ℕ)) (run : Transcript) : Type 0 where
    pub continued : SpokenContinuation speech mem run
    pub next : AreNextIn bodies run continued.more
    pub follows : FollowsFrom v w f (tables_continued run continued.end) (length run.exchanges)

  -- an interrupted body asks for a change where others follow it
  abbrev OverNothingOrMore : Transcript → Interruption → List Exchange → Type 0
  OverNothingOrMore t h more = (more ≡ []) ⊎ AsksToChange speech t.after h.body h.response.tag

  -- each run may be continued over nothing
  over_nothing_spoken : (mem : ℕ) (t : Transcript) → (c : SpokenContinuation speech mem t) × (c.more ≡ []) × (tables_continued t c.end ≡ tables_of t)
  over_nothing_spoken mem t = go t.interruption refl
    where
      go : (o : Option Interruption) → t.interruption ≡ o → (c : SpokenContinuation speech mem t) × (c.more ≡ []) × (tables_continued t c.end ≡ tables_of t)
      go None is = (
        record {
          more = [];
          end = t.after;
          none = λ _. refl;
          batch = subst (λ (o : Option Interruption). IfSome o (λ (h : Interruption). IsSpokenBatch speech mem 15 h.done [] t.after)) (sym is) tt;
          change = subst (λ (o : Option Interruption). IfSome o (λ (h : Interruption). OverNothingOrMore t h [])) (sym is) tt;
        },
        refl,
        unbroken_tables t t.after is,
      )
      go (Some h) is = (
        record {
          more = [];
          end = h.done;
          none = λ _. refl;
          batch = subst (λ (o : Option Interruption). IfSome o (λ (i : Interruption). IsSpokenBatch speech mem 15 i.done [] h.done)) (sym is)
              (record { answers = []; few = omega arith; run = refl; each = tt });
          change = subst (λ (o : Option Interruption). IfSome o (λ (i : Interruption). OverNothingOrMore t i [])) (sym is) (inl refl);
        },
        refl,
        ap (λ (ts : List Table). tables_before t.exchanges ++ (bare t.after.table ∷ ts))
            (ap (λ (o : Option Interruption). tables_behind o h.done) is ∙ sym (ap (λ (o : Option Interruption). of_interruption (λ (i : Interruption). bare i.done.table) o) is)),
      )

  -- a run is continued over nothing
  pub continues_over_nothing : (v w : DiskView) (f : Image) (mem : ℕ) (bodies : List (List ℕ)) (run : Transcript) → take (length (bodies_of run)) bodies ≡ bodies_of run
      → FollowsFrom v w f (tables_of run) (length run.exchanges) → Continues v w f mem bodies run
  continues_over_nothing v w f mem bodies run front follows =
      let c = over_nothing_spoken mem run in
      record {
        continued = c.0;
        next = next_none bodies run c.0.more c.1 front;
        follows = subst (λ (ts : List Table). FollowsFrom v w f ts (length run.exchanges)) (sym c.2) follows;
      }
