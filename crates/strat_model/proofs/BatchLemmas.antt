-- Runs that are continued over the rest of a batch.
use Rattle.std.proofs.Common.{◌≡◌, ◌≤◌, ℕ, ◌+◌, List, [], ◌∷◌, ◌++◌, length, take, Option, Some, None, refl, sym, ap, subst, inl, ◌∙◌, append_assoc, length-append, arith}
use Rattle.std.specs.Prelude.{IfSome, ◌⊎◌}
use Rattle.std.proofs.lemmas.List.{length-map, take_at}
use Rattle.strat_model.specs.Batch.{AsksForChange, Continuation, IsBatch, tables_before, tables_behind, tables_continued}
use Rattle.strat_model.specs.Run.{Exchange, Interruption, Position, Transcript, of_interruption, tables_of}
use Rattle.strat_model.specs.Table.{Table, bare}

-- the tables of an interruption, and none
abbrev broken_off : Option Interruption → List Table
broken_off o = of_interruption (λ (h : Interruption). bare h.done.table) o

-- where a run was not interrupted it has no other tables
pub unbroken_tables : (t : Transcript) (end : Position) → t.interruption ≡ None → tables_continued t end ≡ tables_of t
unbroken_tables t end none =
    ap (λ (ts : List Table). tables_before t.exchanges ++ (bare t.after.table ∷ ts))
    (ap (λ (o : Option Interruption). tables_behind o end) none ∙ sym (ap broken_off none))

-- an interrupted body asks for a change where others follow it
abbrev OverNothingOrChange : Transcript → Interruption → List Exchange → Type 0
OverNothingOrChange t h more = (more ≡ []) ⊎ AsksForChange t.after h.body h.response

-- each run may be continued over nothing
pub over_nothing : (mem : ℕ) (t : Transcript) → (c : Continuation mem t) × (c.more ≡ []) × (tables_continued t c.end ≡ tables_of t)
over_nothing mem t = go t.interruption refl
  where
    go : (o : Option Interruption) → t.interruption ≡ o → (c : Continuation mem t) × (c.more ≡ []) × (tables_continued t c.end ≡ tables_of t)
    go None is = (
      record {
        more = [];
        end = t.after;
        none = λ _. refl;
        batch = subst (λ (o : Option Interruption). IfSome o (λ (h : Interruption). IsBatch mem 15 h.done [] t.after)) (sym is) tt;
        change = subst (λ (o : Option Interruption). IfSome o (λ (h : Interruption). OverNothingOrChange t h [])) (sym is) tt;
      },
      refl,
      unbroken_tables t t.after is,
    )
    go (Some h) is = (
      record {
        more = [];
        end = h.done;
        none = λ _. refl;
        batch = subst (λ (o : Option Interruption). IfSome o (λ (i : Interruption). IsBatch mem 15 i.done [] h.done)) (sym is)
            (record { few = omega arith; run = refl; each = tt });
        change = subst (λ (o : Option Interruption). IfSome o (λ (i : Interruption). OverNothingOrChange t i [])) (sym is) (inl refl);
      },
      refl,
      ap (λ (ts : List Table). tables_before t.exchanges ++ (bare t.after.table ∷ ts))
          (ap (λ (o : Option Interruption). tables_behind o h.done) is ∙ sym (ap broken_off is)),
    )

-- the first tables are those of the run up to its interruption
front_of : (xs ys : List Table) (x : Table) (n : ℕ) → n ≡ length xs + 1 → take n (xs ++ (x ∷ ys)) ≡ xs ++ x ∷ []
front_of xs ys x n is =
    ap (take n) (sym (append_assoc xs (x ∷ []) ys))
    ∙ take_at (xs ++ x ∷ []) ys n (omega (arith, is, length-append xs (x ∷ [])))

pub same_front : (t : Transcript) (end : Position)
    → take (length t.exchanges + 1) (tables_continued t end) ≡ take (length t.exchanges + 1) (tables_of t)
same_front t end =
    let many : length t.exchanges + 1 ≡ length (tables_before t.exchanges) + 1 = ap (λ (n : ℕ). n + 1) (sym (length-map t.exchanges (λ (x : Exchange). bare x.at.table))) in
    front_of (tables_before t.exchanges) (tables_behind t.interruption end) (bare t.after.table) (length t.exchanges + 1) many
    ∙ sym (front_of (tables_before t.exchanges) (broken_off t.interruption) (bare t.after.table) (length t.exchanges + 1) many)

-- one at most is behind the last of them
few_behind : (o : Option Interruption) (end : Position) → length (tables_behind o end) ≤ 1
few_behind None end = omega arith
few_behind (Some h) end = omega arith

pub few_tables : (t : Transcript) (end : Position) → length (tables_continued t end) ≤ length t.exchanges + 2
few_tables t end =
    omega (
      arith,
      few_behind t.interruption end,
      length-append (tables_before t.exchanges) (bare t.after.table ∷ tables_behind t.interruption end),
      length-map t.exchanges (λ (x : Exchange). bare x.at.table),
    )
